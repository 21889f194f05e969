use Rattle.std.proofs.Common.{◌≡◌, map, take}
use Rattle.apollo_meaning.specs.BuiltInNodes.{enum_value}
use Rattle.apollo_meaning.proofs.built_in_nodes.enum_values.Given as goal

abbrev pub invariant-loop-text : goal.invariant-loop-text
invariant-loop-text l = l.values ≡ map (λ text. enum_value text.now) (take l.text-index l.texts)
