use Rattle.std.proofs.Common.{◌≡◌, map, take}
use Rattle.apollo_meaning.specs.BuiltInRows.{row_field}
use Rattle.apollo_meaning.proofs.built_in_nodes.fields.Given as goal

abbrev pub invariant-loop-row : goal.invariant-loop-row
invariant-loop-row l = l.fields ≡ map row_field (take l.row-index l.rows)
