use Rattle.apollo_meaning.proofs.Prelude.{◌≡◌, [], take, extended_parts}
use Rattle.apollo_folding.proofs.adoption.add_first.Given as goal

abbrev pub invariant-loop-definition : goal.invariant-loop-definition
invariant-loop-definition l = record {
  firsts : l.firsts ≡ l.fn.firsts;
  none : extended_parts (take l.definition-index l.extensions) ≡ [];
}
