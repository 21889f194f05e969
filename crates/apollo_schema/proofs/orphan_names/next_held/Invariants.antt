use Rattle.apollo_meaning.proofs.Prelude.{◌≡◌, length}
use Rattle.apollo_schema.specs.NamesLeft.{names_held}
use Rattle.apollo_schema.proofs.orphan_names.next_held.Given as goal

abbrev pub invariant-loop-name : goal.invariant-loop-name
invariant-loop-name l = names_held l.fn.entries ≡ names_held l.entries

abbrev pub decreases-loop-name : goal.decreases-loop-name
decreases-loop-name l = length l.entries
