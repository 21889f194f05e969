use Rattle.apollo_meaning.proofs.Prelude.{ℕ, List, ◌++◌, take, ListItem}
use Rattle.apollo_folding.specs.Adopting.{adopted_for_each}
use Rattle.apollo_schema.specs.Stands.{Stands}
use Rattle.apollo_schema.proofs.tables.Tables.adopt_each.Given as goal

abbrev pub invariant-loop-extension : goal.invariant-loop-extension
invariant-loop-extension l =
    let taken = adopted_for_each (take l.extension-index l.firsts) in
    (start : ℕ) (xs : List ListItem) → Stands start xs l.fn.self → Stands start (xs ++ taken) l.self
