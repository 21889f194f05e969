use Rattle.apollo_meaning.proofs.Prelude.{ℕ, List, [], ◌∷◌, ◌++◌, take, flat_map, ListItem, added_item}
use Rattle.apollo_schema.specs.Stands.{Stands}
use Rattle.apollo_schema.proofs.tables.Tables.take.Given as goal

abbrev pub invariant-loop-definition : goal.invariant-loop-definition
invariant-loop-definition l =
    let taken = flat_map (λ d. added_item (l.ignores, d) ∷ []) (take l.definition-index l.definitions) in
    (start : ℕ) (xs : List ListItem) → Stands start xs l.fn.self → Stands start (xs ++ taken) l.self
