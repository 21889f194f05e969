-- The names of the fragments that are spread in selections, in order: below fields, through inline fragments,
-- but not through spreads. GraphQL specification of October 2021, sections 2.4 to 2.8.
use Rattle.std.specs.Prelude.{ℕ, Bool, List}
use Rattle.apollo_walks.specs.Selections.{spread_names}
use Rattle.apollo_executable.specs.Walks.Plain.{plain}
use Rattle.apollo_executable.specs.declared.selection.Selection.{Selection}

-- where `deep` is false, without those below fields
abbrev pub spreads_in : Bool → List Selection → List (List ℕ)
spreads_in deep selections = spread_names (plain deep selections)
