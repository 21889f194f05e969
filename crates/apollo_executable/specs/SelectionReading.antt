-- What is read of typed selections, from the innermost ones out: GraphQL specification of October 2021,
-- sections 2.4 to 2.8. Of a field and of an inline fragment it is what is read of their sets.
use Rattle.std.specs.Prelude.{List, map}
use Rattle.graphql_nodes.specs.NameView.{NameView}
use Rattle.apollo_executable.specs.declared.selection.Selection.{Selection, para-Selection}
use Rattle.apollo_executable.specs.declared.selection.Selection.TheOpen.{Selection-F}
use Rattle.apollo_executable.specs.declared.selection.Field.{Field}
use Rattle.apollo_executable.specs.declared.selection.InlineFragment.{InlineFragment}
use Rattle.apollo_executable.specs.declared.selection.SelectionSet.{SelectionSet}

-- a selection, with what is read of its parts: `One` of a selection, `All` of a set
abbrev pub WithParts : Type 0 → Type 0 → Type 0
WithParts One All = Selection-F (Selection × One) (Field × All) (InlineFragment × All) (SelectionSet × All)

-- what is read of a selection, where `one` reads a selection and `all` the selections of a set of some type
abbrev pub read_one : {One All : Type 0} → (WithParts One All → One)
    → (NameView → List (Selection × One) → All) → Selection → One
read_one {One} {All} one all =
    para-Selection One All All All one (λ f. f.selection_set.1) (λ f. f.selection_set.1)
    (λ s. all s.ty s.selections)

-- what is read of the selections of a set of some type
abbrev pub read_all : {One All : Type 0} → (WithParts One All → One)
    → (NameView → List (Selection × One) → All) → NameView → List Selection → All
read_all one all ty selections = all ty (map (λ s. (s, read_one one all s)) selections)
