-- The fields that stand in selections, each with its place. They are in the order in which a walk would come
-- to them: each before those below it, through inline fragments, but not through spreads. GraphQL
-- specification of October 2021, sections 2.4 to 2.8.
--
-- A path begins with the operation or fragment, by its own name. It goes on with the response keys of the
-- fields around the field, its own key last.
use Rattle.std.specs.Prelude.{List, [], ◌∷◌}
use Rattle.std.specs.List.{flat_map}
use Rattle.graphql_nodes.specs.NameView.{NameView}
use Rattle.graphql_nodes.specs.NodeView.{NodeView}
use Rattle.apollo_document.specs.SelectionFaults.{inside}
use Rattle.apollo_document.specs.declared.selection_path.SelectionPath.{SelectionPath}
use Rattle.apollo_executable.specs.SelectionParts.{response_key}
use Rattle.apollo_executable.specs.SelectionReading.{WithParts, read_all}
use Rattle.apollo_executable.specs.Walks.Plain.{node_of}
use Rattle.apollo_executable.specs.declared.selection.Selection.{Selection}
use Rattle.apollo_executable.specs.declared.selection.Selection.TheOpen.{Selection-F}
use Rattle.apollo_executable.specs.declared.selection.Field.{Field}

-- a field with its place
pub record PlacedField : Type 0 where
  pub node : NodeView Field
  -- the type of the set that it stands in
  pub parent_type : NameView
  -- its path, whose last key is its own
  pub path : SelectionPath

-- a field that stands in a set from this type, which has this path
abbrev pub placed : NameView → SelectionPath → NodeView Field → PlacedField
placed ty path n = record { node = n; parent_type = ty; path = inside path (response_key n.value) }

-- the fields of a selection, by the type of the set that it stands in, and by the path of that
abbrev pub Standing : Type 0
Standing = NameView → SelectionPath → List PlacedField

-- the fields of a set, by its path
abbrev pub Below : Type 0
Below = SelectionPath → List PlacedField

-- a field stands in a selection itself, and then those of its set do
abbrev pub fields_of_one : WithParts Standing Below → Standing
fields_of_one (Selection-F.Field n) ty path =
    placed ty path (node_of n) ∷ n.value.1 (placed ty path (node_of n)).path
fields_of_one (Selection-F.FragmentSpread n) ty path = []
fields_of_one (Selection-F.InlineFragment n) ty path = n.value.1 path

-- the fields of the selections of a set from this type
abbrev pub fields_of_all : NameView → List (Selection × Standing) → Below
fields_of_all ty selections path = flat_map (λ (s : Selection × Standing). s.1 ty path) selections

-- the fields of selections that stand in a set from this type, which has this path
unfoldable pub placed_fields : NameView → SelectionPath → List Selection → List PlacedField
placed_fields ty path selections = read_all fields_of_one fields_of_all ty selections path
