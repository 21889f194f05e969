-- Without their places, fields are those that stand in selections.
use Rattle.std.proofs.Common.{◌≡◌, List, true, map, refl}
use Rattle.std.proofs.lemmas.List.{map-append}
use Rattle.graphql_nodes.specs.NameView.{NameView}
use Rattle.graphql_nodes.specs.NodeView.{NodeView}
use Rattle.apollo_document.specs.declared.selection_path.SelectionPath.{SelectionPath}
use Rattle.apollo_executable.specs.Walks.FieldsIn.{fields_in}
use Rattle.apollo_executable.specs.declared.selection.Selection.{Selection}
use Rattle.apollo_executable.specs.declared.selection.Field.{Field}
use Rattle.apollo_executable.proofs.Selections.Induction.{of_selections}
use Rattle.apollo_executable.proofs.Walking.ReadingLemmas.{of_fields, none-read, field-read, spread-read}
use Rattle.apollo_executable.proofs.Walking.ReadingLemmas.{inline-read}
use Rattle.leafcheck.specs.PlacedFields.{PlacedField, placed, placed_fields}
use Rattle.leafcheck.proofs.PlacedLemmas.{placed-none, placed-field, placed-spread, placed-inline}

abbrev nodes : List PlacedField → List (NodeView Field)
nodes = map (λ (f : PlacedField). f.node)

abbrev IsPlaceless : List Selection → Type 0
IsPlaceless selections = (ty : NameView) (path : SelectionPath) → nodes (placed_fields ty path selections)
    ≡ fields_in true selections

pub placeless : (ty : NameView) (path : SelectionPath) (selections : List Selection)
    → nodes (placed_fields ty path selections) ≡ fields_in true selections
placeless ty path selections =
    of_selections IsPlaceless (λ ty path. rw (placed-none ty path, none-read of_fields true) refl)
    (λ n others below rest ty path. rw (
      placed-field ty path n others,
      field-read of_fields true n others,
      map-append (λ (f : PlacedField). f.node),
      below n.value.selection_set.ty (placed ty path n).path,
      rest ty path,
    ) refl)
    (λ n others rest ty path. rw (placed-spread ty path n others, spread-read of_fields true n others)
    (rest ty path)) (λ n others inside rest ty path.
    rw (
      placed-inline ty path n others,
      inline-read of_fields true n others,
      map-append (λ (f : PlacedField). f.node),
      inside n.value.selection_set.ty path,
      rest ty path,
    ) refl) selections ty path
