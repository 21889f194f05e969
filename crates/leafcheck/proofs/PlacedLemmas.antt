-- The fields of selections with their places, at each kind of selection.
use Rattle.std.proofs.Common.{◌≡◌, List, [], ◌∷◌, ◌++◌, map, refl, ap}
use Rattle.std.proofs.lemmas.Grind.{flat_map-append}
use Rattle.std.proofs.lemmas.List.{map-append}
use Rattle.graphql_nodes.specs.NameView.{NameView}
use Rattle.graphql_nodes.specs.NodeView.{NodeView}
use Rattle.apollo_document.specs.declared.selection_path.SelectionPath.{SelectionPath}
use Rattle.apollo_executable.specs.SelectionReading.{read_one}
use Rattle.apollo_executable.specs.declared.selection.Selection.{Selection}
use Rattle.apollo_executable.specs.declared.selection.Selection.TheVariants as variant
use Rattle.apollo_executable.specs.declared.selection.Field.{Field}
use Rattle.apollo_executable.specs.declared.selection.InlineFragment.{InlineFragment}
use Rattle.apollo_executable.specs.declared.selection.FragmentSpread.{FragmentSpread}
use Rattle.apollo_executable.proofs.Selections.ReadLemmas.{read-field, read-spread, read-inline}
use Rattle.leafcheck.specs.PlacedFields.{PlacedField, Standing, placed, fields_of_one, fields_of_all}
use Rattle.leafcheck.specs.PlacedFields.{placed_fields}

module _ (ty : NameView) (path : SelectionPath) where
  pub placed-none : placed_fields ty path [] ≡ []
  unfolding placed_fields
  placed-none = refl

  pub placed-joined : (first others : List Selection)
      → placed_fields ty path (first ++ others) ≡ placed_fields ty path first ++ placed_fields ty path others
  unfolding placed_fields
  placed-joined first others =
      let read : Selection → Selection × Standing = λ s. (s, read_one fields_of_one fields_of_all s) in
      let fields : Selection × Standing → List PlacedField = λ s. s.1 ty path in
      rw (map-append read first others) (flat_map-append fields (map read first) (map read others))

  pub placed-field : (n : NodeView Field) (others : List Selection)
      → placed_fields ty path (variant.Field n ∷ others) ≡ placed ty path n
      ∷ (placed_fields n.value.selection_set.ty (placed ty path n).path n.value.selection_set.selections
      ++ placed_fields ty path others)
  unfolding placed_fields
  placed-field n others = ap (λ (s : Standing). s ty path ++ placed_fields ty path others)
      (read-field fields_of_one fields_of_all n)

  pub placed-spread : (n : NodeView FragmentSpread) (others : List Selection)
      → placed_fields ty path (variant.FragmentSpread n ∷ others) ≡ placed_fields ty path others
  unfolding placed_fields
  placed-spread n others = ap (λ (s : Standing). s ty path ++ placed_fields ty path others)
      (read-spread fields_of_one fields_of_all n)

  pub placed-inline : (n : NodeView InlineFragment) (others : List Selection)
      → placed_fields ty path (variant.InlineFragment n ∷ others) ≡ placed_fields n.value.selection_set.ty
      path n.value.selection_set.selections ++ placed_fields ty path others
  unfolding placed_fields
  placed-inline n others = ap (λ (s : Standing). s ty path ++ placed_fields ty path others)
      (read-inline fields_of_one fields_of_all n)
