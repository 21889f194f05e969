-- Typed selections whose types are right over a schema value, or without a schema. Each set is from the child
-- type of what holds it. Each field has the definition that the schema gives for its name in that type. Each
-- selection is typable. GraphQL specification of October 2021, sections 2.4 to 2.8.
use Rattle.std.specs.Prelude.{◌≡◌, Option, Ok}
use Rattle.std.specs.List.{AllByRecursion}
use Rattle.graphql_nodes.specs.NameView.{NameView}
use Rattle.apollo_schema.specs.declared.schema.Schema.{Schema}
use Rattle.apollo_executable.specs.declared.selection.Selection.{Selection}
use Rattle.apollo_executable.specs.declared.selection.Selection.TheOpen.{Selection-F, Field-F}
use Rattle.apollo_executable.specs.declared.selection.Selection.TheOpen.{InlineFragment-F, SelectionSet-F}
use Rattle.apollo_executable.specs.declared.selection.Selection.TheFolds as folds
use Rattle.apollo_executable.specs.declared.selection.Field.{Field}
use Rattle.apollo_executable.specs.declared.selection.InlineFragment.{InlineFragment}
use Rattle.apollo_executable.specs.declared.selection.SelectionSet.{SelectionSet}
use Rattle.apollo_document.specs.Typable.{child_of, is_bare, typable_field, typable_fragment}

-- a claim on what stands in a type
abbrev pub In : Type 1
In = NameView → Type 0

-- one level of typed selections. X, X', X'' and X3 stand for what is below, the functions v for the typed
-- values themselves, and the functions k for the claims on what is below
module _ (s : Option Schema) (X X' X'' X3 : Type 0) where
  module _ (v : X → Selection) (v' : X' → Field) (v'' : X'' → InlineFragment) (v3 : X3 → SelectionSet) where
    module _ (k : X → In) (k' : X' → In) (k'' : X'' → In) (k3 : X3 → In) where
      -- one level of a selection: what is in its node is right for the type
      abbrev pub selection_in : Selection-F X X' X'' X3 → In
      selection_in (Selection-F.Field n) ty = k' n.value ty
      selection_in (Selection-F.FragmentSpread n) ty = Unit {0}
      selection_in (Selection-F.InlineFragment n) ty = k'' n.value ty

      -- one level of a field: it is typable with the definition that it has, and its set is right for its
      -- child type
      abbrev pub typed_field_in : Field-F X X' X'' X3 → In
      typed_field_in f ty =
          (typable_field s ty f.name (is_bare (v3 f.selection_set).selections) ≡ Ok f.definition)
          × k3 f.selection_set (child_of f.definition)

      -- one level of an inline fragment: it is typable, and its set is right for its child type
      abbrev pub typed_fragment_in : InlineFragment-F X X' X'' X3 → In
      typed_fragment_in f ty = (child : NameView)
          × ((typable_fragment s ty f.type_condition ≡ Ok child) × k3 f.selection_set child)

      -- one level of a set: it is from this type, and each of its selections is right for it
      abbrev pub set_in : SelectionSet-F X X' X'' X3 → In
      set_in x ty = (x.ty ≡ ty) × AllByRecursion (λ (y : X). k y ty) x.selections

-- a selection is typed in a type, and so is what is below it
abbrev pub IsTyped : Option Schema → NameView → Selection → Type 0
IsTyped s ty x =
    folds.rec-Selection In In In In (selection_in s) (typed_field_in s) (typed_fragment_in s) (set_in s) x ty

-- a field is typed in a type, and so is what is below it
abbrev pub IsTypedField : Option Schema → NameView → Field → Type 0
IsTypedField s ty x =
    folds.rec-Field In In In In (selection_in s) (typed_field_in s) (typed_fragment_in s) (set_in s) x ty

-- an inline fragment is typed in a type, and so is what is below it
abbrev pub IsTypedFragment : Option Schema → NameView → InlineFragment → Type 0
IsTypedFragment s ty x =
    folds.rec-InlineFragment In In In In (selection_in s) (typed_field_in s) (typed_fragment_in s) (set_in s)
    x ty

-- a set is typed in a type, and so is what is below it
abbrev pub IsTypedSet : Option Schema → NameView → SelectionSet → Type 0
IsTypedSet s ty x =
    folds.rec-SelectionSet In In In In (selection_in s) (typed_field_in s) (typed_fragment_in s) (set_in s)
    x ty
