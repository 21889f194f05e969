-- The places at which a build dropped selections: GraphQL specification of October 2021, sections 2.4 to 2.8.
use Rattle.std.specs.Prelude.{List, [], ◌∷◌, length, Option, None, Some, take}
use Rattle.std.specs.List.{filter_map}
use Rattle.std.specs.List.Sorted.{IsSortedBy}
use Rattle.std.specs.Ordering.{is_lt}
use Rattle.graphql_nodes.specs.NameView.{NameView}
use Rattle.apollo_document.specs.Typable.{Fault}
use Rattle.apollo_document.specs.declared.build_error.BuildError.{BuildError}
use Rattle.apollo_document.specs.declared.build_error.BuildError.TheVariants as e
use Rattle.apollo_document.specs.declared.selection_path.ExecutableDefinitionName.{ExecutableDefinitionName}
use Rattle.apollo_document.specs.declared.selection_path.SelectionPath.{SelectionPath}
use Rattle.leafcheck.specs.PathOrder.{path_cmp}
use Rattle.leafcheck.specs.declared.places.Place.{Place}

-- the path that is lent
abbrev pub path_at : Place → SelectionPath
path_at place = record { root = place.root.now; nested_fields = place.keys.now }

-- the path of a definition and some keys, but for the last of these, if there is one
abbrev pub without_last : ExecutableDefinitionName → List NameView → Option SelectionPath
without_last root [] = None
without_last root (key ∷ keys) =
    Some (record { root = root; nested_fields = take (length keys) (key ∷ keys) })

-- a path without its last key, if it has one
abbrev pub around : SelectionPath → Option SelectionPath
around path = without_last path.root path.nested_fields

-- where a selection was dropped, if that is what an error says: in the field around it, or in its definition
abbrev pub lost_at : BuildError → Option SelectionPath
lost_at (e.UndefinedTypeInInlineFragmentTypeCondition ty path) = Some path
lost_at (e.SubselectionOnScalarType ty path) = around path
lost_at (e.SubselectionOnEnumType ty path) = around path
lost_at (e.UndefinedField ty field path) = around path
lost_at _ = None

-- where selections were dropped, by these faults, in order
abbrev pub lost_places : List Fault → List SelectionPath
lost_places faults = filter_map (λ (fault : Fault). lost_at fault.1) faults

-- none of the places is less than the one before it
abbrev pub AreInOrder : List Place → Type 0
AreInOrder places = IsSortedBy (λ one other. is_lt (path_cmp (path_at one) (path_at other))) places
