-- Types of variables and types of where they stand: GraphQL specification of October 2021, section 5.8.5.
use Rattle.std.specs.Prelude.{Bool, not, ◌&&◌}
use Rattle.graphql_nodes.specs.NameView.{NameView}
use Rattle.graphql_nodes.specs.SameText.{same_text}
use Rattle.graphql_ast.specs.TypeReferences.{inner_name, is_list, is_named, is_required, item_type}
use Rattle.graphql_ast.specs.declared.type_reference.Type.{«Type» as TypeReference, fold-Type}
use Rattle.graphql_ast.specs.declared.type_reference.Type.TheOpen.{Type-F}

-- the location's type, non-null or not, is this name
abbrev pub takes_name : NameView → TypeReference → Bool
takes_name n location = is_named location && same_text n (inner_name location)

-- the location's type, non-null or not, is a list whose items pass
abbrev pub takes_items : (TypeReference → Bool) → TypeReference → Bool
takes_items item_passes location = is_list location && item_passes (item_type location)

-- whether a variable of this type may stand at a location: no nullable type where a non-null one is expected,
-- a list type where a list type is expected, item by item, and else the type of one name
abbrev pub compatible_step : Type-F (TypeReference → Bool) → TypeReference → Bool
compatible_step (Type-F.Named n) location = not (is_required location) && takes_name n location
compatible_step (Type-F.NonNullNamed n) location = takes_name n location
compatible_step (Type-F.List item_passes) location =
    not (is_required location) && takes_items item_passes location
compatible_step (Type-F.NonNullList item_passes) location = takes_items item_passes location

-- AreTypesCompatible: the type of a variable, then that of the location where it stands
abbrev pub are_types_compatible : TypeReference → TypeReference → Bool
are_types_compatible = fold-Type (TypeReference → Bool) compatible_step
