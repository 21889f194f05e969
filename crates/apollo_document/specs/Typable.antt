-- Which untyped selections are typable in a type, over a schema value or without a schema, and what is wrong
-- with the others: GraphQL specification of October 2021, sections 2.4 to 2.8. The leaf types are those of
-- sections 3.5 and 3.9.
--
-- **Typable.** Of a selection in a type, which is given by its name, over a schema value:
--
-- - A field is typable (`typable_field`) under two conditions. The schema gives a definition for its name
--   there. And it has no subselections, or the definition's inner name is that of no scalar and no enum.
-- - An inline fragment is typable (`typable_fragment`) if it has no condition, or one that names a type
--   of the schema.
-- - A spread is always typable.
--
-- Without a schema all are typable, and a field has the definition of its name whose type is `UNKNOWN`.
--
-- **Child type.** The child type of a typable field is its definition's inner name. That of a typable
-- inline fragment is its condition, or without one the type that the fragment is in.
use Rattle.std.specs.Prelude.{◌==◌, Bool, true, false, List, [], ◌∷◌, length, Option, None, Some, is_some}
use Rattle.std.specs.Prelude.{Result, Ok, Err, codes}
use Rattle.graphql_nodes.specs.NameView.{NameView, plain_name}
use Rattle.graphql_nodes.specs.NodeView.{NodeView}
use Rattle.graphql_nodes.specs.SameText.{same_text}
use Rattle.graphql_nodes.specs.Tables.{lookup_key}
use Rattle.graphql_nodes.specs.declared.source.SourceSpan.{SourceSpan}
use Rattle.graphql_ast.specs.TypeReferences.{inner_name}
use Rattle.graphql_ast.specs.declared.type_reference.Type.{Named}
use Rattle.graphql_ast.specs.declared.type_system.FieldDefinition.{FieldDefinition}
use Rattle.apollo_component.specs.declared.component.Component.{Component}
use Rattle.apollo_types.specs.declared.extended_type.ExtendedType.{ExtendedType}
use Rattle.apollo_types.specs.declared.extended_type.ExtendedType.TheVariants.{Scalar, Enum}
use Rattle.apollo_schema.specs.Lookups.{field_at, type_at}
use Rattle.apollo_schema.specs.MetaFields.{plain_node}
use Rattle.apollo_schema.specs.declared.schema.Schema.{Schema}
use Rattle.apollo_document.specs.declared.build_error.BuildError.{BuildError}
use Rattle.apollo_document.specs.declared.build_error.BuildError.TheVariants as e
use Rattle.apollo_document.specs.declared.selection_path.SelectionPath.{SelectionPath}

-- a fault, and the location that it is about
abbrev pub Fault : Type 0
Fault = Option SourceSpan × BuildError

-- what is wrong with a selection, by the location of its node and by its path: nothing, where it is left out
-- without a fault
abbrev pub Wrong : Type 0
Wrong = Option SourceSpan → SelectionPath → List Fault

-- the definition of any field without a schema
abbrev pub unknown_field : NameView → NodeView FieldDefinition
unknown_field name =
    plain_node (record {
      description = None;
      name = name;
      arguments = [];
      ty = Named (plain_name (codes "UNKNOWN"));
      directives = record { 0 = [] };
    })

-- a field that isn't defined is at fault, at its name, if the schema has its type. The fault has the name
-- under which the schema has that type
abbrev pub undefined : NameView → Option NameView → Wrong
undefined name (Some key) location path = (name.location, e.UndefinedField key name path) ∷ []
undefined name None location path = []

-- the definition that a schema gives for a field, or what is wrong
abbrev pub defined_as : NameView → Option NameView → Option (Component FieldDefinition)
    → Result (NodeView FieldDefinition) Wrong
defined_as name key (Some c) = Ok c.node
defined_as name key None = Err (undefined name key)

-- the definition that a schema gives for a field of this name in a type, or what is wrong
abbrev pub defined_in : Schema → NameView → NameView → Result (NodeView FieldDefinition) Wrong
defined_in s ty name = defined_as name (lookup_key (same_text ty) s.types) (field_at s ty name)

-- the definition of a field in a type: the one that the schema gives; any field has one without a schema
abbrev pub definition_in : Option Schema → NameView → NameView → Result (NodeView FieldDefinition) Wrong
definition_in None ty name = Ok (unknown_field name)
definition_in (Some s) ty name = defined_in s ty name

-- what is wrong with subselections from a type: it is a scalar or an enum. Types of the other kinds, and
-- those that the schema lacks, may have some
abbrev pub leaf_fault : NameView → Option ExtendedType → Option Wrong
leaf_fault ty (Some (Scalar n)) = Some (λ location path. (location, e.SubselectionOnScalarType ty path) ∷ [])
leaf_fault ty (Some (Enum n)) = Some (λ location path. (location, e.SubselectionOnEnumType ty path) ∷ [])
leaf_fault ty _ = None

-- the type that subselections of a field are from: the name inside all lists of its type
abbrev pub child_of : NodeView FieldDefinition → NameView
child_of d = inner_name d.value.ty

-- what is wrong with subselections of a field with this definition, if anything is
abbrev pub leaf_at : Schema → NodeView FieldDefinition → Option Wrong
leaf_at s d = leaf_fault (child_of d) (type_at s.types (child_of d))

-- there are no subselections
abbrev pub is_bare : {A : Type 0} → List A → Bool
is_bare selections = length selections == 0

-- a definition stands where there are no subselections, or they are from no leaf type
abbrev pub unless_leaf : Bool → NodeView FieldDefinition → Option Wrong
    → Result (NodeView FieldDefinition) Wrong
unless_leaf true d leaf = Ok d
unless_leaf false d None = Ok d
unless_leaf false d (Some wrong) = Err wrong

-- the definition of a field that may have the subselections that it has, or what is wrong with it
abbrev pub with_subselections : Schema → Bool → Result (NodeView FieldDefinition) Wrong
    → Result (NodeView FieldDefinition) Wrong
with_subselections s bare (Ok d) = unless_leaf bare d (leaf_at s d)
with_subselections s bare (Err wrong) = Err wrong

-- the definition of a field that is typable in a type, with subselections or bare, or what is wrong with it
abbrev pub typable_field : Option Schema → NameView → NameView → Bool
    → Result (NodeView FieldDefinition) Wrong
typable_field None ty name bare = Ok (unknown_field name)
typable_field (Some s) ty name bare = with_subselections s bare (defined_in s ty name)

-- a schema has a type of the name; without a schema each name has one
abbrev pub has_type : Option Schema → NameView → Bool
has_type None ty = true
has_type (Some s) ty = is_some (type_at s.types ty)

-- the child type of an inline fragment with this condition if its type is there, or what is wrong with it
abbrev pub if_there : Bool → NameView → Result NameView Wrong
if_there true condition = Ok condition
if_there false condition =
    Err (λ location path. (condition.location, e.UndefinedTypeInInlineFragmentTypeCondition condition path)
    ∷ [])

-- the child type of an inline fragment that is typable in a type, by its condition, or what is wrong with it
abbrev pub typable_fragment : Option Schema → NameView → Option NameView → Result NameView Wrong
typable_fragment s ty None = Ok ty
typable_fragment s ty (Some condition) = if_there (has_type s condition) condition

-- what f makes of what is typable
abbrev pub if_typable : {A B E : Type 0} → (A → B) → Result A E → Option B
if_typable f (Ok a) = Some (f a)
if_typable f (Err wrong) = None
