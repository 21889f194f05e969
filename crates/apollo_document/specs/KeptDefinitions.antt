-- The operations and fragments that a document of a list of definitions has, over a schema value or without a
-- schema: GraphQL specification of October 2021, sections 2.3 and 2.8. The roots are those of section 3.3.1.
--
-- **Kept.** Of a list of definitions, each with whether one of the type system is at fault (`DocumentItem`),
-- these are kept:
--
-- - Of operations whose operation type has a root type the first of each name (`kept_named`), and the first
--   of all if it is anonymous (`kept_anonymous`). The root type is that of `root_type_of`, and without a
--   schema the default name.
-- - Of fragments whose condition names a type the first of each name (`kept_fragments`).
use Rattle.std.specs.Prelude.{Bool, ◌&&◌, cond, List, [], ◌∷◌, map, filter, filter_map, Option, None, Some}
use Rattle.std.specs.Prelude.{option_map, is_some, not}
use Rattle.std.specs.List.{find, list_any}
use Rattle.graphql_nodes.specs.NameView.{NameView, plain_name}
use Rattle.graphql_nodes.specs.NodeView.{NodeView}
use Rattle.graphql_nodes.specs.OperationTexts.{default_type_text}
use Rattle.graphql_nodes.specs.SameText.{same_text}
use Rattle.graphql_nodes.specs.declared.operation_type.OperationType.{OperationType}
use Rattle.graphql_ast.specs.declared.operation.OperationDefinition.{OperationDefinition}
use Rattle.graphql_ast.specs.declared.operation.FragmentDefinition.{FragmentDefinition}
use Rattle.apollo_component.specs.FirstOfEach.{first_of_each, same_key}
use Rattle.apollo_types.specs.SchemaRoots.{root_of}
use Rattle.apollo_schema.specs.declared.schema.Schema.{Schema}
use Rattle.apollo_document.specs.Typable.{has_type}
use Rattle.apollo_document.specs.AddedDefinitions.{DocumentItem, operations, fragments}

-- the root type of a kind of operation: the one that the schema names, or without a schema the default name
abbrev pub root_type_of : Option Schema → OperationType → Option NameView
root_type_of None kind = Some (plain_name (default_type_text kind))
root_type_of (Some s) kind = option_map (λ root. root.name) (root_of s.schema_definition.value kind)

-- an operation is rooted if its kind has a root type
abbrev pub is_rooted : Option Schema → NodeView OperationDefinition → Bool
is_rooted s n = is_some (root_type_of s n.value.operation_type)

-- an operation has no name
abbrev pub is_anonymous : NodeView OperationDefinition → Bool
is_anonymous n = not (is_some n.value.name)

-- an operation, if it has no name
abbrev pub if_anonymous : NodeView OperationDefinition → Option (NodeView OperationDefinition)
if_anonymous n = cond (is_anonymous n) (Some n) None

-- the first operation, if there is one and it has no name
abbrev pub first_if_anonymous : Option (NodeView OperationDefinition) → Option (NodeView OperationDefinition)
first_if_anonymous None = None
first_if_anonymous (Some n) = if_anonymous n

-- the anonymous operation: the first rooted operation of the list, if it is anonymous
abbrev pub kept_anonymous : Option Schema → List DocumentItem → Option (NodeView OperationDefinition)
kept_anonymous s xs = first_if_anonymous (find (is_rooted s) (operations xs))

-- an operation under its name, if it has one
abbrev pub operation_under_name : NodeView OperationDefinition
    → Option (NameView × NodeView OperationDefinition)
operation_under_name n = option_map (λ (name : NameView). (name, n)) n.value.name

-- the named operations: the first rooted one of each name
abbrev pub kept_named : Option Schema → List DocumentItem → List (NameView × NodeView OperationDefinition)
kept_named s xs =
    first_of_each (same_key same_text)
    (filter_map operation_under_name (filter (is_rooted s) (operations xs)))

-- a fragment has a type if its condition is one
abbrev pub is_on_type : Option Schema → NodeView FragmentDefinition → Bool
is_on_type s n = has_type s n.value.type_condition

-- a fragment under its name
abbrev pub fragment_under_name : NodeView FragmentDefinition → NameView × NodeView FragmentDefinition
fragment_under_name n = (n.value.name, n)

-- the fragments: the first of each name whose condition is a type
abbrev pub kept_fragments : Option Schema → List DocumentItem → List (NameView × NodeView FragmentDefinition)
kept_fragments s xs =
    first_of_each (same_key same_text) (map fragment_under_name (filter (is_on_type s) (fragments xs)))

-- what stands after the first that passes
abbrev pub after_first : {A : Type 0} → (A → Bool) → List A → List A
after_first p [] = []
after_first p (x ∷ xs) = cond (p x) xs (after_first p xs)

-- an anonymous operation is kept, and another stands after it
abbrev pub is_repeated : Option Schema → List DocumentItem → Bool
is_repeated s xs =
    is_some (kept_anonymous s xs) && list_any is_anonymous (after_first (is_rooted s) (operations xs))
