-- What is wrong with a list of definitions that a document is built of, in order: GraphQL specification of
-- October 2021, sections 2.2 to 2.8. What is kept before a definition is what the list up to it keeps.
--
-- **Faults of a document's list.** `document_faults`: those of each definition in order, by what the list up
-- to it keeps (`faults_at`). After a kept anonymous operation each named one gives an ambiguity at the kept
-- one's node, before its own faults. So does the first further anonymous one; each further one is ambiguous
-- at its own node. So is an anonymous operation after a kept named one. An operation or fragment whose name
-- is taken by a kept one of its sort collides with it, at its name. Any other one has no root type (at its
-- node), or no type for its condition (at that), or else the faults of its selections. A definition of the
-- type system is at fault at its node, if it is to be.
use Rattle.std.specs.Prelude.{Bool, true, false, List, [], ◌∷◌, ◌++◌, Option, None, Some, option_map}
use Rattle.graphql_nodes.specs.NameView.{NameView}
use Rattle.graphql_nodes.specs.NodeView.{NodeView}
use Rattle.graphql_nodes.specs.OperationTexts.{operation_text}
use Rattle.graphql_nodes.specs.SameText.{same_text}
use Rattle.graphql_nodes.specs.Tables.{lookup_key}
use Rattle.graphql_nodes.specs.declared.source.SourceSpan.{SourceSpan}
use Rattle.graphql_ast.specs.Definitions.{definition_name, definition_location}
use Rattle.graphql_ast.specs.DefinitionTexts.{definition_text}
use Rattle.graphql_ast.specs.declared.definition.Definition.{Definition}
use Rattle.graphql_ast.specs.declared.definition.Definition.TheVariants as d
use Rattle.graphql_ast.specs.declared.operation.OperationDefinition.{OperationDefinition}
use Rattle.graphql_ast.specs.declared.operation.FragmentDefinition.{FragmentDefinition}
use Rattle.apollo_component.specs.EachAfter.{each_after}
use Rattle.apollo_schema.specs.declared.schema.Schema.{Schema}
use Rattle.apollo_document.specs.SelectionFaults.{faults_of_selections}
use Rattle.apollo_document.specs.Typable.{Fault, has_type}
use Rattle.apollo_document.specs.declared.build_error.BuildError.{BuildError}
use Rattle.apollo_document.specs.declared.build_error.BuildError.TheVariants as e
use Rattle.apollo_document.specs.declared.selection_path.ExecutableDefinitionName.{ExecutableDefinitionName}
use Rattle.apollo_document.specs.declared.selection_path.ExecutableDefinitionName.TheVariants.{AnonymousOperation}
use Rattle.apollo_document.specs.declared.selection_path.ExecutableDefinitionName.TheVariants.{NamedOperation}
use Rattle.apollo_document.specs.declared.selection_path.ExecutableDefinitionName.TheVariants.{Fragment}
use Rattle.apollo_document.specs.AddedDefinitions.{DocumentItem}
use Rattle.apollo_document.specs.KeptDefinitions.{root_type_of, kept_anonymous, kept_named, kept_fragments}
use Rattle.apollo_document.specs.KeptDefinitions.{is_repeated}

-- an anonymous operation at this location isn't the only one
abbrev pub ambiguous : Option SourceSpan → Fault
ambiguous location = (location, e.AmbiguousAnonymousOperation)

-- the same fault, if there is such an operation
abbrev pub ambiguous_if : Option (Option SourceSpan) → List Fault
ambiguous_if None = []
ambiguous_if (Some location) = ambiguous location ∷ []

-- a name that is taken by a kept definition is at fault; else what is wrong with the definition is
abbrev pub unless_taken : (NameView → BuildError) → NameView → Option NameView → List Fault → List Fault
unless_taken collision name (Some kept) wrong = (name.location, collision kept) ∷ []
unless_taken collision name None wrong = wrong

-- an operation without a root type is at fault; else its selections are
abbrev pub rooted_faults : Option Schema → ExecutableDefinitionName → NodeView OperationDefinition
    → Option NameView → List Fault
rooted_faults s name n (Some root) =
    faults_of_selections s root (record { root = name; nested_fields = [] }) n.value.selection_set
rooted_faults s name n None =
    (n.location, e.UndefinedRootOperation (operation_text n.value.operation_type)) ∷ []

-- what is wrong with an operation itself: it has no root type, or its selections are at fault
abbrev pub faults_in_operation : Option Schema → ExecutableDefinitionName → NodeView OperationDefinition
    → List Fault
faults_in_operation s name n = rooted_faults s name n (root_type_of s n.value.operation_type)

-- what is wrong with a named operation, where its name is taken if it is
abbrev pub faults_of_named : Option Schema → Option NameView → NameView → NodeView OperationDefinition
    → List Fault
faults_of_named s taken name n =
    unless_taken e.OperationNameCollision name taken
    (faults_in_operation s (NamedOperation n.value.operation_type name) n)

-- what is wrong with a named operation: after an anonymous one at this location, if there is one. Its name is
-- taken where this kept name stands, if it is taken
abbrev pub named_faults : Option Schema → Option (Option SourceSpan) → Option NameView → NameView
    → NodeView OperationDefinition → List Fault
named_faults s anonymous taken name n = ambiguous_if anonymous ++ faults_of_named s taken name n

-- an anonymous operation after a kept one is at fault, and so is that, once
abbrev pub after_anonymous : Bool → Option SourceSpan → Option SourceSpan → List Fault
after_anonymous false kept location = ambiguous kept ∷ ambiguous location ∷ []
after_anonymous true kept location = ambiguous location ∷ []

-- an anonymous operation after a kept named one is at fault; else what is wrong with it is
abbrev pub unless_named : {A : Type 0} → List A → Option SourceSpan → List Fault → List Fault
unless_named [] location wrong = wrong
unless_named (x ∷ xs) location wrong = ambiguous location ∷ []

-- what is wrong with an anonymous operation after a kept anonymous one, if there is one, or after named ones
abbrev pub anonymous_faults : {A : Type 0} → Option Schema → Option (Option SourceSpan) → Bool → List A
    → NodeView OperationDefinition → List Fault
anonymous_faults s (Some kept) repeated others n = after_anonymous repeated kept n.location
anonymous_faults s None repeated others n =
    unless_named others n.location (faults_in_operation s (AnonymousOperation n.value.operation_type) n)

-- where the operation that is kept as the anonymous one stands
abbrev pub anonymous_location : Option Schema → List DocumentItem → Option (Option SourceSpan)
anonymous_location s before = option_map (λ n. n.location) (kept_anonymous s before)

-- what is wrong with an operation of this name, or an anonymous one, after these definitions
abbrev pub operation_faults : Option Schema → List DocumentItem → NodeView OperationDefinition
    → Option NameView → List Fault
operation_faults s before n (Some name) =
    named_faults s (anonymous_location s before) (lookup_key (same_text name) (kept_named s before)) name n
operation_faults s before n None =
    anonymous_faults s (anonymous_location s before) (is_repeated s before) (kept_named s before) n

-- a fragment whose condition is no type is at fault; else its selections are
abbrev pub on_type_faults : Option Schema → NodeView FragmentDefinition → Bool → List Fault
on_type_faults s n true =
    faults_of_selections s n.value.type_condition (record {
      root = Fragment n.value.name;
      nested_fields = [];
    }) n.value.selection_set
on_type_faults s n false = (
  n.value.type_condition.location,
  e.UndefinedTypeInNamedFragmentTypeCondition n.value.type_condition n.value.name,
) ∷ []

-- what is wrong with a fragment itself: its condition is no type, or its selections are at fault
abbrev pub faults_in_fragment : Option Schema → NodeView FragmentDefinition → List Fault
faults_in_fragment s n = on_type_faults s n (has_type s n.value.type_condition)

-- what is wrong with a fragment, where its name is taken if it is
abbrev pub fragment_faults : Option Schema → Option NameView → NodeView FragmentDefinition → List Fault
fragment_faults s taken n = unless_taken e.FragmentNameCollision n.value.name taken (faults_in_fragment s n)

-- a definition of the type system is at fault, if it is to be
abbrev pub type_system_faults : Bool → Definition → List Fault
type_system_faults true d =
    (definition_location d, e.TypeSystemDefinition (definition_name d) (definition_text d)) ∷ []
type_system_faults false d = []

-- what is wrong with a definition after these
abbrev pub definition_faults : Option Schema → List DocumentItem → Bool → Definition → List Fault
definition_faults s before errors (d.OperationDefinition n) = operation_faults s before n n.value.name
definition_faults s before errors (d.FragmentDefinition n) =
    fragment_faults s (lookup_key (same_text n.value.name) (kept_fragments s before)) n
definition_faults s before errors other = type_system_faults errors other

-- what is wrong with a definition as it was added, after these
abbrev pub faults_at : Option Schema → List DocumentItem → DocumentItem → List Fault
faults_at s before x = definition_faults s before x.0 x.1

-- what is wrong with a list
abbrev pub document_faults : Option Schema → List DocumentItem → List Fault
document_faults s xs = each_after (faults_at s) [] xs
