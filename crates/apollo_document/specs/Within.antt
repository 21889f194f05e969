-- What a field gives whose response key is the last of the path, and what is wrong with it: the forms that
-- the code is proved against. GraphQL specification of October 2021, sections 2.4 to 2.8.
use Rattle.std.specs.Prelude.{List, [], Option, None, Some, Result}
use Rattle.graphql_nodes.specs.NameView.{NameView}
use Rattle.graphql_nodes.specs.NodeView.{NodeView}
use Rattle.graphql_nodes.specs.declared.source.SourceSpan.{SourceSpan}
use Rattle.graphql_ast.specs.declared.selection.Selection.{Selection}
use Rattle.graphql_ast.specs.declared.selection.Field.{Field}
use Rattle.graphql_ast.specs.declared.type_system.FieldDefinition.{FieldDefinition}
use Rattle.apollo_executable.specs.declared.selection.SelectionSet.{SelectionSet}
use Rattle.apollo_schema.specs.declared.schema.Schema.{Schema}
use Rattle.apollo_document.specs.Elaborated.{elaborated}
use Rattle.apollo_document.specs.Parents.{type_in}
use Rattle.apollo_document.specs.SelectionFaults.{below_or_wrong, faults_of_selections}
use Rattle.apollo_document.specs.Typable.{Fault, Wrong, child_of, if_typable, is_bare, leaf_fault}
use Rattle.apollo_document.specs.Typable.{typable_field, unless_leaf}
use Rattle.apollo_document.specs.declared.selection_path.SelectionPath.{SelectionPath}

-- what is wrong with a field in a type, or with what is below it, where the path has its response key
abbrev pub faults_within : Option Schema → NameView → Option SourceSpan → SelectionPath → Field → List Fault
faults_within s ty location path f =
    below_or_wrong (λ d. faults_of_selections s (child_of d) path f.selection_set) location path
    (typable_field s ty f.name (is_bare f.selection_set))

-- what is wrong with subselections from a type, if anything is
abbrev pub leaf_in : Option Schema → NameView → Option Wrong
leaf_in s ty = leaf_fault ty (type_in s ty)

-- the faults of what is wrong, if anything is
abbrev pub faults_if : Option Wrong → Option SourceSpan → SelectionPath → List Fault
faults_if None location path = []
faults_if (Some wrong) location path = wrong location path

-- a definition of a field that may have these subselections, or what is wrong with them
abbrev pub with_leaf : Option Schema → List Selection → NodeView FieldDefinition
    → Result (NodeView FieldDefinition) Wrong
with_leaf s below d = unless_leaf (is_bare below) d (leaf_in s (child_of d))

-- the set of a field with this definition, if it may have these subselections
abbrev pub set_below : Option Schema → NodeView FieldDefinition → List Selection → Option SelectionSet
set_below s d below = if_typable (λ d. elaborated s (child_of d) below) (with_leaf s below d)

-- what is wrong with these subselections of a field with this definition
abbrev pub set_faults : Option Schema → NodeView FieldDefinition → Option SourceSpan → SelectionPath
    → List Selection → List Fault
set_faults s d location path below =
    below_or_wrong (λ d. faults_of_selections s (child_of d) path below) location path (with_leaf s below d)
