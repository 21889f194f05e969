-- Operations and fragments typed: the definition that is kept, with its typable selections. GraphQL
-- specification of October 2021, sections 2.3 and 2.8.
use Rattle.std.specs.Prelude.{◌≡◌, Option, Some}
use Rattle.graphql_nodes.specs.NameView.{NameView}
use Rattle.graphql_nodes.specs.NodeView.{NodeView}
use Rattle.graphql_ast.specs.declared.operation.OperationDefinition.{OperationDefinition}
use Rattle.graphql_ast.specs.declared.operation.FragmentDefinition.{FragmentDefinition}
use Rattle.apollo_schema.specs.declared.schema.Schema.{Schema}
use Rattle.apollo_executable.specs.Erasure.{at_place, erased_operation, erased_fragment}
use Rattle.apollo_executable.specs.declared.operation.Operation.{Operation}
use Rattle.apollo_executable.specs.declared.operation.Fragment.{Fragment}
use Rattle.apollo_document.specs.Stripped.{stripped}
use Rattle.apollo_document.specs.TypedSelections.{IsTypedSet}
use Rattle.apollo_document.specs.KeptDefinitions.{root_type_of}

-- an operation, stripped in this root type
abbrev pub stripped_operation : Option Schema → NameView → OperationDefinition → OperationDefinition
stripped_operation s root o = record {
  operation_type = o.operation_type;
  name = o.name;
  variables = o.variables;
  directives = o.directives;
  selection_set = stripped s root o.selection_set;
}

-- a fragment, stripped in its condition
abbrev pub stripped_fragment : Option Schema → FragmentDefinition → FragmentDefinition
stripped_fragment s f = record {
  name = f.name;
  type_condition = f.type_condition;
  directives = f.directives;
  selection_set = stripped s f.type_condition f.selection_set;
}

-- a typed operation that is erased to that of a definition, where it stands, stripped in its root type, and
-- is typed in that
abbrev pub IsOperationOf : Option Schema → NodeView OperationDefinition → NodeView Operation → Type 0
IsOperationOf s n o = (root : NameView)
    × ((root_type_of s n.value.operation_type ≡ Some root)
    × ((at_place erased_operation o ≡ at_place (stripped_operation s root) n)
    × IsTypedSet s root o.value.selection_set))

-- a typed fragment that is erased to that of a definition, where it stands, stripped in its condition, and is
-- typed in that
abbrev pub IsFragmentOf : Option Schema → NodeView FragmentDefinition → NodeView Fragment → Type 0
IsFragmentOf s n f = (at_place erased_fragment f ≡ at_place (stripped_fragment s) n)
    × IsTypedSet s n.value.type_condition f.value.selection_set
