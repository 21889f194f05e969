-- What `==` compares of operations, fragments and documents: no location, and what stands under a name as a
-- function of its text. GraphQL specification of October 2021, sections 2.2, 2.3 and 2.8.
use Rattle.std.specs.Prelude.{ℕ, List, Option, map, option_map}
use Rattle.graphql_nodes.specs.NodeView.{NodeView}
use Rattle.graphql_nodes.specs.Comparing.{bare_name, bare_node, entries_by_text}
use Rattle.graphql_ast.specs.Bare.{bare_directive_list}
use Rattle.graphql_ast.specs.BareDocuments.{bare_variable_definition}
use Rattle.apollo_executable.specs.BareSelections.{bare_selection_set}
use Rattle.apollo_executable.specs.declared.operation.Operation.{Operation}
use Rattle.apollo_executable.specs.declared.operation.Fragment.{Fragment}
use Rattle.apollo_executable.specs.declared.operation_map.OperationMap.{OperationMap}
use Rattle.apollo_executable.specs.declared.document.ExecutableDocument.{ExecutableDocument}

-- an operation without the locations in it
abbrev pub bare_operation : Operation → Operation
bare_operation o = record {
  operation_type = o.operation_type;
  name = option_map bare_name o.name;
  variables = map (bare_node bare_variable_definition) o.variables;
  directives = bare_directive_list o.directives;
  selection_set = bare_selection_set o.selection_set;
}

-- a fragment without the locations in it
abbrev pub bare_fragment : Fragment → Fragment
bare_fragment f =
    record {
      name = bare_name f.name;
      directives = bare_directive_list f.directives;
      selection_set = bare_selection_set f.selection_set;
    }

-- the operations of a document
pub record BareOperationMap : Type 0 where
  pub anonymous : Option (NodeView Operation)
  pub named : List ℕ → Option (NodeView Operation)

-- a document, without the files that it comes from
pub record BareDocument : Type 0 where
  pub operations : BareOperationMap
  pub fragments : List ℕ → Option (NodeView Fragment)

-- the operations of a document without locations, the named ones under their names in any order
abbrev pub bare_operation_map : OperationMap → BareOperationMap
bare_operation_map m =
    record {
      anonymous = option_map (bare_node bare_operation) m.anonymous;
      named = entries_by_text (bare_node bare_operation) m.named;
    }

-- a document without locations and sources, its operations and fragments under their names in any order
abbrev pub bare_document : ExecutableDocument → BareDocument
bare_document d =
    record {
      operations = bare_operation_map d.operations;
      fragments = entries_by_text (bare_node bare_fragment) d.fragments;
    }
