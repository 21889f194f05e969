-- Fields at fault as leaves: those of scalar or enum types that have subselections, and those of object,
-- interface or union types that have none. GraphQL specification of October 2021, section 5.3.3.
--
-- A field is at fault over a schema value in one of two ways (`kind_over`). Its type stands under the inner
-- name of the type of its definition. Either that is a leaf type, and the field has subselections; or it is a
-- composite type, and the field has none. In neither, if it is an input object, or the schema has no type of
-- the name.
use Rattle.std.specs.Prelude.{◌==◌, ◌++◌, Bool, true, false, List, length, Option, None, Some, option_map}
use Rattle.std.specs.Prelude.{option_and_then, if◌then◌else◌}
use Rattle.std.specs.List.{cons_option, filter_map, flat_map}
use Rattle.graphql_nodes.specs.NameView.{NameView}
use Rattle.graphql_nodes.specs.NodeView.{NodeView}
use Rattle.graphql_nodes.specs.Tables.{values_of}
use Rattle.graphql_ast.specs.TypeReferences.{inner_name}
use Rattle.apollo_types.specs.TypeKinds.{is_composite, is_leaf}
use Rattle.apollo_types.specs.declared.extended_type.ExtendedType.{ExtendedType}
use Rattle.apollo_schema.specs.Lookups.{type_at}
use Rattle.apollo_schema.specs.declared.schema.Schema.{Schema}
use Rattle.apollo_document.specs.declared.selection_path.SelectionPath.{SelectionPath}
use Rattle.apollo_executable.specs.Operations.{all_operations}
use Rattle.apollo_executable.specs.SelectionParts.{response_key}
use Rattle.apollo_executable.specs.declared.document.ExecutableDocument.{ExecutableDocument}
use Rattle.apollo_executable.specs.declared.operation.Fragment.{Fragment}
use Rattle.apollo_executable.specs.declared.operation.Operation.{Operation}
use Rattle.apollo_executable.specs.declared.selection.Field.{Field}
use Rattle.apollo_executable.specs.declared.selection.Selection.{Selection}
use Rattle.apollo_executable.specs.declared.selection.SelectionSet.{SelectionSet}
use Rattle.leafcheck.specs.PlacedFields.{PlacedField, placed_fields}
use Rattle.leafcheck.specs.Roots.{fragment_path, operation_path}
use Rattle.leafcheck.specs.declared.leaf_fault.LeafFault.{LeafFault}
use Rattle.leafcheck.specs.declared.leaf_fault.LeafKind.{LeafKind}
use Rattle.leafcheck.specs.declared.leaf_fault.LeafKind.TheVariants.{MissingSubselection, SubselectionOnLeaf}

-- in which way a field of this type is at fault that is bare, or has subselections. If the type is an input
-- object, it is so in none
abbrev pub kind_in : Bool → ExtendedType → Option LeafKind
kind_in true t = if is_composite t then Some MissingSubselection else None
kind_in false t = if is_leaf t then Some SubselectionOnLeaf else None

-- a field over a schema, whose type is the name inside all lists; in none, if the schema lacks that
abbrev pub kind_over : Schema → Field → Option LeafKind
kind_over s f =
    option_and_then (kind_in (length f.selection_set.selections == 0))
    (type_at s.types (inner_name f.definition.value.ty))

-- a field that is at fault in this way, at the location of its node
abbrev pub fault_of : PlacedField → LeafKind → LeafFault
fault_of f kind = record {
  location = f.node.location;
  parent_type = f.parent_type;
  response_key = response_key f.node.value;
  path = f.path;
  kind = kind;
}

-- the fault of a field
abbrev pub fault_at : Schema → PlacedField → Option LeafFault
fault_at s f = option_map (fault_of f) (kind_over s f.node.value)

-- the faults of the fields that stand in selections from this type, in a set that has this path
abbrev pub leaf_faults_in : Schema → NameView → SelectionPath → List Selection → List LeafFault
leaf_faults_in s ty path selections = filter_map (fault_at s) (placed_fields ty path selections)

-- the same, of all that a set holds
abbrev pub set_faults : Schema → SelectionPath → SelectionSet → List LeafFault
set_faults s path set = leaf_faults_in s set.ty path set.selections

-- the fault of a field, if it has one, and those of the fields below it
abbrev pub faults_from : Schema → PlacedField → List LeafFault
faults_from s f = cons_option (fault_at s f) (set_faults s f.path f.node.value.selection_set)

-- the faults of an operation
abbrev pub operation_faults : Schema → NodeView Operation → List LeafFault
operation_faults s n = set_faults s (operation_path n.value) n.value.selection_set

-- the faults of a fragment
abbrev pub fragment_faults : Schema → NodeView Fragment → List LeafFault
fragment_faults s n = set_faults s (fragment_path n.value) n.value.selection_set

-- the faults of a document: those of the anonymous operation first, then of the others, and then of the
-- fragments
abbrev pub leaf_faults : Schema → ExecutableDocument → List LeafFault
leaf_faults s document =
    flat_map (operation_faults s) (all_operations document.operations) ++ flat_map (fragment_faults s)
    (values_of document.fragments)
