-- What elaboration keeps of a field and of an inline fragment in a parent, and what it notes: the forms that
-- the code is proved against. GraphQL specification of October 2021, sections 2.5 to 2.8.
use Rattle.std.specs.Prelude.{Option, option_map}
use Rattle.std.specs.Option.{option_copied}
use Rattle.graphql_nodes.specs.NodeView.{NodeView}
use Rattle.graphql_ast.specs.declared.selection.Field as ast_field
use Rattle.graphql_ast.specs.declared.selection.InlineFragment as ast_inline
use Rattle.apollo_executable.specs.declared.selection.Field.{Field}
use Rattle.apollo_executable.specs.declared.selection.InlineFragment.{InlineFragment}
use Rattle.apollo_document.specs.Elaborated.{elaborated_field, elaborated_fragment}
use Rattle.apollo_document.specs.Noted.{noting}
use Rattle.apollo_document.specs.SelectionFaults.{faults_of_field, faults_of_fragment}
use Rattle.apollo_document.specs.Stripped.{in_place_of}
use Rattle.apollo_document.specs.Within.{faults_within}
use Rattle.apollo_document.specs.declared.elaborating.Elaboration.{Elaboration}
use Rattle.apollo_document.specs.declared.parent.Parent.{Parent}

-- the typed field that stands for this one, in its place, if it is typable
abbrev pub field_kept : Parent → NodeView ast_field.Field → Option (NodeView Field)
field_kept p n = option_map (in_place_of n) (elaborated_field (option_copied p.schema) p.ty.now n.value)

-- the typed inline fragment that stands for this one, in its place, if it is typable
abbrev pub fragment_kept : Parent → NodeView ast_inline.InlineFragment → Option (NodeView InlineFragment)
fragment_kept p n = option_map (in_place_of n) (elaborated_fragment (option_copied p.schema) p.ty.now n.value)

-- the elaboration with what is wrong with this field noted
abbrev pub noting_field : Parent → NodeView ast_field.Field → Elaboration → Elaboration
noting_field p n e = noting (faults_of_field (option_copied p.schema) p.ty.now n.location e.path n.value) e

-- the same, where the path has the response key of the field
abbrev pub noting_within : Parent → NodeView ast_field.Field → Elaboration → Elaboration
noting_within p n e = noting (faults_within (option_copied p.schema) p.ty.now n.location e.path n.value) e

-- the elaboration with what is wrong with this inline fragment noted
abbrev pub noting_fragment : Parent → NodeView ast_inline.InlineFragment → Elaboration → Elaboration
noting_fragment p n e =
    noting (faults_of_fragment (option_copied p.schema) p.ty.now n.location e.path n.value) e
