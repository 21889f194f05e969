-- The untyped trees of typed ones. The definitions of fields and the types of sets are left out, and the
-- condition of a fragment is the type of its set. All else stays, locations too. GraphQL specification of
-- October 2021, sections 2.2 to 2.8.
--
-- **Erased.** A typed value is erased (`erased`, `erased_set`, `erased_operation`, ..) to the untyped one.
-- That has no type of a set and no definition of a field, and all else the same. So it has the same names,
-- aliases, arguments, directives, variables and selections in order, and every location. A named fragment
-- keeps its condition as the type of its set. A document is erased to its operations, then its fragments in
-- order, without sources.
use Rattle.std.specs.Prelude.{List, Option, [], ◌++◌, map}
use Rattle.graphql_nodes.specs.NodeView.{NodeView}
use Rattle.graphql_nodes.specs.Tables.{values_of}
use Rattle.graphql_nodes.specs.declared.source.SourceSpan.{SourceSpan}
use Rattle.graphql_ast.specs.Operations.{fragment_of, operation_of}
use Rattle.graphql_ast.specs.declared.selection.Selection as ast
use Rattle.graphql_ast.specs.declared.selection.Selection.TheOpen as layer
use Rattle.graphql_ast.specs.declared.selection.Field as ast_field
use Rattle.graphql_ast.specs.declared.selection.InlineFragment as ast_inline
use Rattle.graphql_ast.specs.declared.selection.FragmentSpread as ast_spread
use Rattle.graphql_ast.specs.declared.operation.OperationDefinition.{OperationDefinition}
use Rattle.graphql_ast.specs.declared.operation.FragmentDefinition.{FragmentDefinition}
use Rattle.graphql_ast.specs.declared.definition.Definition.{Definition}
use Rattle.graphql_ast.specs.declared.definition.Definition.TheVariants as d
use Rattle.graphql_ast.specs.declared.document.Document.{Document}
use Rattle.apollo_executable.specs.declared.selection.Selection.{Selection, fold-Selection}
use Rattle.apollo_executable.specs.declared.selection.Selection.TheOpen.{Selection-F, Field-F}
use Rattle.apollo_executable.specs.declared.selection.Selection.TheOpen.{InlineFragment-F, SelectionSet-F}
use Rattle.apollo_executable.specs.declared.selection.Selection.TheFolds.{fold-Field, fold-InlineFragment}
use Rattle.apollo_executable.specs.declared.selection.Selection.TheFolds.{fold-SelectionSet}
use Rattle.apollo_executable.specs.declared.selection.Field.{Field}
use Rattle.apollo_executable.specs.declared.selection.InlineFragment.{InlineFragment}
use Rattle.apollo_executable.specs.declared.selection.FragmentSpread.{FragmentSpread}
use Rattle.apollo_executable.specs.declared.selection.SelectionSet.{SelectionSet}
use Rattle.apollo_executable.specs.declared.operation.Operation.{Operation}
use Rattle.apollo_executable.specs.declared.operation.Fragment.{Fragment}
use Rattle.apollo_executable.specs.declared.document.ExecutableDocument.{ExecutableDocument}
use Rattle.apollo_executable.specs.Operations.{all_operations}

-- what f gives of the value of a node, where the node stands
abbrev pub at_place : {A B : Type 0} → (A → B) → NodeView A → NodeView B
at_place f n = record { value = f n.value; location = n.location }

-- the untyped spread of a typed one
abbrev pub erased_spread : FragmentSpread → ast_spread.FragmentSpread
erased_spread s = record { fragment_name = s.fragment_name; directives = s.directives }

-- what typed selections, fields, inline fragments and sets are erased to
abbrev pub ES : Type 0
ES = ast.Selection

-- a typed field is erased to an untyped one
abbrev pub EF : Type 0
EF = ast_field.Field

-- a typed inline fragment is erased to an untyped one
abbrev pub EI : Type 0
EI = ast_inline.InlineFragment

-- a typed set is erased to a list of untyped selections
abbrev pub EL : Type 0
EL = List ast.Selection

-- one level of a selection, where what is inside its node is erased
abbrev pub selection_step : Selection-F ES EF EI EL → ast.Selection
selection_step (Selection-F.Field n) = ast.roll-Selection (layer.Selection-F.Field (at_place (λ f. f) n))
selection_step (Selection-F.FragmentSpread n) =
    ast.roll-Selection (layer.Selection-F.FragmentSpread (at_place erased_spread n))
selection_step (Selection-F.InlineFragment n) =
    ast.roll-Selection (layer.Selection-F.InlineFragment (at_place (λ f. f) n))

-- one level of a field, where its set is erased
abbrev pub field_step : Field-F ES EF EI EL → ast_field.Field
field_step f = ast_field.roll-Field (record {
  alias = f.alias;
  name = f.name;
  arguments = f.arguments;
  directives = f.directives;
  selection_set = f.selection_set;
})

-- one level of an inline fragment, where its set is erased
abbrev pub inline_step : InlineFragment-F ES EF EI EL → ast_inline.InlineFragment
inline_step f = ast_inline.roll-InlineFragment (record {
  type_condition = f.type_condition;
  directives = f.directives;
  selection_set = f.selection_set;
})

-- one level of a set, where its selections are erased
abbrev pub set_step : SelectionSet-F ES EF EI EL → List ast.Selection
set_step s = s.selections

-- the untyped selection of a typed one
abbrev pub erased : Selection → ast.Selection
erased = fold-Selection ES EF EI EL selection_step field_step inline_step set_step

-- the untyped field of a typed one
abbrev pub erased_field : Field → ast_field.Field
erased_field = fold-Field ES EF EI EL selection_step field_step inline_step set_step

-- the untyped inline fragment of a typed one
abbrev pub erased_inline_fragment : InlineFragment → ast_inline.InlineFragment
erased_inline_fragment = fold-InlineFragment ES EF EI EL selection_step field_step inline_step set_step

-- the untyped selections of a typed set
abbrev pub erased_set : SelectionSet → List ast.Selection
erased_set = fold-SelectionSet ES EF EI EL selection_step field_step inline_step set_step

-- the untyped operation of a typed one
abbrev pub erased_operation : Operation → OperationDefinition
erased_operation o =
    operation_of o.operation_type o.name o.variables o.directives (erased_set o.selection_set)

-- as a definition at this location, if one is given
abbrev pub erased_operation_at : Option SourceSpan → Operation → Definition
erased_operation_at location o =
    d.OperationDefinition (record { value = erased_operation o; location = location })

-- the untyped fragment of a typed one, whose condition is the type of its set
abbrev pub erased_fragment : Fragment → FragmentDefinition
erased_fragment f = fragment_of f.name f.selection_set.ty f.directives (erased_set f.selection_set)

-- as a definition at this location, if one is given
abbrev pub erased_fragment_at : Option SourceSpan → Fragment → Definition
erased_fragment_at location f =
    d.FragmentDefinition (record { value = erased_fragment f; location = location })

-- the anonymous operation, the named ones, the fragments
abbrev pub erased_definitions : ExecutableDocument → List Definition
erased_definitions document =
    map (λ n. d.OperationDefinition (at_place erased_operation n)) (all_operations document.operations)
    ++ map (λ n. d.FragmentDefinition (at_place erased_fragment n)) (values_of document.fragments)

-- without the files that the document comes from
abbrev pub erased_document : ExecutableDocument → Document
erased_document document = record { sources = []; definitions = erased_definitions document }
