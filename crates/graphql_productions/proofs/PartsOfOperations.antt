-- All parts of operations and fragments are as is asked.
use Rattle.std.proofs.Common.{List, Option, false, true, ℕ, ◌++◌}
use Rattle.std.specs.List.{flat_map}
use Rattle.graphql_nodes.specs.NodeView.{NodeView}
use Rattle.graphql_nodes.specs.declared.source.FileId.{FileId}
use Rattle.graphql_ast.specs.declared.directive.DirectiveList.{DirectiveList}
use Rattle.graphql_ast.specs.declared.selection.Selection.{Selection}
use Rattle.graphql_ast.specs.declared.type_reference.Type.{«Type» as TypeReference}
use Rattle.graphql_ast.specs.declared.value.Value.{Value}
use Rattle.graphql_grammar.specs.declared.kind.Kind.TheVariants as k
use Rattle.graphql_grammar.specs.Kinds.{only}
use Rattle.graphql_grammar.specs.Pieces.{seq, sign}
use Rattle.graphql_grammar.specs.Words.{WordView}
use Rattle.graphql_productions.specs.DefinitionTreeParts.{definition_parts, fragment_parts, operation_parts}
use Rattle.graphql_productions.specs.DefinitionTreeParts.{variable_parts}
use Rattle.graphql_productions.specs.Directives.{directives}
use Rattle.graphql_productions.specs.Documents.{fragment, operation_definition, shorthand_definition}
use Rattle.graphql_productions.specs.Operations.{default_body, default_value, fragment_definition}
use Rattle.graphql_productions.specs.Operations.{is_operation_type, no_variable, operation, operation_type}
use Rattle.graphql_productions.specs.Operations.{shorthand, typed, variable_definition, variable_node}
use Rattle.graphql_productions.specs.Operations.{variables}
use Rattle.graphql_productions.specs.SelectionParts.{selection_parts}
use Rattle.graphql_productions.specs.Selections.{selection_set}
use Rattle.graphql_productions.specs.TreeParts.{Name, TreePart, directives_parts, node_parts, option_parts}
use Rattle.graphql_productions.specs.TreeParts.{type_parts, value_parts, wanted_parts}
use Rattle.graphql_productions.specs.Types.{is_type}
use Rattle.graphql_productions.proofs.TypeLaws.{type_tame}
use Rattle.graphql_productions.proofs.OperationLaws.{variable_definition_tame}
use Rattle.graphql_productions.proofs.DefinitionLaws.{fragment_node_tame, operation_node_tame}
use Rattle.graphql_productions.proofs.DefinitionLaws.{shorthand_node_tame}
use Rattle.graphql_productions.proofs.PartLaws.{Covered, Serves, headed_covered, item_covered, list_covered}
use Rattle.graphql_productions.proofs.PartLaws.{listed_covered, mapped_covered, no_parts, node_covered}
use Rattle.graphql_productions.proofs.PartLaws.{optional_covered, seq_covered}
use Rattle.graphql_productions.proofs.PartsOfValues.{directives_covered, name_covered, type_covered}
use Rattle.graphql_productions.proofs.PartsOfValues.{value_node_covered, variable_covered}
use Rattle.graphql_productions.proofs.PartsOfSelections.{condition_covered, fragment_name_covered}
use Rattle.graphql_productions.proofs.PartsOfSelections.{selection_set_covered}

module _ {asked : TreePart → Type 0} {file : FileId} {Known : List WordView → Type 0}
    (serves : Serves asked file Known) where
  default_covered : (depth : ℕ) → Covered serves (default_value file depth) (node_parts (value_parts true))
  unfolding default_body
  default_covered depth =
      headed_covered (mapped_covered (seq_covered (no_parts (sign k.Equals)) (value_node_covered serves true
      depth)) (λ x all. all))

  -- a type behind `:`, with a default value, if there is one, and directives
  abbrev typed_parts : Unit {0} × (NodeView TypeReference × (Option (NodeView Value) × DirectiveList))
      → List TreePart
  typed_parts x = node_parts type_parts x.1.0 ++ (option_parts (node_parts (value_parts true)) x.1.1.0
      ++ directives_parts true x.1.1.1)

  pub typed_covered : (depth : ℕ) → Covered serves (typed file depth) typed_parts
  unfolding typed
  typed_covered depth =
      seq_covered (no_parts (sign k.Colon)) (seq_covered (node_covered is_type (type_covered serves depth)
      (λ x front h. (type_tame file depth).law.begun h.0.0 front h.2.0))
      (seq_covered (optional_covered (default_covered depth)) (directives_covered serves true depth)))

  variable_definition_covered : (depth : ℕ)
      → Covered serves (variable_definition file depth) (node_parts variable_parts)
  unfolding variable_node
  variable_definition_covered depth =
      item_covered no_variable (node_covered (only k.Dollar)
      (mapped_covered (seq_covered (variable_covered serves Name serves.name) (typed_covered depth))
      (λ x all. all)) (variable_definition_tame file depth).law.begun)

  variables_covered : (depth : ℕ)
      → Covered serves (variables file depth) (flat_map (node_parts variable_parts))
  unfolding variables
  variables_covered depth = listed_covered (node_parts variable_parts) (list_covered k.LeftParen k.RightParen
      no_variable depth (variable_definition file) variable_definition_covered)

  -- directives, and the selections behind them
  abbrev selected : DirectiveList × List Selection → List TreePart
  selected x = directives_parts false x.0 ++ wanted_parts selection_parts x.1

  selected_covered : (depth : ℕ)
      → Covered serves (seq (directives file false depth) (selection_set file depth)) selected
  selected_covered depth = seq_covered (directives_covered serves false depth) (selection_set_covered serves
      depth)

  -- ---- as definitions

  pub operation_definition_covered : (depth : ℕ)
      → Covered serves (operation_definition file depth) definition_parts
  unfolding operation_definition operation
  operation_definition_covered depth =
      mapped_covered (node_covered {f = operation_parts} is_operation_type
      (mapped_covered (seq_covered (no_parts operation_type)
      (seq_covered (optional_covered (headed_covered (name_covered serves)))
      (seq_covered (variables_covered depth) (selected_covered depth)))) (λ x all. all))
      (operation_node_tame file depth).law.begun) (λ n all. all)

  pub shorthand_definition_covered : (depth : ℕ)
      → Covered serves (shorthand_definition file depth) definition_parts
  unfolding shorthand_definition shorthand
  shorthand_definition_covered depth =
      mapped_covered (node_covered {f = operation_parts} (only k.LeftBrace)
      (mapped_covered (selection_set_covered serves depth) (λ x all. all))
      (shorthand_node_tame file depth).law.begun) (λ n all. all)

  pub fragment_covered : (depth : ℕ) → Covered serves (fragment file depth) definition_parts
  unfolding fragment fragment_definition
  fragment_covered depth =
      mapped_covered (node_covered {f = fragment_parts} (only k.Fragment)
      (mapped_covered (seq_covered (no_parts (sign k.Fragment)) (seq_covered (fragment_name_covered serves)
      (seq_covered (condition_covered serves) (selected_covered depth)))) (λ x all. all))
      (fragment_node_tame file depth).law.begun) (λ n all. all)
