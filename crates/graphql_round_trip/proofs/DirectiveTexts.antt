-- Texts of arguments and directives: GraphQL specification of October 2021, sections 2.6 and 2.12.
use Rattle.std.proofs.Common.{◌≡◌, ◌≤◌, ℕ, Bool, true, List, [], ◌∷◌, ◌++◌, map, refl, ap}
use Rattle.std.specs.Prelude.{codes}
use Rattle.graphql_nodes.specs.Comparing.{bare_node}
use Rattle.graphql_nodes.specs.NameView.{NameView}
use Rattle.graphql_nodes.specs.NodeView.{NodeView}
use Rattle.graphql_nodes.specs.declared.source.FileId.{FileId}
use Rattle.graphql_ast.specs.Bare.{bare_argument, bare_directive, bare_directive_list}
use Rattle.graphql_ast.specs.declared.directive.Argument.{Argument}
use Rattle.graphql_ast.specs.declared.directive.Directive.{Directive}
use Rattle.graphql_ast.specs.declared.directive.DirectiveList.{DirectiveList}
use Rattle.graphql_ast.specs.declared.value.Value.{Value}
use Rattle.graphql_tokens.specs.declared.token.TokenKind.TheVariants as t
use Rattle.graphql_grammar.specs.declared.kind.Kind.TheVariants as k
use Rattle.graphql_grammar.specs.Kinds.{is_name, only}
use Rattle.graphql_productions.specs.Directives.{argument, argument_node, argument_of, arguments, directive}
use Rattle.graphql_productions.specs.Directives.{directive_node, directive_of, directives, no_argument}
use Rattle.graphql_productions.specs.Directives.{no_directive}
use Rattle.graphql_productions.specs.TreeParts.{argument_parts, arguments_parts, directive_parts}
use Rattle.graphql_productions.specs.TreeParts.{directives_parts, node_parts}
use Rattle.graphql_productions.specs.WellFormed.{IsWellFormed}
use Rattle.graphql_printing.specs.Fields.{argument_lines}
use Rattle.graphql_printing.specs.Texts.{argument_text, arguments_text, directive_text, directives_text}
use Rattle.graphql_round_trip.specs.Nesting.{argument_nesting, arguments_nesting, directive_nesting}
use Rattle.graphql_round_trip.specs.Nesting.{directives_nesting}
use Rattle.graphql_round_trip.specs.Printed.{Prints, ends_token}
use Rattle.graphql_round_trip.proofs.PieceTexts.{regrouped, node_prints, sign_prints, item_text, many_text}
use Rattle.graphql_round_trip.proofs.PieceTexts.{mapped_text, seq_text, sign_or_text, grouped3, name_prints}
use Rattle.graphql_round_trip.proofs.ListTexts.{ReadAsItself, items_print, labelled_prints, lines_print}
use Rattle.graphql_round_trip.proofs.ListTexts.{list_prints}
use Rattle.graphql_round_trip.proofs.TokenTexts.{at_is_token, left_paren_is_token, right_paren_is_token}
use Rattle.graphql_round_trip.proofs.ValueTexts.{value_node_prints}

module _ (file : FileId) (constant : Bool) where
  -- ---- arguments

  -- an argument is read as itself
  argument_prints : (depth : ℕ) → ReadAsItself (node_parts (argument_parts constant)) argument_nesting depth
      (argument file constant depth) (bare_node bare_argument) argument_text
  unfolding argument_node
  argument_prints depth a fine fits =
      item_text is_name no_argument (node_prints file (mapped_text argument_of bare_argument
      (bare_argument a.value) (λ x same. ap (λ (s : NameView × (Unit {0} × NodeView Value)). argument_of s)
      same) (labelled_prints file a.value.name fine.1.0 (value_node_prints file constant depth a.value.value
      fine.1.1 fits))))

  -- arguments in one line are read as themselves
  pub arguments_print : (depth : ℕ) (xs : List (NodeView Argument))
      → IsWellFormed (arguments_parts constant xs) → arguments_nesting xs ≤ depth
      → Prints (arguments file constant depth) (map (bare_node bare_argument)) (map (bare_node bare_argument)
      xs) (arguments_text xs) ends_token
  unfolding arguments
  arguments_print depth xs fine fits = list_prints k.LeftParen k.RightParen no_argument
      (argument file constant) (bare_node bare_argument) argument_text (node_parts (argument_parts constant))
      argument_nesting argument_prints depth (codes "(") (codes ", ") (codes ")")
      (sign_prints k.LeftParen t.LeftParen left_paren_is_token refl) (sign_or_text k.RightParen no_argument
      t.RightParen right_paren_is_token refl) refl (λ rest. refl) (λ rest. refl) xs fine fits

  -- arguments on lines are read as themselves
  pub argument_lines_print : (depth indent : ℕ) (xs : List (NodeView Argument))
      → IsWellFormed (arguments_parts constant xs) → arguments_nesting xs ≤ depth
      → Prints (arguments file constant depth) (map (bare_node bare_argument)) (map (bare_node bare_argument)
      xs) (argument_lines indent xs) ends_token
  unfolding arguments
  argument_lines_print depth indent xs fine fits = lines_print k.LeftParen k.RightParen no_argument
      (argument file constant) (bare_node bare_argument) argument_text (node_parts (argument_parts constant))
      argument_nesting argument_prints depth indent t.LeftParen t.RightParen (codes "(") (codes ")")
      left_paren_is_token refl right_paren_is_token refl xs fine fits

  -- ---- directives

  -- arguments end what stands before them, as what stands behind them does where there is none
  arguments_end : (xs : List (NodeView Argument)) (rest : List ℕ) → ends_token rest ≡ true
      → ends_token (arguments_text xs ++ rest) ≡ true
  arguments_end [] rest end = end
  arguments_end (x ∷ xs) rest end = refl

  -- a directive is read as itself
  directive_prints : (depth : ℕ) → ReadAsItself (node_parts (directive_parts constant)) directive_nesting
      depth (directive file constant depth) (bare_node bare_directive) directive_text
  unfolding directive_node
  directive_prints depth d fine fits =
      item_text (only k.At) no_directive (node_prints file (mapped_text directive_of bare_directive
      (bare_directive d.value) (λ x same. ap (λ (s : Unit {0} × (NameView × List (NodeView Argument))).
      directive_of s) same) (regrouped (codes "@" ++ (d.value.name.text ++ arguments_text d.value.arguments))
      (directive_text d) (grouped3 (codes "@") d.value.name.text (arguments_text d.value.arguments))
      (seq_text (sign_prints k.At t.At at_is_token refl) (seq_text (name_prints file d.value.name fine.1.0)
      (arguments_print depth d.value.arguments fine.1.1 fits) (arguments_end d.value.arguments))
      (λ rest end. refl)))))

  -- directives are read as themselves
  pub directives_print : (depth : ℕ) (l : DirectiveList) → IsWellFormed (directives_parts constant l)
      → directives_nesting l ≤ depth
      → Prints (directives file constant depth) bare_directive_list (bare_directive_list l)
      (directives_text l.0) ends_token
  unfolding directives
  directives_print depth l fine fits = mapped_text (λ x. record { 0 = x }) bare_directive_list
      (bare_directive_list l) (λ x same. ap (λ (ds : List (NodeView Directive)). record { 0 = ds }) same)
      (many_text (directive file constant depth) (bare_node bare_directive) directive_text ends_token
      (codes " ") refl (λ rest. refl) l.0 (items_print (directive file constant depth)
      (bare_node bare_directive) directive_text (node_parts (directive_parts constant)) directive_nesting
      depth (directive_prints depth) l.0 fine fits))
