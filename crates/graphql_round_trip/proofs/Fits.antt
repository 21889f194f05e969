-- Values, arguments, directives and references to types that are spelled within a depth nest at most so deep.
use Rattle.std.proofs.Common.{◌≡◌, ◌≤◌, ℕ, zero, suc, Bool, true, false, Option, None, Some, List, [], ◌∷◌}
use Rattle.std.proofs.Common.{arith, ◌||◌}
use Rattle.graphql_nodes.specs.NodeView.{NodeView}
use Rattle.graphql_nodes.specs.declared.source.FileId.{FileId}
use Rattle.graphql_ast.specs.declared.type_reference.Type.{«Type» as TypeReference}
use Rattle.graphql_ast.specs.declared.value.Value.{Value, fold-roll-Value}
use Rattle.graphql_ast.specs.declared.value.Value.TheOpen.{Value-F}
use Rattle.graphql_tokens.specs.BlockStringValues.{block_string_value}
use Rattle.graphql_tokens.specs.StringValues.{string_value}
use Rattle.graphql_grammar.specs.declared.fault.FaultKind.TheVariants.{VariableInConstant, Expected, TooDeep}
use Rattle.graphql_grammar.specs.Kinds.{is_name, only}
use Rattle.graphql_grammar.specs.Pieces.{Piece, mapped, optional, sign}
use Rattle.graphql_productions.specs.Directives.{argument, argument_node, arguments, directive}
use Rattle.graphql_productions.specs.Directives.{directive_node, directives, no_argument, no_directive}
use Rattle.graphql_productions.specs.Nodes.{name, span_at, or_none}
use Rattle.graphql_productions.specs.Types.{list_type_of, named_type, nested_list_type, required_where, type}
use Rattle.graphql_productions.specs.Types.{type_by, no_type}
use Rattle.graphql_productions.specs.Values.{block_value, enum_value, false_value, float_value, group}
use Rattle.graphql_productions.specs.Values.{int_value, is_group, list_of, member, member_body, nested_group}
use Rattle.graphql_productions.specs.Values.{no_member, no_value, null_value, object_of, quoted_value}
use Rattle.graphql_productions.specs.Values.{true_value, value_by, value_node, variable_or_none}
use Rattle.graphql_productions.specs.Values.{variable_value, variable}
use Rattle.graphql_round_trip.specs.Nesting.{argument_nesting, arguments_nesting, directive_nesting}
use Rattle.graphql_round_trip.specs.Nesting.{directives_nesting, type_nesting, value_level, value_nesting}
use Rattle.graphql_round_trip.specs.Nesting.{deepest, greatest, selection_nesting, selections_nesting}
use Rattle.graphql_round_trip.specs.Nesting.{between, default_nesting, fragment_nesting, operation_nesting}
use Rattle.graphql_round_trip.specs.Nesting.{variable_nesting}
use Rattle.graphql_round_trip.proofs.FitLaws.{Fits, between_keeps, branch_keeps, choose_keeps, enclosed_fits}
use Rattle.graphql_round_trip.proofs.FitLaws.{headed_keeps, item_keeps, list_fits, many_fits, mapped_keeps}
use Rattle.graphql_round_trip.proofs.FitLaws.{node_keeps, none_fits, nothing_keeps, same_fits, seq_keeps}
use Rattle.graphql_round_trip.proofs.FitLaws.{unasked, Keeps, between_fits, implied_keeps, items_fit}
use Rattle.graphql_round_trip.proofs.FitLaws.{left_out_fits, located_keeps, optional_fits, some_fits}
use Rattle.graphql_round_trip.proofs.FitLaws.{one_more_fits}
use Rattle.graphql_round_trip.proofs.Levels.{item_nesting, member_nesting, named_nested, required_nested}
use Rattle.graphql_round_trip.proofs.Levels.{field_nested, inline_nested, inline_nesting, list_nested}
use Rattle.graphql_round_trip.proofs.Levels.{list_type_nested, object_nested, selected_nesting}
use Rattle.graphql_round_trip.proofs.Levels.{selection_nested}
use Rattle.graphql_nodes.specs.NameView.{NameView}
use Rattle.graphql_ast.specs.declared.directive.Argument.{Argument}
use Rattle.graphql_ast.specs.declared.directive.DirectiveList.{DirectiveList}
use Rattle.graphql_ast.specs.declared.selection.FragmentSpread.{FragmentSpread}
use Rattle.graphql_ast.specs.declared.selection.Selection.{Selection}
use Rattle.graphql_ast.specs.declared.selection.Selection.TheOpen.{Selection-F}
use Rattle.graphql_productions.specs.Documents.{selections}
use Rattle.graphql_productions.specs.Selections.{alias, bare_selections, field, field_of, field_selection}
use Rattle.graphql_productions.specs.Selections.{fragment, fragment_body, fragment_name, inline_body}
use Rattle.graphql_productions.specs.Selections.{nested_set, no_selection, selection, selection_set}
use Rattle.graphql_productions.specs.Selections.{selections_of, spread_body, type_condition}
use Rattle.graphql_productions.specs.Operations.{default_body, default_value, fragment_definition}
use Rattle.graphql_productions.specs.Operations.{no_variable, operation, operation_name, shorthand, typed}
use Rattle.graphql_productions.specs.Operations.{variable_definition, variable_node, variables}
use Rattle.graphql_productions.specs.Operations.{operation_type}
use Rattle.graphql_grammar.specs.declared.kind.Kind.TheVariants as k
use Rattle.graphql_grammar.specs.declared.fault.Item.TheVariants as i

-- ---- values

-- values in which nothing nests, whatever they are made of
flat_fits : {A : Type 0} (p : Piece A) {f : A → Value} (depth : ℕ) → ((x : A) → value_nesting (f x) ≡ 0)
    → Fits (mapped f p) value_nesting depth
flat_fits p depth flat = mapped_keeps (unasked p) (λ x _. none_fits depth (flat x))

module _ (file : FileId) (depth : ℕ) where
  int_fits : Fits int_value value_nesting depth
  unfolding int_value
  int_fits = flat_fits _ depth (λ w. fold-roll-Value ℕ value_level (Value-F.Int w.text))

  float_fits : Fits float_value value_nesting depth
  unfolding float_value
  float_fits = flat_fits _ depth (λ w. fold-roll-Value ℕ value_level (Value-F.Float w.text))

  quoted_fits : Fits quoted_value value_nesting depth
  unfolding quoted_value
  quoted_fits = flat_fits _ depth (λ w. fold-roll-Value ℕ value_level (Value-F.String (string_value w.text)))

  block_fits : Fits block_value value_nesting depth
  unfolding block_value
  block_fits = flat_fits _ depth (λ w. fold-roll-Value ℕ value_level
      (Value-F.String (block_string_value w.text)))

  true_fits : Fits true_value value_nesting depth
  unfolding true_value
  true_fits = flat_fits _ depth (λ _. fold-roll-Value ℕ value_level (Value-F.Boolean true))

  false_fits : Fits false_value value_nesting depth
  unfolding false_value
  false_fits = flat_fits _ depth (λ _. fold-roll-Value ℕ value_level (Value-F.Boolean false))

  null_fits : Fits null_value value_nesting depth
  unfolding null_value
  null_fits = flat_fits _ depth (λ _. fold-roll-Value ℕ value_level Value-F.Null)

  enum_fits : Fits (enum_value file) value_nesting depth
  unfolding enum_value
  enum_fits = flat_fits _ depth (λ n. fold-roll-Value ℕ value_level (Value-F.Enum n))

  variable_fits : (constant : Bool) → Fits (variable_value file constant) value_nesting depth
  unfolding variable_or_none
  variable_fits constant = headed_keeps (choose_keeps constant (nothing_keeps (λ _. VariableInConstant))
      (flat_fits _ depth (λ n. fold-roll-Value ℕ value_level (Value-F.Variable n))))

  -- one of several
  value_by_fits : (constant : Bool) {grouped : Piece Value} → Fits grouped value_nesting depth
      → Fits (value_by file constant grouped) value_nesting depth
  value_by_fits constant pf =
      branch_keeps no_value (λ kind. choose_keeps (only k.Int kind) int_fits (choose_keeps (only k.Float kind)
      float_fits (choose_keeps (only k.String kind) quoted_fits (choose_keeps (only k.BlockString kind)
      block_fits (choose_keeps (only k.True kind) true_fits (choose_keeps (only k.False kind) false_fits
      (choose_keeps (only k.Null kind) null_fits (choose_keeps (only k.Dollar kind) (variable_fits constant)
      (choose_keeps (is_group kind) pf (choose_keeps (is_name kind) enum_fits
      (nothing_keeps no_value)))))))))))

-- lists and objects
module _ (file : FileId) (depth : ℕ) {item : Piece (NodeView Value)} (pf : Fits item item_nesting depth) where
  list_value_fits : Fits (list_of item) value_nesting (suc depth)
  unfolding list_of
  list_value_fits = mapped_keeps (between_keeps k.LeftBracket k.RightBracket no_value (many_fits pf))
      (λ items fits. one_more_fits (list_nested items) fits)

  member_fits : Fits (member file item) member_nesting depth
  unfolding member_body
  member_fits = headed_keeps (mapped_keeps (seq_keeps (unasked (name file))
      (seq_keeps (unasked (sign k.Colon)) pf)) (λ x fits. fits.1.1))

  object_fits : Fits (object_of file item) value_nesting (suc depth)
  unfolding object_of
  object_fits = mapped_keeps (between_keeps k.LeftBrace k.RightBrace no_member (many_fits member_fits))
      (λ members fits. one_more_fits (object_nested members) fits)

  group_fits : Fits (group file item) value_nesting (suc depth)
  group_fits = branch_keeps no_value (λ kind. choose_keeps (only k.LeftBracket kind) list_value_fits
      (choose_keeps (only k.LeftBrace kind) object_fits (nothing_keeps no_value)))

nested_group_fits : (file : FileId) (constant : Bool) (depth : ℕ)
    → Fits (nested_group file constant depth) value_nesting depth
unfolding nested_group
nested_group_fits file constant zero = nothing_keeps (λ _. TooDeep)
nested_group_fits file constant (suc depth) =
    group_fits file depth (node_keeps (value_by_fits file depth constant
    (headed_keeps (nested_group_fits file constant depth))))

-- a value
pub value_fits : (file : FileId) (constant : Bool) (depth : ℕ)
    → Fits (value_node file constant depth) item_nesting depth
value_fits file constant depth =
    node_keeps (value_by_fits file depth constant (headed_keeps (nested_group_fits file constant depth)))

-- ---- arguments and directives

argument_fits : (file : FileId) (constant : Bool) (depth : ℕ)
    → Fits (argument file constant depth) argument_nesting depth
unfolding argument_node
argument_fits file constant depth =
    item_keeps no_argument (node_keeps {P = λ a. item_nesting a.value ≤ depth} (mapped_keeps
    (seq_keeps (unasked (name file)) (seq_keeps (unasked (sign k.Colon)) (value_fits file constant depth)))
    (λ x fits. fits.1.1)))

-- arguments, if there are any
pub arguments_fit : (file : FileId) (constant : Bool) (depth : ℕ)
    → Fits (arguments file constant depth) arguments_nesting depth
unfolding arguments
arguments_fit file constant depth = list_fits argument_nesting (enclosed_fits k.LeftParen k.RightParen
    no_argument depth (λ inside. argument_fits file constant inside))

directive_fits : (file : FileId) (constant : Bool) (depth : ℕ)
    → Fits (directive file constant depth) directive_nesting depth
unfolding directive_node
directive_fits file constant depth =
    item_keeps no_directive (node_keeps {P = λ d. arguments_nesting d.arguments ≤ depth} (mapped_keeps
    (seq_keeps (unasked (sign k.At)) (seq_keeps (unasked (name file)) (arguments_fit file constant depth)))
    (λ x fits. fits.1.1)))

-- directives, if there are any
pub directives_fit : (file : FileId) (constant : Bool) (depth : ℕ)
    → Fits (directives file constant depth) directives_nesting depth
unfolding directives
directives_fit file constant depth = mapped_keeps (many_fits (directive_fits file constant depth))
    (λ xs fits. fits)

-- ---- references to types

required_fits : (depth : ℕ) (x : TypeReference × Option (Unit {0})) → type_nesting x.0 ≤ depth
    → type_nesting (required_where x) ≤ depth
required_fits depth (t, None) fits = fits
required_fits depth (t, Some _) fits = same_fits (required_nested t) fits

named_fits : (file : FileId) (depth : ℕ) → Fits (named_type file) type_nesting depth
unfolding named_type
named_fits file depth = mapped_keeps (unasked _) (λ n _. none_fits depth (named_nested n))

list_type_fits : (depth : ℕ) {item : Piece TypeReference} → Fits item type_nesting depth
    → Fits (list_type_of item) type_nesting (suc depth)
unfolding list_type_of
list_type_fits depth pf = mapped_keeps (between_keeps k.LeftBracket k.RightBracket
    (λ _. Expected (i.Word k.RightBracket)) pf) (λ t fits. one_more_fits (list_type_nested t) fits)

type_by_fits : (file : FileId) (depth : ℕ) {list : Piece TypeReference} → Fits list type_nesting depth
    → Fits (type_by file list) type_nesting depth
type_by_fits file depth pf =
    mapped_keeps (seq_keeps (branch_keeps no_type (λ kind. choose_keeps (only k.LeftBracket kind) pf
    (choose_keeps (is_name kind) (named_fits file depth) (nothing_keeps no_type))))
    (unasked (optional (sign k.Bang)))) (λ x fits. required_fits depth x fits.0)

nested_list_fits : (file : FileId) (depth : ℕ) → Fits (nested_list_type file depth) type_nesting depth
unfolding nested_list_type
nested_list_fits file zero = nothing_keeps (λ _. TooDeep)
nested_list_fits file (suc depth) =
    list_type_fits depth (type_by_fits file depth (headed_keeps (nested_list_fits file depth)))

-- a reference to a type
pub type_fits : (file : FileId) (depth : ℕ) → Fits (type file depth) type_nesting depth
type_fits file depth = type_by_fits file depth (headed_keeps (nested_list_fits file depth))

-- ---- selections that are spelled within a depth nest at most so deep

-- ---- fields and fragments

field_of_fits : (first : NameView) (second : Option NameView) (a : List (NodeView Argument))
    (l : DirectiveList) (xs : List Selection) (depth : ℕ)
    → greatest (arguments_nesting a ∷ directives_nesting l ∷ selections_nesting xs ∷ []) ≤ depth
    → selected_nesting (field_of first second a l xs) ≤ depth
field_of_fits first None a l xs depth fits =
    same_fits (field_nested
    (record { alias = None; name = first; arguments = a; directives = l; selection_set = xs })) fits
field_of_fits first (Some second) a l xs depth fits =
    same_fits (field_nested
    (record { alias = Some first; name = second; arguments = a; directives = l; selection_set = xs })) fits

module _ (file : FileId) (depth : ℕ) {p : Piece (List Selection)} (pf : Fits p selections_nesting depth) where
  field_fits : Fits (field file depth p) selected_nesting depth
  unfolding field
  field_fits = mapped_keeps (seq_keeps (unasked (name file)) (seq_keeps (unasked (optional (alias file)))
      (seq_keeps (arguments_fit file false depth) (seq_keeps (directives_fit file false depth)
      (optional_fits pf))))) (λ x fits. let inside : selections_nesting (or_none x.1.1.1.1)
      ≤ depth = left_out_fits selection_nesting x.1.1.1.1 depth fits.1.1.1.1 in
      field_of_fits x.0 x.1.0 x.1.1.0 x.1.1.1.0 (or_none x.1.1.1.1) depth
      (omega (arith, inside, fits.1.1.0, fits.1.1.1.0)))

  spread_fits : Fits (spread_body file depth) (λ (s : FragmentSpread). directives_nesting s.directives) depth
  unfolding spread_body
  spread_fits = mapped_keeps (seq_keeps (unasked (fragment_name file)) (directives_fit file false depth))
      (λ x fits. fits.1)

  inline_fits : Fits (inline_body file depth p) inline_nesting depth
  unfolding inline_body
  inline_fits = mapped_keeps (seq_keeps (unasked (optional (type_condition file)))
      (seq_keeps (directives_fit file false depth) pf))
      (λ x fits. same_fits (inline_nested
      (record { type_condition = x.0; directives = x.1.0; selection_set = x.1.1 }))
      (omega (arith, fits.1.0, fits.1.1)))

  -- a fragment that is to be placed, wherever it will be
  body_keeps : Keeps (fragment_body file depth p) (λ f. (at : ℕ × ℕ) → selection_nesting (f at) ≤ depth)
  body_keeps = branch_keeps no_selection
      (λ kind. choose_keeps (only k.On kind || (only k.At kind || only k.LeftBrace kind))
      (mapped_keeps inline_fits
      (λ x fits at. same_fits (selection_nested (Selection-F.InlineFragment
      (record { value = x; location = span_at file at }))) fits)) (choose_keeps (is_name kind)
      (mapped_keeps spread_fits (λ x fits at. same_fits (selection_nested (Selection-F.FragmentSpread
      (record { value = x; location = span_at file at }))) fits)) (nothing_keeps no_selection)))

  fragment_selection_fits : Fits (fragment file depth p) selection_nesting depth
  unfolding fragment
  fragment_selection_fits = mapped_keeps (located_keeps (seq_keeps (unasked (sign k.Spread)) body_keeps))
      (λ x fits. fits.1 x.1)

  field_selection_fits : Fits (field_selection file depth p) selection_nesting depth
  unfolding field_selection
  field_selection_fits = mapped_keeps (node_keeps field_fits)
      (λ n fits. same_fits (selection_nested (Selection-F.Field n)) fits)

  selection_fits : Fits (selection file depth p) selection_nesting depth
  selection_fits = branch_keeps no_selection (λ kind. choose_keeps (only k.Spread kind)
      fragment_selection_fits (choose_keeps (is_name kind) field_selection_fits (nothing_keeps no_selection)))

-- ---- selection sets

nested_set_fits : (file : FileId) (depth : ℕ) → Fits (nested_set file depth) selections_nesting depth
unfolding nested_set selections_of
nested_set_fits file zero = nothing_keeps (λ _. TooDeep)
nested_set_fits file (suc depth) =
    implied_keeps (between_keeps k.LeftBrace k.RightBrace no_selection
    (some_fits (selection_fits file depth (headed_keeps (nested_set_fits file depth)))))
    (λ xs fits. between_fits selection_nesting xs depth fits)

-- selections in braces
pub selection_set_fits : (file : FileId) (depth : ℕ)
    → Fits (selection_set file depth) selections_nesting depth
selection_set_fits file depth = headed_keeps (nested_set_fits file depth)

bare_selections_fit : (file : FileId) (depth : ℕ)
    → Fits (bare_selections file depth) (deepest selection_nesting) depth
unfolding bare_selections
bare_selections_fit file depth = some_fits (selection_fits file depth (selection_set_fits file depth))

-- selections in braces or without
pub selections_fit : (file : FileId) (depth : ℕ)
    → Fits (selections file depth) (deepest selection_nesting) depth
selections_fit file depth = branch_keeps no_selection (λ kind. choose_keeps (only k.LeftBrace kind)
    (implied_keeps (selection_set_fits file depth) (λ xs fits. items_fit selection_nesting xs depth fits))
    (bare_selections_fit file depth))

-- ---- operations and fragments that are spelled within a depth nest at most so deep

default_fits : (file : FileId) (depth : ℕ) → Fits (default_value file depth) item_nesting depth
unfolding default_body
default_fits file depth =
    headed_keeps (mapped_keeps (seq_keeps (unasked (sign k.Equals)) (value_fits file true depth))
    (λ x fits. fits.1))

-- a type behind `:`, with what stands behind it
abbrev pub typed_nesting : Unit {0} × (NodeView TypeReference × (Option (NodeView Value) × DirectiveList)) → ℕ
typed_nesting x = greatest (type_nesting x.1.0.value ∷ default_nesting x.1.1.0 ∷ directives_nesting x.1.1.1
    ∷ [])

-- a type behind `:`, with a default value, if there is one, and directives
pub typed_fits : (file : FileId) (depth : ℕ) → Fits (typed file depth) typed_nesting depth
unfolding typed
typed_fits file depth =
    implied_keeps (seq_keeps (unasked (sign k.Colon)) (seq_keeps (node_keeps (type_fits file depth))
    (seq_keeps (optional_fits (default_fits file depth)) (directives_fit file true depth))))
    (λ x fits. omega (arith, fits.1.0, fits.1.1.0, fits.1.1.1))

variable_definition_fits : (file : FileId) (depth : ℕ)
    → Fits (variable_definition file depth) variable_nesting depth
unfolding variable_node
variable_definition_fits file depth =
    item_keeps no_variable
    (node_keeps {P = λ v. variable_nesting (record { value = v; location = None }) ≤ depth} (mapped_keeps
    (seq_keeps (unasked (variable file)) (typed_fits file depth)) (λ x fits. fits.1)))

variables_fit : (file : FileId) (depth : ℕ) → Fits (variables file depth) (between variable_nesting) depth
unfolding variables
variables_fit file depth = list_fits variable_nesting (enclosed_fits k.LeftParen k.RightParen no_variable
    depth (λ inside. variable_definition_fits file inside))

-- an operation
pub operation_fits : (file : FileId) (depth : ℕ) → Fits (operation file depth) operation_nesting depth
unfolding operation
operation_fits file depth =
    mapped_keeps (seq_keeps (unasked operation_type) (seq_keeps (unasked (optional (operation_name file)))
    (seq_keeps (variables_fit file depth) (seq_keeps (directives_fit file false depth)
    (selection_set_fits file depth))))) (λ x fits. omega (arith, fits.1.1.0, fits.1.1.1.0, fits.1.1.1.1))

-- a query of selections alone
pub shorthand_fits : (file : FileId) (depth : ℕ) → Fits (shorthand file depth) operation_nesting depth
unfolding shorthand
shorthand_fits file depth = mapped_keeps (selection_set_fits file depth) (λ xs fits. omega (arith, fits))

-- a fragment
pub fragment_fits : (file : FileId) (depth : ℕ) → Fits (fragment_definition file depth) fragment_nesting depth
unfolding fragment_definition
fragment_fits file depth =
    mapped_keeps (seq_keeps (unasked (sign k.Fragment)) (seq_keeps (unasked (fragment_name file))
    (seq_keeps (unasked (type_condition file)) (seq_keeps (directives_fit file false depth)
    (selection_set_fits file depth))))) (λ x fits. omega (arith, fits.1.1.1.0, fits.1.1.1.1))
