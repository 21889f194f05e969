-- Input values are tame.
use Rattle.std.proofs.Common.{◌≡◌, Bool, [], false, refl, suc, true, zero, ℕ, ◌∷◌}
use Rattle.graphql_nodes.specs.declared.source.FileId.{FileId}
use Rattle.graphql_nodes.specs.NodeView.{NodeView}
use Rattle.graphql_ast.specs.declared.value.Value.{Value, roll-Value}
use Rattle.graphql_ast.specs.declared.value.Value.TheOpen.{Value-F}
use Rattle.graphql_grammar.specs.declared.fault.FaultKind.TheVariants.{TooDeep, VariableInConstant}
use Rattle.graphql_grammar.specs.declared.kind.Kind.{Kind}
use Rattle.graphql_grammar.specs.declared.kind.Kind.TheVariants as k
use Rattle.graphql_grammar.specs.Kinds.{is_name, none, only}
use Rattle.graphql_grammar.specs.Pieces.{Piece, headed, mapped, word}
use Rattle.graphql_grammar.specs.Words.{WordView}
use Rattle.graphql_grammar.proofs.CleanLaws.{all_tokens}
use Rattle.graphql_grammar.proofs.ViableLaws.{bare_word, is_only}
use Rattle.graphql_productions.specs.Nodes.{name, node}
use Rattle.graphql_productions.specs.Values.{block_value, enum_value, false_value, float_value, group}
use Rattle.graphql_productions.specs.Values.{group_pick, int_value, is_group, is_value, list_of, member}
use Rattle.graphql_productions.specs.Values.{member_body, nested_group, no_member, no_value, null_value}
use Rattle.graphql_productions.specs.Values.{object_of, quoted_value, true_value, value, value_by, value_node}
use Rattle.graphql_productions.specs.Values.{value_pick, variable, variable_or_none, variable_value}
use Rattle.graphql_productions.proofs.TamePieces.{Led, Nesting, Steady, Tame, begun, branch_tame, choose_tame}
use Rattle.graphql_productions.proofs.TamePieces.{headed_led, headed_tame, led, many_tame, mapped_tame}
use Rattle.graphql_productions.proofs.TamePieces.{nothing_tame, seq_tame, sign_tame, word_tame}
use Rattle.graphql_productions.proofs.NodeLaws.{between_tame, name_tame, node_tame}

-- a value that is one word of a kind
worded : {f : WordView → Value} (kind : Kind) → all_tokens (only kind) ≡ true
    → Steady (mapped f (word (only kind) no_value))
worded kind tokens = mapped_tame (word_tame (only kind) no_value kind (is_only kind) tokens)

enum_tame : (file : FileId) → Steady (enum_value file)
unfolding enum_value
enum_tame file = mapped_tame (name_tame file)

pub variable_tame : (file : FileId) → Steady (variable file)
unfolding variable
variable_tame file = mapped_tame (seq_tame (sign_tame k.Dollar refl) (name_tame file) refl)

variable_value_tame : (file : FileId) (constant : Bool)
    → Led (variable_value file constant) (variable_value file constant)
unfolding variable_or_none variable name
variable_value_tame file true = headed_led (only k.Dollar) {q = variable_or_none file true}
    (nothing_tame (λ _. VariableInConstant)) refl refl refl
variable_value_tame file false = led (headed_tame (only k.Dollar) (mapped_tame (variable_tame file)) refl refl
    refl)

-- ---- one of several

value_by_tame : (file : FileId) (constant : Bool) (p q : Piece Value)
    → Led (headed is_group p) (headed is_group q)
    → Tame (value_by file constant (headed is_group p)) (value_by file constant (headed is_group q))
unfolding int_value float_value quoted_value block_value true_value false_value null_value enum_value name
value_by_tame file constant p q t =
    begun (branch_tame is_value none (value_pick file constant (headed is_group p))
    (value_pick file constant (headed is_group q)) no_value (λ kind. choose_tame (only k.Int kind)
    (led (worded k.Int refl)) (choose_tame (only k.Float kind) (led (worded k.Float refl))
    (choose_tame (only k.String kind) (led (worded k.String refl)) (choose_tame (only k.BlockString kind)
    (led (worded k.BlockString refl)) (choose_tame (only k.True kind)
    (led (mapped_tame (sign_tame k.True refl))) (choose_tame (only k.False kind)
    (led (mapped_tame (sign_tame k.False refl))) (choose_tame (only k.Null kind)
    (led (mapped_tame (sign_tame k.Null refl))) (choose_tame (only k.Dollar kind)
    (variable_value_tame file constant)
    (choose_tame (is_group kind) t (choose_tame (is_name kind) (led (enum_tame file))
    (nothing_tame no_value))))))))))) refl refl refl) (roll-Value (Value-F.Int [])) (bare_word k.Int
    ∷ []) (bare_word k.Int, refl, (refl, refl))

-- ---- lists and objects

item_tame_by : (file : FileId) (constant : Bool) (p q : Piece Value)
    → Led (headed is_group p) (headed is_group q)
    → Tame (node file (value_by file constant (headed is_group p)))
    (node file (value_by file constant (headed is_group q)))
item_tame_by file constant p q t = node_tame (value_by_tame file constant p q t) refl

module _ (file : FileId) (constant : Bool) (p q : Piece Value) (t : Led (headed is_group p)
    (headed is_group q)) where
  abbrev item : Piece (NodeView Value)
  item = node file (value_by file constant (headed is_group p))

  abbrev wider : Piece (NodeView Value)
  wider = node file (value_by file constant (headed is_group q))

  list_tame : Tame (list_of item) (list_of wider)
  unfolding list_of
  list_tame = mapped_tame (between_tame k.LeftBracket k.RightBracket no_value
      (many_tame (item_tame_by file constant p q t) refl refl) refl refl refl)

  member_tame : Tame (member file item) (member file wider)
  unfolding member_body name
  member_tame = headed_tame is_name (mapped_tame (seq_tame (name_tame file) (seq_tame (sign_tame k.Colon refl)
      (item_tame_by file constant p q t) refl) refl)) refl refl refl

  object_tame : Tame (object_of file item) (object_of file wider)
  unfolding object_of
  object_tame = mapped_tame (between_tame k.LeftBrace k.RightBrace no_member (many_tame member_tame refl refl)
      refl refl refl)

  group_tame : Led (group file item) (group file wider)
  unfolding list_of object_of
  group_tame = branch_tame is_group none (group_pick file item) (group_pick file wider) no_value
      (λ kind. choose_tame (only k.LeftBracket kind) (led list_tame) (choose_tame (only k.LeftBrace kind)
      (led object_tame) (nothing_tame no_value))) refl refl refl

nested_group_tame : (file : FileId) (constant : Bool) (depth : ℕ)
    → Led (headed is_group (nested_group file constant depth))
    (headed is_group (nested_group file constant (suc depth)))
unfolding nested_group
nested_group_tame file constant zero = headed_led is_group {q = nested_group file constant (suc zero)}
    (nothing_tame (λ _. TooDeep)) refl refl refl
nested_group_tame file constant (suc depth) =
    headed_led is_group (group_tame file constant (nested_group file constant depth)
    (nested_group file constant (suc depth)) (nested_group_tame file constant depth)) refl refl refl

pub value_tame : (file : FileId) (constant : Bool) → Nesting (value file constant)
value_tame file constant depth = value_by_tame file constant (nested_group file constant depth)
    (nested_group file constant (suc depth)) (nested_group_tame file constant depth)

pub value_node_tame : (file : FileId) (constant : Bool) → Nesting (value_node file constant)
value_node_tame file constant depth = node_tame (value_tame file constant depth) refl

pub member_node_tame : (file : FileId) (constant : Bool) (depth : ℕ)
    → Tame (member file (value_node file constant depth)) (member file (value_node file constant (suc depth)))
member_node_tame file constant depth = member_tame file constant (nested_group file constant depth)
    (nested_group file constant (suc depth)) (nested_group_tame file constant depth)
