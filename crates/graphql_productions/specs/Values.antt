-- Input values: GraphQL specification of October 2021, section 2.9.
use Rattle.std.specs.Prelude.{ℕ, zero, suc, Bool, true, false, ◌||◌}
use Rattle.graphql_nodes.specs.declared.source.FileId.{FileId}
use Rattle.graphql_nodes.specs.NameView.{NameView}
use Rattle.graphql_nodes.specs.NodeView.{NodeView}
use Rattle.graphql_ast.specs.declared.value.Value.{Value, roll-Value}
use Rattle.graphql_ast.specs.declared.value.Value.TheOpen.{Value-F}
use Rattle.graphql_tokens.specs.BlockStringValues.{block_string_value}
use Rattle.graphql_tokens.specs.StringValues.{string_value as value_of_string}
use Rattle.graphql_grammar.specs.declared.fault.FaultKind.TheVariants.{Expected, VariableInConstant}
use Rattle.graphql_grammar.specs.declared.fault.Item.TheVariants as i
use Rattle.graphql_grammar.specs.declared.kind.Kind.{Kind}
use Rattle.graphql_grammar.specs.declared.kind.Kind.TheVariants as k
use Rattle.graphql_grammar.specs.Kinds.{Kinds, is_name, none, only}
use Rattle.graphql_grammar.specs.Pieces.{Piece, Wrong, branch, choose, headed, many, mapped, nothing, seq}
use Rattle.graphql_grammar.specs.Pieces.{sign, too_deep, word}
use Rattle.graphql_productions.specs.Nodes.{behind, between, name, node}

-- a value was expected
abbrev pub no_value : Wrong
no_value = λ _. Expected i.Value

-- what a value begins with
abbrev pub is_value : Kinds
is_value kind =
    is_name kind
    || (only k.Int kind
    || (only k.Float kind
    || (only k.String kind
    || (only k.BlockString kind
    || (only k.Dollar kind || (only k.LeftBracket kind || only k.LeftBrace kind))))))

-- IntValue: section 2.9.1
unfoldable pub int_value : Piece Value
int_value = mapped (λ w. roll-Value (Value-F.Int w.text)) (word (only k.Int) no_value)

-- FloatValue: section 2.9.2
unfoldable pub float_value : Piece Value
float_value = mapped (λ w. roll-Value (Value-F.Float w.text)) (word (only k.Float) no_value)

-- StringValue: section 2.9.4
unfoldable pub quoted_value : Piece Value
quoted_value =
    mapped (λ w. roll-Value (Value-F.String (value_of_string w.text))) (word (only k.String) no_value)

-- StringValue as a block string: section 2.9.4
unfoldable pub block_value : Piece Value
block_value =
    mapped (λ w. roll-Value (Value-F.String (block_string_value w.text))) (word (only k.BlockString) no_value)

-- BooleanValue: section 2.9.3
unfoldable pub true_value : Piece Value
true_value = mapped (λ _. roll-Value (Value-F.Boolean true)) (sign k.True)

-- BooleanValue `false`: section 2.9.3
unfoldable pub false_value : Piece Value
false_value = mapped (λ _. roll-Value (Value-F.Boolean false)) (sign k.False)

-- NullValue: section 2.9.5
unfoldable pub null_value : Piece Value
null_value = mapped (λ _. roll-Value Value-F.Null) (sign k.Null)

-- EnumValue, a name but `true`, `false` and `null`: section 2.9.6
unfoldable pub enum_value : FileId → Piece Value
enum_value file = mapped (λ n. roll-Value (Value-F.Enum n)) (name file)

-- Variable, where the value isn't constant: section 2.10
unfoldable pub variable : FileId → Piece NameView
variable file = mapped behind (seq (sign k.Dollar) (name file))

-- a variable, which a constant value has none of: section 2.10
unfoldable pub variable_or_none : FileId → Bool → Piece Value
variable_or_none file constant =
    choose constant (nothing (λ _. VariableInConstant))
    (mapped (λ n. roll-Value (Value-F.Variable n)) (variable file))

-- a variable as a value, which begins with `$`: section 2.10
abbrev pub variable_value : FileId → Bool → Piece Value
variable_value file constant = headed (only k.Dollar) (variable_or_none file constant)

-- ListValue: section 2.9.7
unfoldable pub list_of : Piece (NodeView Value) → Piece Value
list_of item =
    mapped (λ items. roll-Value (Value-F.List items))
    (between k.LeftBracket k.RightBracket no_value (many item))

-- a field of an input object, of its name and its value
abbrev pub member_of : NameView × (Unit {0} × NodeView Value) → NameView × NodeView Value
member_of x = (x.0, x.1.1)

-- ObjectField
unfoldable pub member_body : FileId → Piece (NodeView Value) → Piece (NameView × NodeView Value)
member_body file item = mapped member_of (seq (name file) (seq (sign k.Colon) item))

-- ObjectField, which begins with a name: section 2.9.8
abbrev pub member : FileId → Piece (NodeView Value) → Piece (NameView × NodeView Value)
member file item = headed is_name (member_body file item)

-- a field of an input object was expected
abbrev pub no_member : Wrong
no_member = λ _. Expected i.ObjectField

-- ObjectValue: section 2.9.8
unfoldable pub object_of : FileId → Piece (NodeView Value) → Piece Value
object_of file item =
    mapped (λ members. roll-Value (Value-F.Object members))
    (between k.LeftBrace k.RightBrace no_member (many (member file item)))

-- `[` or `{`
abbrev pub is_group : Kinds
is_group kind = only k.LeftBracket kind || only k.LeftBrace kind

-- the list or input object that begins with a word of this kind
abbrev pub group_pick : FileId → Piece (NodeView Value) → Kind → Piece Value
group_pick file item kind =
    choose (only k.LeftBracket kind) (list_of item) (
    choose (only k.LeftBrace kind) (object_of file item) (
    nothing no_value))

-- a list or an object
abbrev pub group : FileId → Piece (NodeView Value) → Piece Value
group file item = branch is_group none (group_pick file item) no_value

-- Value, by its first word; its lists and objects are such
abbrev pub value_pick : FileId → Bool → Piece Value → Kind → Piece Value
value_pick file constant grouped kind =
    choose (only k.Int kind) int_value (
    choose (only k.Float kind) float_value (
    choose (only k.String kind) quoted_value (
    choose (only k.BlockString kind) block_value (
    choose (only k.True kind) true_value (
    choose (only k.False kind) false_value (
    choose (only k.Null kind) null_value (
    choose (only k.Dollar kind) (variable_value file constant) (
    choose (is_group kind) grouped (
    choose (is_name kind) (enum_value file) (
    nothing no_value))))))))))

-- Value, where lists and input objects are read so: section 2.9
abbrev pub value_by : FileId → Bool → Piece Value → Piece Value
value_by file constant grouped = branch is_value none (value_pick file constant grouped) no_value

-- lists and objects, in which so many signs may be open
unfoldable pub nested_group : FileId → Bool → ℕ → Piece Value
nested_group file constant zero = too_deep
nested_group file constant (suc depth) =
    group file (node file (value_by file constant (headed is_group (nested_group file constant depth))))

-- Value, constant or not, in which so many signs may be open
abbrev pub value : FileId → Bool → ℕ → Piece Value
value file constant depth = value_by file constant (headed is_group (nested_group file constant depth))

-- a value with its location: section 2.9
abbrev pub value_node : FileId → Bool → ℕ → Piece (NodeView Value)
value_node file constant depth = node file (value file constant depth)
