-- Values as one of each kind: GraphQL specification of October 2021, sections 2.9, 3.5.1 and 3.5.2.
use Rattle.std.specs.Prelude.{ℕ, Bool, true, false, List, Option, None, Some, cond}
use Rattle.std.specs.Float.{Float, binary64, float_is_finite}
use Rattle.std.specs.Float.Parse.{parse_float}
use Rattle.std.specs.Option.{option_and_then}
use Rattle.graphql_nodes.specs.NameView.{NameView}
use Rattle.graphql_nodes.specs.NodeView.{NodeView}
use Rattle.graphql_ast.specs.declared.value.Value.{Value, out-Value}
use Rattle.graphql_ast.specs.declared.value.Value.TheOpen.{Value-F}

-- whether a value is null, opened
abbrev pub opened_null : Value-F Value → Bool
opened_null Value-F.Null = true
opened_null _ = false

-- the value is null
abbrev pub is_null : Value → Bool
is_null v = opened_null (out-Value v)

-- the name of an enum value, opened
abbrev pub opened_enum : Value-F Value → Option NameView
opened_enum (Value-F.Enum n) = Some n
opened_enum _ = None

-- the name, if the value is one of an enum
abbrev pub as_enum : Value → Option NameView
as_enum v = opened_enum (out-Value v)

-- the name of a variable, opened
abbrev pub opened_variable : Value-F Value → Option NameView
opened_variable (Value-F.Variable n) = Some n
opened_variable _ = None

-- the name of the variable, if the value is one
abbrev pub as_variable : Value → Option NameView
as_variable v = opened_variable (out-Value v)

-- the text of a string, opened
abbrev pub opened_string : Value-F Value → Option (List ℕ)
opened_string (Value-F.String text) = Some text
opened_string _ = None

-- the text, if the value is a string
abbrev pub as_string : Value → Option (List ℕ)
as_string v = opened_string (out-Value v)

-- the text of an integer, opened
abbrev pub opened_int : Value-F Value → Option (List ℕ)
opened_int (Value-F.Int text) = Some text
opened_int _ = None

-- the text of the integer, if the value is one
abbrev pub as_int : Value → Option (List ℕ)
as_int v = opened_int (out-Value v)

-- the text of a float or of an integer, opened
abbrev pub opened_number : Value-F Value → Option (List ℕ)
opened_number (Value-F.Float text) = Some text
opened_number (Value-F.Int text) = Some text
opened_number _ = None

-- the text of the number, if the value is a float or an integer
abbrev pub as_number : Value → Option (List ℕ)
as_number v = opened_number (out-Value v)

-- the number, if it is finite
abbrev pub only_finite : Float → Option Float
only_finite x = cond (float_is_finite x) (Some x) None

-- the float of 64 bits that a text writes, if it writes a finite one
abbrev pub finite_float : List ℕ → Option Float
finite_float text = option_and_then only_finite (parse_float binary64 text)

-- the float of 64 bits nearest to a float or an integer, if that is finite
abbrev pub finite_number : Value → Option Float
finite_number v = option_and_then finite_float (as_number v)

-- true or false, opened
abbrev pub opened_boolean : Value-F Value → Option Bool
opened_boolean (Value-F.Boolean b) = Some b
opened_boolean _ = None

-- the answer, if the value is true or false
abbrev pub as_boolean : Value → Option Bool
as_boolean v = opened_boolean (out-Value v)

-- the values in a list, opened
abbrev pub opened_list : Value-F Value → Option (List (NodeView Value))
opened_list (Value-F.List items) = Some items
opened_list _ = None

-- the values in the list, if the value is one
abbrev pub as_list : Value → Option (List (NodeView Value))
as_list v = opened_list (out-Value v)

-- the fields of an input object, opened
abbrev pub opened_object : Value-F Value → Option (List (NameView × NodeView Value))
opened_object (Value-F.Object members) = Some members
opened_object _ = None

-- the fields, each with its name, if the value is an input object
abbrev pub as_object : Value → Option (List (NameView × NodeView Value))
as_object v = opened_object (out-Value v)
