-- What is said of a word that can't stand where it does.
use Rattle.std.specs.Prelude.{◌≡◌, ℕ, List, [], ◌∷◌, ◌++◌, true, false, codes, if◌then◌else◌, ◌⊎◌}
use Rattle.graphql_grammar.specs.declared.fault.FaultKind.{FaultKind}
use Rattle.graphql_grammar.specs.declared.fault.FaultKind.TheVariants as f
use Rattle.graphql_grammar.specs.declared.fault.Item.{Item}
use Rattle.graphql_grammar.specs.declared.fault.Item.TheVariants as i
use Rattle.graphql_grammar.specs.declared.kind.Kind.{Kind}
use Rattle.graphql_grammar.specs.declared.kind.Kind.TheVariants as k
use Rattle.graphql_grammar.specs.Kinds.{is_name, is_token, only}
use Rattle.graphql_grammar.specs.Words.{WordView}
use Rattle.graphql_text.specs.declared.parse_error.ParseErrorKind.{ParseErrorKind}
use Rattle.graphql_text.specs.declared.parse_error.ParseErrorKind.TheVariants as e

-- words that alone may stand somewhere, each with its kind
abbrev pub lone_words : List (Kind × List ℕ)
lone_words =
    (k.On, codes "`on`") ∷ (k.Schema, codes "`schema`") ∷ (k.Implements, codes "`implements`") ∷
    (k.LeftParen, codes "`(`") ∷ (k.RightParen, codes "`)`") ∷ (k.Colon, codes "`:`") ∷
    (k.Equals, codes "`=`") ∷ (k.At, codes "`@`") ∷ (k.LeftBracket, codes "`[`") ∷
    (k.RightBracket, codes "`]`") ∷ (k.LeftBrace, codes "`{`") ∷ (k.RightBrace, codes "`}`") ∷
    (k.Dollar, codes "`$`") ∷ []

-- what stands with a kind in a table
abbrev pub text_among : List (Kind × List ℕ) → Kind → List ℕ
text_among [] kind = codes "a keyword"
text_among (x ∷ xs) kind = if only x.0 kind then x.1 else text_among xs kind

-- a word of this kind where it alone may stand
abbrev pub kind_text : Kind → List ℕ
kind_text kind = text_among lone_words kind

-- what alone may stand at a place, or the item that is being read there
abbrev pub item_text : Item → List ℕ
item_text i.Definition = codes "a definition"
item_text i.ExtensionPart = codes "something that extends"
item_text i.Extended = codes "what is extended"
item_text i.FieldDefinition = codes "a field definition"
item_text i.InputValue = codes "an input value definition"
item_text i.EnumValue = codes "an enum value definition"
item_text i.VariableDefinition = codes "a variable definition"
item_text i.RootOperation = codes "a root operation type"
item_text i.DirectiveLocation = codes "a directive location"
item_text i.Selection = codes "a selection"
item_text i.Argument = codes "an argument"
item_text i.Value = codes "a value"
item_text i.ObjectField = codes "an object field"
item_text i.Type = codes "a type"
item_text i.Name = codes "a name"
item_text i.End = codes "the end of the text"
item_text (i.Word kind) = kind_text kind

-- the first of these words, as it was found: in backquotes, a string by that word
abbrev pub found_text : List WordView → List ℕ
found_text [] = codes "the end of the text"
found_text (w ∷ ws) =
    if only k.String w.kind then codes "a string" else (
    if only k.BlockString w.kind then codes "a block string" else (
    codes "`" ++ w.text ++ codes "`"))

-- the text of the first of these words
abbrev pub first_text : List WordView → List ℕ
first_text [] = []
first_text (w ∷ ws) = w.text

-- something else was expected than the first of these words
abbrev pub unexpected : Item → List WordView → ParseErrorKind
unexpected item words = e.Unexpected (item_text item) (found_text words)

-- a variable where values are constant: by its name behind the `$`; a `$` without a name is no variable
abbrev pub of_variable : List WordView → List WordView → ParseErrorKind
of_variable words [] = unexpected i.Value words
of_variable words (w ∷ ws) = if is_name w.kind then e.VariableInConstant w.text else unexpected i.Value words

-- all of these but the first
abbrev pub behind_first : List WordView → List WordView
behind_first [] = []
behind_first (w ∷ ws) = ws

-- what a fault says of the first of these words
abbrev pub fault_said : FaultKind → List WordView → ParseErrorKind
fault_said (f.Expected item) words = unexpected item words
fault_said f.ReservedName words = e.ReservedName (first_text words)
fault_said f.VariableInConstant words = of_variable words (behind_first words)
fault_said f.UnknownDirectiveLocation words = e.UnknownDirectiveLocation (first_text words)
fault_said f.DescriptionNotAllowed words = e.DescriptionNotAllowed
fault_said f.TooDeep words = e.TooDeep

-- some character is unexpected
abbrev pub IsUnexpectedCharacter : ParseErrorKind → Type 0
IsUnexpectedCharacter kind = (character : ℕ) × (shown : List ℕ)
    × (kind ≡ e.UnexpectedCharacter character shown)

-- what is said where no token stands, or one more than are allowed
pub record SaysNoToken (word : Kind) (kind : ParseErrorKind) : Type 0 where
  pub character : only k.UnexpectedCharacter word ≡ true → IsUnexpectedCharacter kind
  pub string : only k.UnterminatedString word ≡ true → kind ≡ e.UnterminatedString
  pub escape : only k.InvalidEscape word ≡ true → kind ≡ e.InvalidEscape
  pub number : only k.InvalidNumber word ≡ true → kind ≡ e.InvalidNumber
  pub many : only k.TooMany word ≡ true → kind ≡ e.TooManyTokens

-- what is said of the first of these words, which has this fault: of a token what the fault says
abbrev pub Says : FaultKind → List WordView → ParseErrorKind → Type 0
Says fault [] kind = kind ≡ fault_said fault []
Says fault (w ∷ ws) kind = ((is_token w.kind ≡ true) × (kind ≡ fault_said fault (w ∷ ws)))
    ⊎ ((is_token w.kind ≡ false) × SaysNoToken w.kind kind)
