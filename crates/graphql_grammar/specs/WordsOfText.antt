-- The words of a text: GraphQL specification of October 2021, section 2.1.6.
use Rattle.std.specs.Prelude.{ℕ, zero, suc, List, [], ◌∷◌, length, filter, ◌-◌, codes, nat_eq, if◌then◌else◌}
use Rattle.std.specs.Prelude.{Option, None, Some, Result, Ok, Err}
use lib.Pointwise.{pointwise}
use Rattle.graphql_tokens.specs.First.{First, first_of}
use Rattle.graphql_tokens.specs.declared.token.TokenError.{TokenError}
use Rattle.graphql_tokens.specs.declared.token.TokenErrorKind.{TokenErrorKind}
use Rattle.graphql_tokens.specs.declared.token.TokenErrorKind.TheVariants as e
use Rattle.graphql_tokens.specs.declared.token.TokenKind.{TokenKind}
use Rattle.graphql_tokens.specs.declared.token.TokenKind.TheVariants as t
use Rattle.graphql_grammar.specs.Words.{WordView}
use Rattle.graphql_grammar.specs.declared.kind.Kind.{Kind}
use Rattle.graphql_grammar.specs.declared.kind.Kind.TheVariants as k

-- the words that the grammar tells apart from other names, each with its kind
abbrev pub keywords : List (List ℕ × Kind)
keywords =
    (codes "true", k.True) ∷ (codes "false", k.False) ∷ (codes "null", k.Null) ∷ (codes "on", k.On) ∷
    (codes "query", k.Query) ∷ (codes "mutation", k.Mutation) ∷ (codes "subscription", k.Subscription) ∷
    (codes "fragment", k.Fragment) ∷ (codes "schema", k.Schema) ∷ (codes "scalar", k.Scalar) ∷
    (codes "type", k.Type) ∷ (codes "interface", k.Interface) ∷ (codes "union", k.Union) ∷
    (codes "enum", k.Enum) ∷ (codes "input", k.Input) ∷ (codes "directive", k.Directive) ∷
    (codes "extend", k.Extend) ∷ (codes "implements", k.Implements) ∷ (codes "repeatable", k.Repeatable) ∷ []

-- the kind that stands with this text in a table, and `Name` where the text stands nowhere
abbrev pub kind_among : List (List ℕ × Kind) → List ℕ → Kind
kind_among [] text = k.Name
kind_among (x ∷ xs) text = if pointwise nat_eq text x.0 then x.1 else kind_among xs text

-- what a table has of words of this length
abbrev pub of_length : ℕ → List (List ℕ × Kind) → List (List ℕ × Kind)
of_length n table = filter (λ x. nat_eq (length x.0) n) table

-- the kind of a name of these bytes: the words that the grammar tells apart have kinds of their own
abbrev pub name_kind : List ℕ → Kind
name_kind text = kind_among keywords text

-- the kind of the word that a token of these bytes is
abbrev pub word_kind : TokenKind → List ℕ → Kind
word_kind t.Name text = name_kind text
word_kind t.Bang text = k.Bang
word_kind t.Dollar text = k.Dollar
word_kind t.Ampersand text = k.Ampersand
word_kind t.LeftParen text = k.LeftParen
word_kind t.RightParen text = k.RightParen
word_kind t.Spread text = k.Spread
word_kind t.Colon text = k.Colon
word_kind t.Equals text = k.Equals
word_kind t.At text = k.At
word_kind t.LeftBracket text = k.LeftBracket
word_kind t.RightBracket text = k.RightBracket
word_kind t.LeftBrace text = k.LeftBrace
word_kind t.Pipe text = k.Pipe
word_kind t.RightBrace text = k.RightBrace
word_kind t.Int text = k.Int
word_kind t.Float text = k.Float
word_kind t.String text = k.String
word_kind t.BlockString text = k.BlockString

-- the word that the first token of a text is, where the text is the end of one of so many bytes
abbrev pub word_of : ℕ → First → WordView
word_of total f = record {
  kind = word_kind f.kind f.text;
  text = f.text;
  start = total - length f.rest - length f.text;
  end = total - length f.rest;
}

-- what stands there where no more words are allowed
abbrev pub too_many : ℕ → First → WordView
too_many total f = record (word_of total f) { kind = k.TooMany; text = [] }

-- the kind of what stands there where a text stops being tokens
abbrev pub error_kind : TokenErrorKind → Kind
error_kind e.UnexpectedCharacter = k.UnexpectedCharacter
error_kind e.UnterminatedString = k.UnterminatedString
error_kind e.InvalidEscape = k.InvalidEscape
error_kind e.InvalidNumber = k.InvalidNumber

-- what stands there where a text stops being tokens
abbrev pub wrong : ℕ → List ℕ → TokenError → WordView
wrong total text error = record {
  kind = error_kind error.kind;
  text = [];
  start = total - (length text - error.at);
  end = total - (length text - error.at);
}

-- the words of a text of which this comes first, and so many are allowed; those behind the first are the
-- words of its rest
abbrev pub words_by : ℕ → ℕ → List ℕ → Result (Option First) TokenError → (ℕ → List ℕ → List WordView)
    → List WordView
words_by allowed total text (Ok None) behind = []
words_by allowed total text (Err error) behind = wrong total text error ∷ []
words_by zero total text (Ok (Some f)) behind = too_many total f ∷ []
words_by (suc allowed) total text (Ok (Some f)) behind = word_of total f ∷ behind allowed f.rest

-- the same, of a text with at most so many tokens
abbrev pub words_within : ℕ → ℕ → ℕ → List ℕ → List WordView
words_within zero allowed total text = []
words_within (suc size) allowed total text =
    words_by allowed total text (first_of text) (λ left rest. words_within size left total rest)

-- the words of the end of a text of so many bytes, of which so many are allowed
unfoldable pub words_at : ℕ → ℕ → List ℕ → List WordView
words_at allowed total text = words_within (suc (length text)) allowed total text

-- the words of a whole text, of which so many are allowed: its tokens. Where it stops being tokens, or has
-- more, comes a last word that nothing is spelled with
abbrev pub words_of : ℕ → List ℕ → List WordView
words_of allowed text = words_at allowed (length text) text
