-- Kinds of words, and sets of them.
use Rattle.std.specs.Prelude.{ℕ, Bool, true, false, ◌||◌, ◌&&◌, not, List, [], ◌∷◌, nat_eq, nat_lt}
use Rattle.graphql_grammar.specs.declared.kind.Kind.{Kind}
use Rattle.graphql_grammar.specs.declared.kind.Kind.TheVariants as k
use Rattle.graphql_grammar.specs.declared.kind.Names.{Names}
use Rattle.graphql_grammar.specs.declared.kind.Names.TheVariants as n

-- the number of a kind
abbrev pub tag : Kind → ℕ
tag k.Name = 0
tag k.True = 1
tag k.False = 2
tag k.Null = 3
tag k.On = 4
tag k.Query = 5
tag k.Mutation = 6
tag k.Subscription = 7
tag k.Fragment = 8
tag k.Schema = 9
tag k.Scalar = 10
tag k.Type = 11
tag k.Interface = 12
tag k.Union = 13
tag k.Enum = 14
tag k.Input = 15
tag k.Directive = 16
tag k.Extend = 17
tag k.Implements = 18
tag k.Repeatable = 19
tag k.Bang = 20
tag k.Dollar = 21
tag k.Ampersand = 22
tag k.LeftParen = 23
tag k.RightParen = 24
tag k.Spread = 25
tag k.Colon = 26
tag k.Equals = 27
tag k.At = 28
tag k.LeftBracket = 29
tag k.RightBracket = 30
tag k.LeftBrace = 31
tag k.Pipe = 32
tag k.RightBrace = 33
tag k.Int = 34
tag k.Float = 35
tag k.String = 36
tag k.BlockString = 37
tag k.UnexpectedCharacter = 38
tag k.UnterminatedString = 39
tag k.InvalidEscape = 40
tag k.InvalidNumber = 41
tag k.TooMany = 42

-- a set of kinds
abbrev pub Kinds : Type 0
Kinds = Kind → Bool

-- the kind alone
abbrev pub only : Kind → Kinds
only kind other = nat_eq (tag other) (tag kind)

-- no kind
abbrev pub none : Kinds
none other = false

-- the kinds of one set or the other
abbrev pub either_of : Kinds → Kinds → Kinds
either_of a b other = a other || b other

-- names, the words that the grammar tells apart among them: section 2.1.9
abbrev pub is_name : Kinds
is_name kind = nat_lt (tag kind) 20

-- the names that may stand at such a place: all; all but `on`; all but `true`, `false` and `null`
abbrev pub names_of : Names → Kinds
names_of n.Any kind = is_name kind
names_of n.Fragment kind = is_name kind && not (only k.On kind)
names_of n.EnumValue kind = is_name kind && (nat_eq (tag kind) 0 || nat_lt 3 (tag kind))

-- tokens: all but what stands there where a text stops being tokens, or has more than are allowed
abbrev pub is_token : Kinds
is_token kind = nat_lt (tag kind) 38

-- all kinds
abbrev pub all_kinds : List Kind
all_kinds = k.Name ∷ k.True ∷ k.False ∷ k.Null ∷ k.On ∷ k.Query ∷ k.Mutation ∷ k.Subscription ∷ k.Fragment
    ∷ k.Schema ∷ k.Scalar ∷ k.Type ∷ k.Interface ∷ k.Union ∷ k.Enum ∷ k.Input ∷ k.Directive ∷ k.Extend
    ∷ k.Implements ∷ k.Repeatable ∷ k.Bang ∷ k.Dollar ∷ k.Ampersand ∷ k.LeftParen ∷ k.RightParen ∷ k.Spread
    ∷ k.Colon ∷ k.Equals ∷ k.At ∷ k.LeftBracket ∷ k.RightBracket ∷ k.LeftBrace ∷ k.Pipe ∷ k.RightBrace ∷ k.Int
    ∷ k.Float ∷ k.String ∷ k.BlockString ∷ k.UnexpectedCharacter ∷ k.UnterminatedString ∷ k.InvalidEscape
    ∷ k.InvalidNumber ∷ k.TooMany ∷ []

-- whether a test holds of each of these kinds
abbrev pub each_of : Kinds → List Kind → Bool
each_of f [] = true
each_of f (kind ∷ kinds) = f kind && each_of f kinds

-- whether a test holds of each kind
abbrev pub each_kind : Kinds → Bool
each_kind f = each_of f all_kinds
