-- What is read of a text: GraphQL specification of October 2021, sections 2.1 and 2.2.
use Rattle.std.specs.Prelude.{◌≡◌, ℕ, Bool, true, not, ◌||◌, List, [], ◌∷◌, ◌++◌, nat_eq, Some, Ok}
use Rattle.std.specs.List.{list_all}
use Rattle.graphql_tokens.specs.Bytes.{begins, is_blank, is_name_byte}
use Rattle.graphql_tokens.specs.First.{First, first_of}
use Rattle.graphql_tokens.specs.declared.token.TokenKind.{TokenKind}
use Rattle.graphql_grammar.specs.Kinds.{Kinds}
use Rattle.graphql_grammar.specs.Pieces.{Piece}
use Rattle.graphql_grammar.specs.Words.{WordView}
use Rattle.graphql_grammar.specs.WordsOfText.{word_of}

-- such words come first in a text, one after the other, and then blanks and these bytes are left
abbrev pub Leads : ℕ → List ℕ → List WordView → List ℕ → Type 0
Leads total text [] rest = (gap : List ℕ) × (list_all is_blank gap ≡ true) × (text ≡ gap ++ rest)
Leads total text (w ∷ ws) rest = (f : First) × (first_of text ≡ Ok (Some f)) × (w ≡ word_of total f)
    × Leads total f.rest ws rest

-- whether these bytes go on with no token that stands before them: they begin with no letter, digit, `_`, `.`
-- and quote
abbrev pub ends_token : List ℕ → Bool
ends_token rest = not (begins (λ c. is_name_byte c || (nat_eq c 46 || nat_eq c 34)) rest)

-- any bytes
abbrev pub anything : List ℕ → Bool
anything rest = true

-- a text is one token, whatever of these bytes stands behind it
abbrev pub IsToken : TokenKind → List ℕ → (List ℕ → Bool) → Type 0
IsToken kind text ends = (rest : List ℕ) → ends rest ≡ true
    → first_of (text ++ rest) ≡ Ok (Some (record { passed = 0; kind = kind; text = text; rest = rest }))

-- the words at the front of a text, before these bytes, spell what is seen as this
pub record ReadAs {A B : Type 0} (p : Piece A) (see : A
    → B) (y : B) (total : ℕ) (text rest : List ℕ) : Type 0 where
  pub value : A
  pub words : List WordView
  pub same : see value ≡ y
  pub leads : Leads total (text ++ rest) words rest
  pub spelled : p.spells value words

-- a text is read as what is seen as this, whatever of such bytes stands behind it
pub record Prints {A B : Type 0} (p : Piece A) (see : A → B) (y : B) (text : List ℕ) (ends : List ℕ
    → Bool) : Type 0 where
  pub read : (total : ℕ) (rest : List ℕ) → ends rest ≡ true → ReadAs p see y total text rest

-- a text begins with no blank, and with a word of such a kind, whatever of such bytes stands behind it
pub record Heads (kinds : Kinds) (text : List ℕ) (ends : List ℕ → Bool) : Type 0 where
  pub solid : begins (λ c. not (is_blank c)) text ≡ true
  pub first : (total : ℕ) (rest : List ℕ) → ends rest ≡ true
      → (f : First) × (first_of (text ++ rest) ≡ Ok (Some f)) × (kinds (word_of total f).kind ≡ true)
