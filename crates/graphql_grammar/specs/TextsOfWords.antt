-- What the texts of words are, and how words stand in their text: GraphQL specification of October 2021,
-- sections 2.1.6, 2.1.9 and 2.9.
use Rattle.std.specs.Prelude.{◌≡◌, ◌≤◌, ℕ, true, List, [], ◌∷◌, take, Ok}
use Rattle.graphql_tokens.specs.Lexemes.{lexeme}
use Rattle.graphql_tokens.specs.declared.token.TokenKind.{TokenKind}
use Rattle.graphql_tokens.specs.declared.token.TokenKind.TheVariants as t
use Rattle.graphql_grammar.specs.declared.kind.Kind.TheVariants as k
use Rattle.graphql_grammar.specs.Kinds.{is_name, only}
use Rattle.graphql_grammar.specs.Words.{WordView}
use Rattle.graphql_grammar.specs.WordsOfText.{name_kind}

-- the bytes of a token of this kind, which stands at the front of some bytes
pub record IsTextOf (kind : TokenKind) (text : List ℕ) : Type 0 where
  pub bytes : List ℕ
  pub size : ℕ
  pub token : lexeme bytes ≡ Ok (record { kind = kind; size = size })
  pub taken : text ≡ take size bytes

-- the text of a word is as its kind says: that of a name, by which it has its kind, or that of a number
pub record HasItsText (w : WordView) : Type 0 where
  pub name : is_name w.kind ≡ true → IsTextOf t.Name w.text × (w.kind ≡ name_kind w.text)
  pub int : only k.Int w.kind ≡ true → IsTextOf t.Int w.text
  pub float : only k.Float w.kind ≡ true → IsTextOf t.Float w.text

-- these words stand between these bytes, one behind the other
abbrev pub StandInOrder : ℕ → ℕ → List WordView → Type 0
StandInOrder from to [] = Unit {0}
StandInOrder from to (w ∷ ws) = (from ≤ w.start) × (w.start ≤ w.end) × (w.end ≤ to) × StandInOrder w.end to ws
