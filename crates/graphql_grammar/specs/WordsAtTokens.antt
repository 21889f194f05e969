-- The words at the tokens of a text: GraphQL specification of October 2021, section 2.1.6.
use Rattle.std.specs.Prelude.{◌≡◌, ◌≤◌, ℕ, List, length, map, slice_range, Ok}
use Rattle.graphql_tokens.specs.Tokens.{Tokens}
use Rattle.graphql_tokens.specs.declared.token.Token.{Token}
use Rattle.graphql_grammar.specs.Words.{WordView}
use Rattle.graphql_grammar.specs.WordsOfText.{word_kind}

-- the bytes of a token of a text
abbrev pub bytes_at : List ℕ → Token → List ℕ
bytes_at text token = slice_range text token.start token.end

-- the word at a token of a text
abbrev pub word_at : List ℕ → Token → WordView
word_at text token = record {
  kind = word_kind token.kind (bytes_at text token);
  text = bytes_at text token;
  start = token.start;
  end = token.end;
}

-- there are tokens, no more than are allowed, and these words are the words at them
pub record AreAtTokens (allowed : ℕ) (text : List ℕ) (tokens : Tokens) (words : List WordView) : Type 0 where
  pub list : List Token
  pub read : tokens ≡ Ok list
  pub few : length list ≤ allowed
  pub same : words ≡ map (word_at text) list
