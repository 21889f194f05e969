-- How tokens lie in a text: GraphQL specification of October 2021, section 2.1.
use Rattle.std.specs.Prelude.{ℕ, List, [], ◌∷◌, ◌≡◌, ◌<◌, ◌≤◌, length, slice_range, Ok}
use Rattle.graphql_tokens.specs.Ignored.{ignored}
use Rattle.graphql_tokens.specs.Tokens.{tokens_of}
use Rattle.graphql_tokens.specs.declared.token.Token.{Token}

-- all bytes between two places say nothing
abbrev pub SaysNothing : List ℕ → ℕ → ℕ → Type 0
SaysNothing text from to = ignored (slice_range text from to) ≡ length (slice_range text from to)

-- a token comes next behind a place. It begins there or further on, has a byte at least, and lies within the
-- text. What stands before it says nothing
pub record ComesNext (text : List ℕ) (at : ℕ) (t : Token) : Type 0 where
  pub in_order : at ≤ t.start
  pub some : t.start < t.end
  pub within : t.end ≤ length text
  pub nothing : SaysNothing text at t.start

-- a text is made of these tokens, in order, from a place on: what stands before, between and behind them says
-- nothing
abbrev pub IsMadeOf : List ℕ → ℕ → List Token → Type 0
IsMadeOf text at [] = SaysNothing text at (length text)
IsMadeOf text at (t ∷ ts) = ComesNext text at t × IsMadeOf text t.end ts

-- each text that has tokens is made of them
abbrev pub TextsAreMadeOfTokens : Type 0
TextsAreMadeOfTokens = (text : List ℕ) (list : List Token) → tokens_of text ≡ Ok list → IsMadeOf text 0 list
