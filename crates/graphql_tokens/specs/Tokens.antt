-- The tokens of a text: GraphQL specification of October 2021, section 2.1.
--
-- What says nothing is passed over. Then comes the longest token that stands there, and so on, up to the end
-- of the text or to what is wrong first.
use Rattle.std.specs.Prelude.{ℕ, zero, suc, List, [], ◌∷◌, ◌+◌, ◌-◌, nat_eq, if◌then◌else◌, Result, Ok, Err}
use Rattle.graphql_tokens.specs.Ignored.{one_ignored}
use Rattle.graphql_tokens.specs.Lexemes.{Reading, lexeme}
use Rattle.graphql_tokens.specs.declared.lexemes.Lexeme.{Lexeme}
use Rattle.graphql_tokens.specs.declared.token.Token.{Token}
use Rattle.graphql_tokens.specs.declared.token.TokenError.{TokenError}

-- the tokens of a text, or what is wrong with it first
abbrev pub Tokens : Type 0
Tokens = Result (List Token) TokenError

-- this token, and then these
abbrev pub put_first : Token → Tokens → Tokens
put_first t (Ok ts) = Ok (t ∷ ts)
put_first t (Err e) = Err e

-- the token that stands at a place
abbrev pub token_at : ℕ → Lexeme → Token
token_at at l = record { kind = l.kind; start = at; end = at + l.size }

-- the token at a place, or what is wrong there
abbrev pub placed : ℕ → Reading → Result Token TokenError
placed at (Ok l) = Ok (token_at at l)
placed at (Err e) = Err (record { kind = e.kind; at = at + e.at })

-- what stands at a place, and then what stands so many bytes behind the next one
abbrev pub read_at : Reading → ℕ → (ℕ → Tokens) → Tokens
read_at (Ok l) at behind = put_first (token_at at l) (behind (l.size - 1))
read_at (Err e) at behind = Err (record { kind = e.kind; at = at + e.at })

-- the tokens of a text whose first byte stands at this place. So many bytes are of what stands before, and
-- what says nothing is passed over. Then comes the token that stands there, or what is wrong there, and what
-- stands behind it
abbrev pub tokens_from : ℕ → ℕ → List ℕ → Tokens
tokens_from left at [] = Ok []
tokens_from (suc left) at (c ∷ cs) = tokens_from left (at + 1) cs
tokens_from zero at (c ∷ cs) =
    if nat_eq (one_ignored (c ∷ cs)) 0
    then read_at (lexeme (c ∷ cs)) at (λ n. tokens_from n (at + 1) cs)
    else tokens_from (one_ignored (c ∷ cs) - 1) (at + 1) cs

-- the tokens of a whole text
abbrev pub tokens_of : List ℕ → Tokens
tokens_of text = tokens_from 0 0 text
