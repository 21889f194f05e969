-- The token that comes first in a text: GraphQL specification of October 2021, section 2.1.
use Rattle.std.specs.Prelude.{ℕ, List, [], ◌∷◌, ◌+◌, drop, take, Option, None, Some, Result, Ok, Err}
use Rattle.graphql_tokens.specs.Ignored.{ignored}
use Rattle.graphql_tokens.specs.Lexemes.{Reading, lexeme}
use Rattle.graphql_tokens.specs.declared.first.FirstToken.{FirstToken}
use Rattle.graphql_tokens.specs.declared.token.TokenError.{TokenError}
use Rattle.graphql_tokens.specs.declared.token.TokenKind.{TokenKind}

-- a token with what stands on both sides of it. That is how many bytes before it say nothing, what it is, its
-- bytes, and all behind it
pub record First : Type 0 where
  pub passed : ℕ
  pub kind : TokenKind
  pub text : List ℕ
  pub rest : List ℕ

-- a token that comes first, none where the text ends, or what is wrong where one should stand
abbrev pub FirstReading : Type 0
FirstReading = Result (Option First) TokenError

-- what is read at the front of these bytes, behind so many that say nothing
abbrev pub read_behind : ℕ → List ℕ → Reading → FirstReading
read_behind passed text (Ok l) =
    Ok (Some (record { passed = passed; kind = l.kind; text = take l.size text; rest = drop l.size text }))
read_behind passed text (Err e) = Err (record { kind = e.kind; at = passed + e.at })

-- what stands at the front of these bytes, behind so many that say nothing
abbrev pub first_behind : ℕ → List ℕ → FirstReading
first_behind passed [] = Ok None
first_behind passed (c ∷ cs) = read_behind passed (c ∷ cs) (lexeme (c ∷ cs))

-- the token that comes first in a text
abbrev pub first_of : List ℕ → FirstReading
first_of text = first_behind (ignored text) (drop (ignored text) text)

-- a token of the code, by the bytes of its texts
abbrev pub seen : FirstToken → First
seen t = record { passed = t.passed; kind = t.kind; text = t.text.now; rest = t.rest.now }

-- an answer of the code, so seen
abbrev pub seen_first : Result (Option FirstToken) TokenError → FirstReading
seen_first (Ok None) = Ok None
seen_first (Ok (Some t)) = Ok (Some (seen t))
seen_first (Err e) = Err e
