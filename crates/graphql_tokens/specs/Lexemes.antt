-- What stands at the front of a text: GraphQL specification of October 2021, sections 2.1.6 to 2.1.9, 2.9.1,
-- 2.9.2 and 2.9.4.
use Rattle.std.specs.Prelude.{ℕ, Bool, false, ◌||◌, ◌&&◌, List, [], ◌∷◌, ◌+◌, drop, nat_eq, if◌then◌else◌}
use Rattle.std.specs.Prelude.{◌<◌, ◌≤◌, Option, None, Some, Result, Ok, Err, MatchResult}
use Rattle.std.specs.List.{prefix_len}
use Rattle.std.specs.Char.{is_ascii_digit}
use Rattle.graphql_tokens.specs.Bytes.{begins, is_control, is_name_byte, is_name_start}
use Rattle.graphql_tokens.specs.Numbers.{number}
use Rattle.graphql_tokens.specs.Strings.{begins_with_quotes, block_characters, characters}
use Rattle.graphql_tokens.specs.declared.numbers.Part.{Part}
use Rattle.graphql_tokens.specs.declared.lexemes.Lexeme.{Lexeme}
use Rattle.graphql_tokens.specs.declared.token.TokenKind.{TokenKind}
use Rattle.graphql_tokens.specs.declared.token.TokenKind.TheVariants as k
use Rattle.graphql_tokens.specs.declared.token.TokenError.{TokenError}
use Rattle.graphql_tokens.specs.declared.token.TokenErrorKind.{TokenErrorKind}
use Rattle.graphql_tokens.specs.declared.token.TokenErrorKind.TheVariants as e

-- a token of so many bytes, or what is wrong so many bytes behind the front
abbrev pub Reading : Type 0
Reading = Result Lexeme TokenError

-- a token has a byte at least, and it lies within so many bytes, or what is wrong does
abbrev pub FitsIn : ℕ → Reading → Type 0
FitsIn n reading = MatchResult reading (λ found. (0 < found.size) × (found.size ≤ n)) (λ wrong. wrong.at ≤ n)

-- a token of this kind, of so many bytes
abbrev pub token : TokenKind → ℕ → Reading
token kind size = Ok (record { kind = kind; size = size })

-- what is wrong, so many bytes behind the front
abbrev pub wrong : TokenErrorKind → ℕ → Reading
wrong kind at = Err (record { kind = kind; at = at })

-- the punctuators of one byte, each with its kind: section 2.1.8
abbrev pub signs : List (ℕ × TokenKind)
signs =
    (33, k.Bang) ∷ (36, k.Dollar) ∷ (38, k.Ampersand) ∷ (40, k.LeftParen) ∷ (41, k.RightParen) ∷
    (58, k.Colon) ∷ (61, k.Equals) ∷ (64, k.At) ∷ (91, k.LeftBracket) ∷ (93, k.RightBracket) ∷
    (123, k.LeftBrace) ∷ (124, k.Pipe) ∷ (125, k.RightBrace) ∷ []

-- the kind that stands with a byte in a table
abbrev pub kind_of_byte : List (ℕ × TokenKind) → ℕ → Option TokenKind
kind_of_byte [] c = None
kind_of_byte (x ∷ xs) c = if nat_eq c x.0 then Some x.1 else kind_of_byte xs c

-- the punctuator that a byte is alone
abbrev pub sign_kind : ℕ → Option TokenKind
sign_kind c = kind_of_byte signs c

-- whether `...` stands at the front
abbrev pub is_spread : List ℕ → Bool
is_spread (a ∷ b ∷ c ∷ rest) = nat_eq a 46 && (nat_eq b 46 && nat_eq c 46)
is_spread _ = false

-- the number that begins at the front
abbrev pub number_token : Part → Reading
number_token n =
    if n.is_whole then token (if n.is_float then k.Float else k.Int) n.size else wrong e.InvalidNumber n.size

-- what is wrong where the characters of a string or block string end without quotes behind them
abbrev pub string_fault : List ℕ → TokenErrorKind
string_fault text =
    if begins (nat_eq 92) text then e.InvalidEscape else (
    if begins is_control text then e.UnexpectedCharacter else e.UnterminatedString)

-- a token of this kind with so many quotes on each side, whose characters take so many bytes, if the quotes
-- behind them stand there; else what is wrong with what does
abbrev pub quoted_token : TokenKind → ℕ → ℕ → Bool → List ℕ → Reading
quoted_token kind quotes n is_closed rest =
    if is_closed then token kind (n + (quotes + quotes)) else wrong (string_fault rest) (n + quotes)

-- the string whose characters these are, behind its quote
abbrev pub string_token : List ℕ → Reading
string_token text =
    let n = characters text in quoted_token k.String 1 n (begins (nat_eq 34) (drop n text)) (drop n text)

-- the block string whose characters these are, behind its quotes
abbrev pub block_string_token : List ℕ → Reading
block_string_token text =
    let n = block_characters text in
    quoted_token k.BlockString 3 n (begins_with_quotes (drop n text)) (drop n text)

-- the punctuator that the first byte is alone
abbrev pub first_sign : List ℕ → Option TokenKind
first_sign [] = None
first_sign (c ∷ cs) = sign_kind c

-- that punctuator
abbrev pub sign_token : Option TokenKind → Reading
sign_token None = wrong e.UnexpectedCharacter 0
sign_token (Some kind) = token kind 1

-- whether a number begins with a byte
abbrev pub is_number_start : ℕ → Bool
is_number_start c = nat_eq c 45 || is_ascii_digit c

-- the token at the front of a text, or what is wrong there
abbrev pub lexeme : List ℕ → Reading
lexeme text =
    if begins is_name_start text then token k.Name (prefix_len is_name_byte text) else (
    if begins is_number_start text then number_token (number text) else (
    if begins_with_quotes text then block_string_token (drop 3 text) else (
    if begins (nat_eq 34) text then string_token (drop 1 text) else (
    if is_spread text then token k.Spread 3 else sign_token (first_sign text)))))
