-- Texts that are one token: GraphQL specification of October 2021, sections 2.1.8 and 2.1.9.
use Rattle.std.proofs.Common.{◌≡◌, ℕ, Bool, true, false, ◌||◌, ◌&&◌, not, cond, List, [], ◌∷◌, ◌++◌, length}
use Rattle.std.proofs.Common.{take, drop, Some, Ok, refl, ap, ◌∙◌, arith, inl, inr}
use Rattle.std.proofs.lemmas.Bool.{and_parts}
use Rattle.std.specs.Prelude.{nat_eq, codes, All}
use Rattle.std.specs.List.{list_all, prefix_len}
use Rattle.std.proofs.lemmas.List.Elements.{All-head, All-tail}
use Rattle.graphql_nodes.specs.NameSyntax.{IsName, IsNameContinue, IsNameStart}
use Rattle.graphql_tokens.specs.Bytes.{begins, is_blank, is_name_byte, is_name_start}
use Rattle.graphql_tokens.specs.First.{first_of, read_behind}
use Rattle.graphql_tokens.specs.Ignored.{begins_with_mark, ignored, one_ignored}
use Rattle.graphql_tokens.specs.Lexemes.{is_number_start, block_string_token, first_sign, is_spread, lexeme}
use Rattle.graphql_tokens.specs.Lexemes.{number_token, sign_kind, sign_token, string_token, token}
use Rattle.graphql_tokens.specs.Numbers.{number}
use Rattle.graphql_tokens.specs.Strings.{begins_with_quotes}
use Rattle.graphql_tokens.specs.declared.token.TokenKind.{TokenKind}
use Rattle.graphql_grammar.specs.Kinds.{is_name}
use Rattle.graphql_grammar.specs.WordsOfText.{name_kind}
use Rattle.graphql_grammar.proofs.KeywordLemmas.{name_passes}
use Rattle.graphql_round_trip.specs.Printed.{IsToken, anything, ends_token}
use Rattle.std.proofs.lemmas.Bool.Decides.{nat_tests}
use Rattle.graphql_printing.specs.Strings.{quoted}
use Rattle.graphql_printing.proofs.QuotedLaws.{first_is_quoted}
use Rattle.graphql_tokens.specs.declared.token.TokenKind.TheVariants as t

-- ---- where nothing says nothing

-- a byte that begins nothing that says nothing: no blank, no `#`, and not the first of a byte order mark
abbrev pub is_solid : ℕ → Bool
is_solid c = not (is_blank c || (nat_eq c 35 || nat_eq c 239))

no_mark : (c : ℕ) (cs : List ℕ) → nat_eq c 239 ≡ false → begins_with_mark (c ∷ cs) ≡ false
no_mark c [] e = refl
no_mark c (b ∷ []) e = refl
no_mark c (b ∷ a ∷ rest) e = rw e refl

parts_false : (a b c : Bool) → not (a || (b || c)) ≡ true → (a ≡ false) × (b ≡ false) × (c ≡ false)
parts_false false false false e = (refl, refl, refl)
parts_false a b c e = absurd cc

none_ignored : (c : ℕ) (cs : List ℕ) → is_solid c ≡ true → ignored (c ∷ cs) ≡ 0
none_ignored c cs solid =
    let p = parts_false _ _ (nat_eq c 239) solid in
    let none : one_ignored (c ∷ cs) ≡ 0 = rw p.0 (rw p.1 (rw (no_mark c cs p.2) refl)) in
    rw none refl

-- the token that stands at the front of a text
pub first_here : (c : ℕ) (cs : List ℕ) → is_solid c ≡ true
    → first_of (c ∷ cs) ≡ read_behind 0 (c ∷ cs) (lexeme (c ∷ cs))
first_here c cs solid = rw (none_ignored c cs solid) refl

-- ---- signs

no_quotes : (c : ℕ) (cs : List ℕ) → nat_eq c 34 ≡ false → begins_with_quotes (c ∷ cs) ≡ false
no_quotes c [] e = refl
no_quotes c (b ∷ []) e = refl
no_quotes c (b ∷ a ∷ rest) e = rw e refl

no_spread : (c : ℕ) (cs : List ℕ) → nat_eq c 46 ≡ false → is_spread (c ∷ cs) ≡ false
no_spread c [] e = refl
no_spread c (b ∷ []) e = refl
no_spread c (b ∷ a ∷ rest) e = rw e refl

-- a byte that begins no name, number, string or `...`
abbrev is_other : ℕ → Bool
is_other c = not (is_name_start c || (is_number_start c || (nat_eq c 34 || (nat_eq 34 c || nat_eq c 46))))

five_false : (a b c d e : Bool) → not (a || (b || (c || (d || e)))) ≡ true
    → (a ≡ false) × (b ≡ false) × (c ≡ false) × (d ≡ false) × (e ≡ false)
five_false false false false false false h = (refl, refl, refl, refl, refl)
five_false a b c d e h = absurd cc

-- a sign of one byte is a token, whatever stands behind it
sign_is_token : (c : ℕ) (kind : TokenKind) → sign_kind c ≡ Some kind → is_solid c ≡ true → is_other c ≡ true
    → IsToken kind (c ∷ []) anything
sign_is_token c kind sign solid other = λ rest end.
    let p = five_false _ _ (nat_eq c 34) (nat_eq 34 c) (nat_eq c 46) other in
    let read : lexeme (c ∷ rest) ≡ token kind 1 =
    rw p.0 (rw p.1 (rw (no_quotes c rest p.2) (rw p.3 (rw (no_spread c rest p.4) (rw sign refl))))) in
    first_here c rest solid ∙ ap (read_behind 0 (c ∷ rest)) read

pub bang_is_token : IsToken t.Bang (codes "!") anything
bang_is_token = sign_is_token 33 t.Bang refl refl refl

pub dollar_is_token : IsToken t.Dollar (codes "$") anything
dollar_is_token = sign_is_token 36 t.Dollar refl refl refl

pub ampersand_is_token : IsToken t.Ampersand (codes "&") anything
ampersand_is_token = sign_is_token 38 t.Ampersand refl refl refl

pub left_paren_is_token : IsToken t.LeftParen (codes "(") anything
left_paren_is_token = sign_is_token 40 t.LeftParen refl refl refl

pub right_paren_is_token : IsToken t.RightParen (codes ")") anything
right_paren_is_token = sign_is_token 41 t.RightParen refl refl refl

pub colon_is_token : IsToken t.Colon (codes ":") anything
colon_is_token = sign_is_token 58 t.Colon refl refl refl

pub equals_is_token : IsToken t.Equals (codes "=") anything
equals_is_token = sign_is_token 61 t.Equals refl refl refl

pub at_is_token : IsToken t.At (codes "@") anything
at_is_token = sign_is_token 64 t.At refl refl refl

pub left_bracket_is_token : IsToken t.LeftBracket (codes "[") anything
left_bracket_is_token = sign_is_token 91 t.LeftBracket refl refl refl

pub right_bracket_is_token : IsToken t.RightBracket (codes "]") anything
right_bracket_is_token = sign_is_token 93 t.RightBracket refl refl refl

pub left_brace_is_token : IsToken t.LeftBrace (codes "{") anything
left_brace_is_token = sign_is_token 123 t.LeftBrace refl refl refl

pub pipe_is_token : IsToken t.Pipe (codes "|") anything
pipe_is_token = sign_is_token 124 t.Pipe refl refl refl

pub right_brace_is_token : IsToken t.RightBrace (codes "}") anything
right_brace_is_token = sign_is_token 125 t.RightBrace refl refl refl

pub spread_is_token : IsToken t.Spread (codes "...") anything
spread_is_token = λ rest end. refl

-- ---- names

-- whether bytes are a name
abbrev pub names : List ℕ → Bool
names text = begins is_name_start text && list_all is_name_byte text

-- bytes that pass a test, before what begins with none that does
run_before : (p : ℕ → Bool) (text rest : List ℕ) → list_all p text ≡ true → begins p rest ≡ false
    → prefix_len p (text ++ rest) ≡ length text
run_before p [] [] all end = refl
run_before p [] (c ∷ cs) all end = rw end refl
run_before p (c ∷ cs) rest all end = rw (and_parts (p c) _ all).0 (let more = run_before p cs rest
    (and_parts (p c) _ all).1 end in omega (arith, more))

take_front : (text rest : List ℕ) → take (length text) (text ++ rest) ≡ text
take_front [] rest = refl
take_front (c ∷ cs) rest = ap (λ (t : List ℕ). c ∷ t) (take_front cs rest)

drop_front : (text rest : List ℕ) → drop (length text) (text ++ rest) ≡ rest
drop_front [] rest = refl
drop_front (c ∷ cs) rest = drop_front cs rest

-- what is read as a token of these bytes comes first
pub token_first : (kind : TokenKind) (text rest : List ℕ) → begins is_solid text ≡ true
    → lexeme (text ++ rest) ≡ token kind (length text)
    → first_of (text ++ rest) ≡ Ok (Some (record { passed = 0; kind = kind; text = text; rest = rest }))
token_first kind [] rest solid read = absurd cc
token_first kind (c ∷ cs) rest solid read = first_here c (cs ++ rest) solid
    ∙ ap (read_behind 0 (c ∷ cs ++ rest)) read ∙ cc (take_front (c ∷ cs) rest, drop_front (c ∷ cs) rest)

-- what ends a token goes on with no name
no_name_behind : (rest : List ℕ) → ends_token rest ≡ true → begins is_name_byte rest ≡ false
no_name_behind [] end = refl
no_name_behind (c ∷ cs) end = by (is_name_byte c) (nat_eq c 46 || nat_eq c 34) end
  where
    by : (a b : Bool) → not (a || b) ≡ true → a ≡ false
    by true b e = absurd cc
    by false b e = refl

-- no byte of a name is a blank, a `#` or beyond ASCII
name_solid : (c : ℕ) → is_name_start c ≡ true → is_solid c ≡ true
name_solid c start = grind (arith, start)

name_reads : (text rest : List ℕ) → begins is_name_start text ≡ true → list_all is_name_byte text ≡ true
    → ends_token rest ≡ true → lexeme (text ++ rest) ≡ token t.Name (length text)
name_reads [] rest start all end = absurd cc
name_reads (c ∷ cs) rest start all end =
    let long = run_before is_name_byte (c ∷ cs) rest all (no_name_behind rest end) in
    let text : List ℕ = c ∷ cs ++ rest in
    ap (λ (b : Bool). cond b (token t.Name (prefix_len is_name_byte text)) (
    cond (begins is_number_start text) (number_token (number text)) (
    cond (begins_with_quotes text) (block_string_token (drop 3 text)) (
    cond (begins (nat_eq 34) text) (string_token (drop 1 text)) (
    cond (is_spread text) (token t.Spread 3) (sign_token (first_sign text))))))) start
    ∙ ap (token t.Name) long

solid_start : (text : List ℕ) → begins is_name_start text ≡ true → begins is_solid text ≡ true
solid_start [] start = absurd cc
solid_start (c ∷ cs) start = name_solid c start

-- a word that passes this test is a token
pub word_is_token : (text : List ℕ) → names text ≡ true → IsToken t.Name text ends_token
word_is_token text is = λ rest end.
    let p = and_parts _ _ is in
    token_first t.Name text rest (solid_start text p.0) (name_reads text rest p.0 p.1 end)

-- ---- names by the grammar

start_passes : (c : ℕ) → IsNameStart c → is_name_start c ≡ true
start_passes c (inl (inl large)) = grind (arith, large)
start_passes c (inl (inr small)) = grind (arith, small)
start_passes c (inr line) = grind (arith, line)

byte_passes : (c : ℕ) → IsNameContinue c → is_name_byte c ≡ true
byte_passes c (inl start) = rw (start_passes c start) refl
byte_passes c (inr digit) = grind (arith, digit)

all_pass : (cs : List ℕ) → All IsNameContinue cs → list_all is_name_byte cs ≡ true
all_pass [] all = refl
all_pass (c ∷ cs) all = rw (byte_passes c (All-head IsNameContinue c cs all))
    (all_pass cs (All-tail IsNameContinue c cs all))

pub named : (text : List ℕ) → IsName text → names text ≡ true
named [] is = absurd is
named (c ∷ cs) is = let start = start_passes c is.0 in rw start (all_pass cs is.1)

pub name_is_token : (text : List ℕ) → IsName text → IsToken t.Name text ends_token
name_is_token text is = word_is_token text (named text is)

pub name_unblank : (text : List ℕ) → IsName text → begins (λ c. not (is_blank c)) text ≡ true
name_unblank [] is = absurd is
name_unblank (c ∷ cs) is = by (is_blank c) (nat_eq c 35 || nat_eq c 239) (name_solid c (start_passes c is.0))
  where
    by : (a b : Bool) → not (a || b) ≡ true → not a ≡ true
    by true b e = absurd cc
    by false b e = refl

-- the kind of a name is one of names
pub kind_of_name : (text : List ℕ) → is_name (name_kind text) ≡ true
kind_of_name text = name_passes is_name refl refl text

-- ---- texts of quoted strings: GraphQL specification of October 2021, section 2.9.4

-- what ends a token begins with no quote
no_quote_behind : (rest : List ℕ) → ends_token rest ≡ true → begins (nat_eq 34) rest ≡ false
no_quote_behind [] end = refl
no_quote_behind (c ∷ cs) end = let other = by (is_name_byte c) (nat_eq c 46) (nat_eq c 34)
    end in grind (arith, nat_tests, other)
  where
    by : (a b d : Bool) → not (a || (b || d)) ≡ true → d ≡ false
    by false false false e = refl
    by a b d e = absurd cc

-- a quoted string is a token
pub quoted_is_token : (text : List ℕ) → IsToken t.String (quoted text) ends_token
quoted_is_token text = λ rest end. first_is_quoted text rest (λ _. no_quote_behind rest end)
