-- The bytes of a token that is a name are a name.
use Rattle.std.proofs.Common.{◌≡◌, ◌≢◌, ◌≤◌, ◌+◌, ℕ, suc, Bool, true, false, ◌||◌, ◌&&◌, cond, List, [], ◌∷◌}
use Rattle.std.proofs.Common.{take, drop, Ok, Err, inl, inr, refl, sym, ap, subst, ◌∙◌, arith}
use Rattle.std.specs.Prelude.{All, None, Option, Some, nat_eq, nat_le}
use Rattle.std.specs.Char.{is_ascii_digit}
use Rattle.std.specs.List.{prefix_len}
use Rattle.std.proofs.lemmas.Bool.{and_parts, or_cases}
use Rattle.std.proofs.lemmas.List.Elements.{All-cons, All-nil}
use Rattle.graphql_nodes.specs.NameSyntax.{IsName, IsNameContinue, IsNameStart}
use Rattle.graphql_tokens.specs.Bytes.{begins, is_name_byte, is_name_start}
use Rattle.graphql_tokens.specs.Lexemes.{Reading, block_string_token, first_sign, is_number_start, is_spread}
use Rattle.graphql_tokens.specs.Lexemes.{number_token, sign_kind, sign_token, string_fault, string_token}
use Rattle.graphql_tokens.specs.Lexemes.{token, wrong}
use Rattle.graphql_tokens.specs.Numbers.{number}
use Rattle.graphql_tokens.specs.Strings.{begins_with_quotes, block_characters, characters}
use Rattle.graphql_tokens.specs.declared.token.TokenErrorKind.TheVariants as e
use Rattle.graphql_tokens.specs.declared.token.TokenKind.{TokenKind}
use Rattle.graphql_tokens.specs.declared.token.TokenKind.TheVariants as t
use Rattle.graphql_grammar.specs.TextsOfWords.{IsTextOf}
use Rattle.graphql_grammar.proofs.ReadingLemmas.{either}

-- ---- what begins otherwise is no name

abbrev a_name : ℕ → Reading
a_name size = Ok (record { kind = t.Name; size = size })

abbrev IsNoName : Reading → Type 0
IsNoName r = (size : ℕ) → r ≡ a_name size → ⊥

-- what a token is, and how long
abbrev kind_read : Reading → Option TokenKind
kind_read (Ok l) = Some l.kind
kind_read (Err _) = None

abbrev size_read : Reading → ℕ
size_read (Ok l) = l.size
size_read (Err _) = 0

abbrev IsOther : Option TokenKind → Type 0
IsOther found = found ≢ Some t.Name

of_kind : (kind : TokenKind) (n : ℕ) → IsOther (Some kind) → IsNoName (token kind n)
of_kind kind n other = λ size e. other (ap kind_read e)

number_kind : (is_float : Bool) (n : ℕ) → IsNoName (token (cond is_float t.Float t.Int) n)
number_kind true n = of_kind t.Float n (λ e. absurd cc)
number_kind false n = of_kind t.Int n (λ e. absurd cc)

no_number : (text : List ℕ) → IsNoName (number_token (number text))
no_number text = either IsNoName (number text).is_whole (token (cond (number text).is_float t.Float t.Int)
    (number text).size) (wrong e.InvalidNumber (number text).size) (number_kind (number text).is_float
    (number text).size) (λ size e. absurd cc)

no_block_string : (text : List ℕ) → IsNoName (block_string_token text)
no_block_string text =
    let n : ℕ = block_characters text in
    either IsNoName (begins_with_quotes (drop n text)) (token t.BlockString (n + 6)) (wrong (string_fault
    (drop n text)) (n + 3)) (of_kind t.BlockString (n + 6) (λ e. absurd cc)) (λ size e. absurd cc)

no_string : (text : List ℕ) → IsNoName (string_token text)
no_string text =
    let n : ℕ = characters text in
    either IsNoName (begins (nat_eq 34) (drop n text)) (token t.String (n + 2)) (wrong (string_fault
    (drop n text)) (n + 1)) (of_kind t.String (n + 2) (λ e. absurd cc)) (λ size e. absurd cc)

other_sign : (c : ℕ) → IsOther (sign_kind c)
other_sign c = either IsOther (nat_eq c 33) (Some t.Bang) _ (λ e. absurd cc) (either IsOther (nat_eq c 36)
    (Some t.Dollar) _ (λ e. absurd cc) (either IsOther (nat_eq c 38) (Some t.Ampersand) _ (λ e. absurd cc)
    (either IsOther (nat_eq c 40) (Some t.LeftParen) _ (λ e. absurd cc) (either IsOther (nat_eq c 41)
    (Some t.RightParen) _ (λ e. absurd cc) (either IsOther (nat_eq c 58) (Some t.Colon) _ (λ e. absurd cc)
    (either IsOther (nat_eq c 61) (Some t.Equals) _ (λ e. absurd cc) (either IsOther (nat_eq c 64) (Some t.At)
    _ (λ e. absurd cc) (either IsOther (nat_eq c 91) (Some t.LeftBracket) _ (λ e. absurd cc)
    (either IsOther (nat_eq c 93) (Some t.RightBracket) _ (λ e. absurd cc) (either IsOther (nat_eq c 123)
    (Some t.LeftBrace) _ (λ e. absurd cc) (either IsOther (nat_eq c 124) (Some t.Pipe) _ (λ e. absurd cc)
    (either IsOther (nat_eq c 125) (Some t.RightBrace) None (λ e. absurd cc) (λ e. absurd cc)))))))))))))

no_sign_of : (found : Option TokenKind) → IsOther found → IsNoName (sign_token found)
no_sign_of None other = λ size e. absurd cc
no_sign_of (Some kind) other = of_kind kind 1 other

no_sign : (text : List ℕ) → IsNoName (sign_token (first_sign text))
no_sign [] = λ size e. absurd cc
no_sign (c ∷ cs) = no_sign_of (sign_kind c) (other_sign c)

-- what stands there where no name begins
abbrev others : List ℕ → Reading
others text = cond (begins is_number_start text) (number_token (number text)) (
    cond (begins_with_quotes text) (block_string_token (drop 3 text)) (
    cond (begins (nat_eq 34) text) (string_token (drop 1 text)) (
    cond (is_spread text) (token t.Spread 3) (sign_token (first_sign text)))))

no_other : (text : List ℕ) → IsNoName (others text)
no_other text = either IsNoName (begins is_number_start text) (number_token (number text)) _ (no_number text)
    (either IsNoName (begins_with_quotes text) (block_string_token (drop 3 text)) _
    (no_block_string (drop 3 text)) (either IsNoName (begins (nat_eq 34) text) (string_token (drop 1 text)) _
    (no_string (drop 1 text)) (either IsNoName (is_spread text) (token t.Spread 3)
    (sign_token (first_sign text)) (of_kind t.Spread 3 (λ e. absurd cc)) (no_sign text))))

-- a name begins so, and goes on as far as it can
found : (b : Bool) (n : ℕ) (r : Reading) (size : ℕ) → IsNoName r → cond b (token t.Name n) r ≡ a_name size
    → (b ≡ true) × (size ≡ n)
found true n r size other e = (refl, sym (ap size_read e))
found false n r size other e = absurd (other size e)

-- ---- its bytes

between : (low c high : ℕ) → (nat_le low c && nat_le c high) ≡ true → low ≤ c × c ≤ high
between low c high e = let both =
    and_parts (nat_le low c) (nat_le c high) e in (grind (arith, both.0), grind (arith, both.1))

starts : (c : ℕ) → is_name_start c ≡ true → IsNameStart c
starts c e = elim (or_cases (nat_le 97 c && nat_le c 122) _ e) [
  | inl small ↦ inl (inr (between 97 c 122 small))
  | inr rest ↦ elim (or_cases (nat_le 65 c && nat_le c 90) (nat_eq c 95) rest) [
    | inl large ↦ inl (inl (between 65 c 90 large))
    | inr line ↦ inr (grind (arith, line))
  ]
]

continues : (c : ℕ) → is_name_byte c ≡ true → IsNameContinue c
continues c e = elim (or_cases (is_name_start c) (is_ascii_digit c) e) [
  | inl start ↦ inl (starts c start)
  | inr digit ↦ inr (grind (arith, digit))
]

all_continue : (cs : List ℕ) → All IsNameContinue (take (prefix_len is_name_byte cs) cs)
all_continue [] = All-nil IsNameContinue
all_continue (c ∷ cs) = by (is_name_byte c) refl (all_continue cs)
  where
    by : (b : Bool) → is_name_byte c ≡ b → All IsNameContinue (take (prefix_len is_name_byte cs) cs)
        → All IsNameContinue (take (cond b (1 + prefix_len is_name_byte cs) 0) (c ∷ cs))
    by false is rest = All-nil IsNameContinue
    by true is rest =
        let more : suc (prefix_len is_name_byte cs) ≡ 1 + prefix_len is_name_byte cs = omega arith in
        subst (λ (n : ℕ). All IsNameContinue (take n (c ∷ cs))) more
        (All-cons IsNameContinue c (take (prefix_len is_name_byte cs) cs) (continues c is) rest)

named : (bytes : List ℕ) → begins is_name_start bytes ≡ true
    → IsName (take (prefix_len is_name_byte bytes) bytes)
named [] start = absurd cc
named (c ∷ cs) start =
    let more : suc (prefix_len is_name_byte cs) ≡ 1 + prefix_len is_name_byte cs = omega arith in
    let long : 1 + prefix_len is_name_byte cs ≡ prefix_len is_name_byte (c ∷ cs) =
    sym (ap (λ (b : Bool). cond (b || is_ascii_digit c) (1 + prefix_len is_name_byte cs) 0) start) in
    subst (λ (n : ℕ). IsName (take n (c ∷ cs))) (more ∙ long) (starts c start, all_continue cs)

pub name_text : (text : List ℕ) → IsTextOf t.Name text → IsName text
name_text text is =
    let there = found (begins is_name_start is.bytes) (prefix_len is_name_byte is.bytes) (others is.bytes)
    is.size (no_other is.bytes) is.token in
    let taken : text ≡ take (prefix_len is_name_byte is.bytes) is.bytes =
    is.taken ∙ ap (λ (n : ℕ). take n is.bytes) there.1 in
    subst IsName (sym taken) (named is.bytes there.0)
