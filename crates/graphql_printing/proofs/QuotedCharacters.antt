-- The characters of a quoted string, and what each says: GraphQL specification of October 2021, section
-- 2.9.4.
use Rattle.std.proofs.Common.{◌≡◌, ◌/◌, ◌%◌, ◌<◌, ℕ, Bool, true, false, List, [], ◌∷◌, ◌++◌, length, cond}
use Rattle.std.proofs.Common.{refl, sym, ap, subst, ◌∙◌, arith, codes}
use Rattle.std.specs.Prelude.{nat_lt, Option, Some}
use Rattle.std.specs.Option.{option_map_or}
use Rattle.std.specs.Char.{encode_utf8}
use Rattle.std.specs.Fmt.{digit_glyph}
use Rattle.std.proofs.lemmas.Bool.Decides.{nat_tests}
use Rattle.std.proofs.lemmas.Str.{encode_ascii}
use Rattle.graphql_tokens.specs.Bytes.{is_hex}
use Rattle.graphql_tokens.specs.Strings.{character_size, hex_digit, hex_number, is_escaped, unit_at}
use Rattle.graphql_tokens.specs.Strings.{unit_size}
use Rattle.graphql_tokens.specs.StringValues.{braced_character, bytes_of, character_says, is_plain, letter}
use Rattle.graphql_tokens.specs.StringValues.{unit_character}
use Rattle.graphql_printing.specs.Strings.{are_control, escape_letter, is_control, number_escape, quoted_byte}

-- these bytes are one character of a string, whatever stands behind them, and say those
pub record Spells (front text : List ℕ) : Type 0 where
  pub some : 0 < length front
  pub size : (rest : List ℕ) → character_size (front ++ rest) ≡ length front
  pub says : (rest : List ℕ) → character_says (front ++ rest) ≡ text

-- ---- a byte that stands for itself

plain_size : (c : ℕ) (rest : List ℕ) → is_plain c ≡ true → character_size (c ∷ rest) ≡ 1
plain_size c rest h = grind (arith, h)

plain_says : (c : ℕ) (rest : List ℕ) → is_plain c ≡ true → character_says (c ∷ rest) ≡ c ∷ []
plain_says c rest h = grind (arith, h)

plain : (c : ℕ) → is_plain c ≡ true → Spells (c ∷ []) (c ∷ [])
plain c h = record {
  some = omega arith;
  size = λ rest. plain_size c rest h;
  says = λ rest. plain_says c rest h;
}

-- ---- an escape by letter

letter_size : (l : ℕ) (rest : List ℕ) → is_escaped l ≡ true → character_size (92 ∷ l ∷ rest) ≡ 2
letter_size l rest h = rw h refl

letter_says : (l c : ℕ) (rest : List ℕ) → is_escaped l ≡ true → letter l ≡ c → c < 128
    → character_says (92 ∷ l ∷ rest) ≡ c ∷ []
letter_says l c rest h is ascii = rw h (ap encode_utf8 is ∙ encode_ascii c ascii)

by_letter : (c : ℕ) → 0 < escape_letter c → Spells (codes "\\" ++ escape_letter c ∷ []) (c ∷ [])
by_letter c some =
    let escapes : is_escaped (escape_letter c) ≡ true = grind (arith, nat_tests, some) in
    let same : letter (escape_letter c) ≡ c = grind (arith, nat_tests, some) in
    let ascii : c < 128 = grind (arith, nat_tests, some) in
    record {
      some = omega arith;
      size = λ rest. letter_size (escape_letter c) rest escapes;
      says = λ rest. letter_says (escape_letter c) c rest escapes same ascii;
    }

-- ---- an escape by number

hex_glyph : (d : ℕ) → d < 16 → is_hex (digit_glyph true d) ≡ true
hex_glyph d h = grind (arith, nat_tests, h)

glyph_says : (d : ℕ) → d < 16 → hex_digit (digit_glyph true d) ≡ d
glyph_says d h = grind (arith, nat_tests, h)

escapes_unit : (c : ℕ) (rest : List ℕ) → c < 256 → unit_at (number_escape c ++ rest) ≡ Some c
escapes_unit c rest small =
    let one : c / 16 % 16 < 16 = omega arith in
    let other : c % 16 < 16 = omega arith in
    let first = glyph_says _ one in
    let last = glyph_says (c % 16) other in
    let is : hex_number 0 (48 ∷ 48 ∷ digit_glyph true (c / 16 % 16) ∷ digit_glyph true (c % 16) ∷ []) ≡ c =
    omega (arith, first, last, small) in
    rw (hex_glyph _ one, hex_glyph (c % 16) other) (ap Some is)

unit_is_six : (c : ℕ) (behind : List ℕ) → c < 256 → unit_size c behind ≡ 6
unit_is_six c behind small = grind (arith, nat_tests, small)

unit_is_itself : (c : ℕ) (behind : List ℕ) → c < 256 → unit_character c behind ≡ Some c
unit_is_itself c behind small = grind (arith, nat_tests, small)

by_number : (c : ℕ) → c < 256 → Spells (number_escape c) (encode_utf8 c)
by_number c small = record {
  some = omega arith;
  size = λ rest. ap (λ (u : Option ℕ). option_map_or (λ n. unit_size n rest) u 0) (escapes_unit c rest small)
      ∙ unit_is_six c rest small;
  says = λ rest. ap (λ (u : Option ℕ). bytes_of (option_map_or (λ n. unit_character n rest) u
      (braced_character (number_escape c ++ rest)))) (escapes_unit c rest small)
      ∙ ap bytes_of (unit_is_itself c rest small);
}

-- ---- a byte, and two bytes of a control character

pub byte_spells : (c : ℕ) → Spells (quoted_byte c) (c ∷ [])
byte_spells c = by (nat_lt c 128) (nat_lt 0 (escape_letter c)) (is_control c) refl refl refl
  where
    by : (a e o : Bool) → nat_lt c 128 ≡ a → nat_lt 0 (escape_letter c) ≡ e → is_control c ≡ o
        → Spells (cond a (cond e (codes "\\" ++ escape_letter c ∷ []) (cond o (number_escape c)
        (encode_utf8 c))) (c ∷ [])) (c ∷ [])
    by false e o beyond h g = plain c (grind (arith, nat_tests, beyond))
    by true true o ascii h g = by_letter c (grind (arith, nat_tests, h))
    by true false true ascii h g =
        let small : c < 128 = grind (arith, nat_tests, ascii) in
        subst (Spells _) (encode_ascii c small) (by_number c (omega arith))
    by true false false ascii h g = subst (λ (bytes : List ℕ). Spells bytes (c ∷ []))
        (sym (encode_ascii c (grind (arith, nat_tests, ascii)))) (plain c (grind (arith, nat_tests, h, g)))

pub control_bytes : (a b : ℕ) → are_control a b ≡ true → encode_utf8 b ≡ a ∷ b ∷ []
unfolding encode_utf8
control_bytes a b h = grind (arith, nat_tests, h)

pub control_spells : (a b : ℕ) → are_control a b ≡ true → Spells (number_escape b) (a ∷ b ∷ [])
control_spells a b h = subst (Spells _) (control_bytes a b h) (by_number b (grind (arith, nat_tests, h)))
