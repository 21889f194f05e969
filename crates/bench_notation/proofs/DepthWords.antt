-- The words of depths: numbers without a sign, and without a zero before other digits.
use Rattle.std.proofs.Common.{◌≡◌, ◌≢◌, ◌∙◌, ◌==◌, ℕ, ◌≤◌, ◌<◌, true, false, List, [], ◌∷◌, Result, Ok, Err}
use Rattle.std.proofs.Common.{is_ok, length, get_or, decimal, ap, sym, arith, inl, inr, lit<}
use Rattle.std.proofs.lemmas.Bool.Decides.{nat_tests}
use Rattle.std.proofs.lemmas.Bool.{cases_lt}
use Rattle.std.proofs.lemmas.Fmt.{decimal-digits_value, decimal_digit, decimal_is_IsNumeral, first_decimal}
use Rattle.std.proofs.lemmas.Fmt.{parse-decimal}
use Rattle.std.proofs.lemmas.Str.Parse.{digit_at, numerals_by_value, parse_plain, tells_digits}
use Rattle.std.specs.Str.Parse.{ParsesUnsigned}
use Rattle.std.specs.Int.{IsInRange}

-- a number begins with a digit
pub digit_first : (n : ℕ) → n ≤ 200 → IsInRange 48 57 (get_or (decimal n) 0 0)
digit_first n small =
    let numeral = decimal_is_IsNumeral n (omega (arith, small)) in
    digit_at _ 0 numeral.0.1 numeral.0.0

-- and with a zero only where it is that alone
pub zero_alone : (n : ℕ) → n ≤ 200 → get_or (decimal n) 0 0 ≡ 48 → length (decimal n) ≡ 1
zero_alone n small zero = elim (cases_lt n 10) [
  | inl one ↦ ap length (decimal_digit n one)
  | inr more ↦ absurd (omega (arith, zero, first_decimal n (omega (arith, more)) (omega (arith, small))))
]

-- what is read of a word that begins so is the number that it is
pub number_word : (word : List ℕ) (n : ℕ) → ParsesUnsigned {E = Unit {0}} 8 10 word (Ok n)
    → get_or word 0 0 ≢ 43 → (get_or word 0 0 ≡ 48 → length word ≡ 1) → decimal n ≡ word
number_word word n parses plain alone =
    let read = parse_plain (numerals_by_value _ tells_digits) {E = Unit {0}} 8 word (Ok n) parses
    plain in
    ap decimal read.1 ∙ decimal-digits_value (numerals_by_value _ tells_digits) word read.0.0
    read.0.1 alone (omega (arith, read.0.2))

-- a word that doesn't begin with a character has another one first
pub not_first : (word : List ℕ) (c : ℕ) → 0 < c → ((rest : List ℕ) → word ≢ c ∷ rest) → get_or word 0 0 ≢ c
not_first [] c some none is = absurd (omega (arith, some, is))
not_first (d ∷ rest) c some none is = none rest (ap (λ (n : ℕ). n ∷ rest) is)

-- a zero alone is a depth
pub zero_word : (word rest : List ℕ) → word ≡ 48 ∷ rest → true ≡ (length rest == 0) → decimal 0 ≡ word
zero_word word [] is none = decimal_digit 0 (lit< tt) ∙ sym is
zero_word word (c ∷ rest) is none = absurd (grind (arith, nat_tests, none))

-- a zero before other digits is no depth
pub no_zero_first : (word rest : List ℕ) → word ≡ 48 ∷ rest → false ≡ (length rest == 0) → (depth : ℕ)
    → depth ≤ 200 → decimal depth ≢ word
no_zero_first word rest is some depth small same =
    let one : length (decimal depth) ≡ 1 =
    zero_alone depth small (ap (λ (l : List ℕ). get_or l 0 0) (same ∙ is)) in
    let count : length (48 ∷ rest) ≡ 1 = sym (ap length (same ∙ is)) ∙ one in
    absurd (grind (arith, nat_tests, some, count))

-- nor is a plus
pub no_plus_first : (word rest : List ℕ) → word ≡ 43 ∷ rest → (depth : ℕ) → depth ≤ 200 → decimal depth ≢ word
no_plus_first word rest is depth small same =
    let digit : IsInRange 48 57 (get_or (decimal depth) 0 0) = digit_first depth small in
    let plus : get_or (decimal depth) 0 0 ≡ 43 = ap (λ (l : List ℕ). get_or l 0 0) (same ∙ is) in
    absurd (omega (arith, digit.0, plus))

abbrev value_of : {E : Type 0} → Result ℕ E → ℕ
value_of (Ok n) = n
value_of (Err e) = 0

-- of a depth's word that depth is read
pub read_word : (word : List ℕ) (n depth : ℕ) → ParsesUnsigned {E = Unit {0}} 8 10 word (Ok n) → depth ≤ 200
    → decimal depth ≡ word → n ≡ depth
read_word word n depth parses small same = ap value_of (parse-decimal {E = Unit {0}} 8 depth word (Ok n)
    (omega (arith, small)) (omega (arith, small)) (sym same) parses)

-- and something is
pub not_read : {E : Type 0} (word : List ℕ) (e : E) → ParsesUnsigned {E = E} 8 10 word (Err e) → (depth : ℕ)
    → depth ≤ 200 → decimal depth ≢ word
not_read {E = E} word e parses depth small same =
    let other : false ≡ true = ap is_ok (parse-decimal {E = E} 8 depth word (Err e) (omega (arith, small))
    (omega (arith, small)) (sym same) parses) in
    cc
