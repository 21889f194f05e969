-- Numbers: GraphQL specification of October 2021, sections 2.9.1 and 2.9.2.
use Rattle.std.specs.Prelude.{ℕ, ◌<◌, ◌≤◌, Bool, true, false, ◌||◌, IsTrue, List, ◌+◌, drop, length, nat_eq}
use Rattle.std.specs.Prelude.{nat_lt, if◌then◌else◌}
use Rattle.std.specs.List.{prefix_len}
use Rattle.std.specs.Char.{is_ascii_digit}
use Rattle.graphql_tokens.specs.Bytes.{begins, is_name_byte}
use Rattle.graphql_tokens.specs.declared.numbers.Part.{Part}

-- a part lies within a text, and a whole one has a byte at least
abbrev pub IsPartOf : List ℕ → Part → Type 0
IsPartOf text part = (part.size ≤ length text) × (IsTrue part.is_whole → 0 < part.size)

-- no part of a number, which is one too
abbrev pub no_part : Part
no_part = record { size = 0; is_whole = true; is_float = false }

-- so many bytes, and digits behind them, at least one
abbrev pub with_digits : ℕ → List ℕ → Part
with_digits n text = record {
  size = n + prefix_len is_ascii_digit (drop n text);
  is_whole = nat_lt 0 (prefix_len is_ascii_digit (drop n text));
  is_float = false;
}

-- a `-`, if it stands there
abbrev pub minus : List ℕ → ℕ
minus text = if begins (nat_eq 45) text then 1 else 0

-- an integer: a `-`, if any, and a zero alone, or digits of which the first is no zero
abbrev pub integer : List ℕ → Part
integer text =
    if begins (nat_eq 48) (drop (minus text) text)
    then record { size = minus text + 1; is_whole = true; is_float = false }
    else with_digits (minus text) text

-- a fraction, if a `.` stands there: digits behind it
abbrev pub fraction : List ℕ → Part
fraction text = if begins (nat_eq 46) text then with_digits 1 text else no_part

-- a sign, if it stands there
abbrev pub sign : List ℕ → ℕ
sign text = if begins (nat_eq 43) text || begins (nat_eq 45) text then 1 else 0

-- an exponent, if `e` or `E` stands there: a sign, if any, and digits
abbrev pub exponent : List ℕ → Part
exponent text =
    if begins (nat_eq 101) text
    || begins (nat_eq 69) text then with_digits (1 + sign (drop 1 text)) text else no_part

-- a part, and the next one, which is looked for only behind a whole one, and makes a float
abbrev pub then_part : Part → Part → Part
then_part a b =
    if a.is_whole
    then record { size = a.size + b.size; is_whole = b.is_whole; is_float = a.is_float || nat_lt 0 b.size }
    else a

-- an integer, and a fraction behind it
abbrev pub decimal : List ℕ → Part
decimal text = then_part (integer text) (fraction (drop (integer text).size text))

-- that, and an exponent behind it
abbrev pub scientific : List ℕ → Part
scientific text = then_part (decimal text) (exponent (drop (decimal text).size text))

-- what may not follow a number at once: a digit, a letter, `_` or `.`
abbrev pub goes_on : List ℕ → Bool
goes_on text = begins is_name_byte text || begins (nat_eq 46) text

-- the number at the front, as far as there is one
abbrev pub number : List ℕ → Part
number text =
    if goes_on (drop (scientific text).size text) then record (scientific text) { is_whole = false } else
    scientific text
