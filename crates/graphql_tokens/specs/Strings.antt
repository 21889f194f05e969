-- Strings and block strings: GraphQL specification of October 2021, section 2.9.4. (`\u{..}` is of the
-- edition of September 2025.)
use Rattle.std.specs.Prelude.{ℕ, Bool, false, ◌||◌, ◌&&◌, not, List, [], ◌∷◌, ◌+◌, ◌-◌, ◌*◌, drop, take}
use Rattle.std.specs.Prelude.{nat_eq, nat_le, nat_lt, if◌then◌else◌, Option, None, Some}
use Rattle.std.specs.List.{prefix_len}
use Rattle.std.specs.Option.{option_map_or}
use Rattle.std.specs.Char.{is_ascii_digit}
use Rattle.graphql_tokens.specs.Bytes.{begins, is_control, is_hex, is_line_end}
use Rattle.graphql_tokens.specs.Pieces.{pieces}

-- the value of a hexadecimal digit
abbrev pub hex_digit : ℕ → ℕ
hex_digit c = if is_ascii_digit c then c - 48 else (if nat_le 97 c then c - 87 else c - 55)

-- the number of hexadecimal digits that follow these
abbrev pub hex_number : ℕ → List ℕ → ℕ
hex_number n [] = n
hex_number n (c ∷ cs) = hex_number (n * 16 + hex_digit c) cs

-- a code unit by four hexadecimal digits, if `\u` and such digits stand at the front
abbrev pub unit_at : List ℕ → Option ℕ
unit_at (s ∷ u ∷ a ∷ b ∷ c ∷ d ∷ rest) =
    if nat_eq s 92 && (nat_eq u 117 && (is_hex a && (is_hex b && (is_hex c && is_hex d))))
    then Some (hex_number 0 (a ∷ b ∷ c ∷ d ∷ []))
    else None
unit_at _ = None

-- a surrogate, leading or trailing
abbrev pub is_leading : ℕ → Bool
is_leading n = nat_le 55296 n && nat_lt n 56320

-- whether a number is a trailing surrogate
abbrev pub is_trailing : ℕ → Bool
is_trailing n = nat_le 56320 n && nat_lt n 57344

-- a Unicode scalar value: no surrogate, and at most U+10FFFF
abbrev pub is_scalar : ℕ → Bool
is_scalar n = nat_lt n 55296 || (nat_le 57344 n && nat_lt n 1114112)

-- how many bytes of a trailing surrogate's escape stand at the front
abbrev pub trailing_size : Option ℕ → ℕ
trailing_size None = 0
trailing_size (Some n) = if is_trailing n then 12 else 0

-- how many bytes the escape of a code unit takes. That of a leading surrogate takes that of the trailing one
-- behind it along. No surrogate stands alone
abbrev pub unit_size : ℕ → List ℕ → ℕ
unit_size n behind = if is_scalar n then 6 else (if is_leading n then trailing_size (unit_at behind) else 0)

-- whether hexadecimal digits are of a Unicode scalar value
abbrev pub names_scalar : List ℕ → Bool
names_scalar digits = is_scalar (hex_number 0 digits)

-- how many bytes hexadecimal digits, at least one, and `}` take, if they stand at the front, and are of a
-- Unicode scalar value
abbrev pub in_braces : List ℕ → ℕ
in_braces text =
    let n = prefix_len is_hex text in
    if nat_eq n 0
    || not (begins (nat_eq 125) (drop n text)) then 0 else
    (if names_scalar (take n text) then n + 1 else 0)

-- so many bytes more, if there are any
abbrev pub with_head : ℕ → ℕ → ℕ
with_head head n = if nat_eq n 0 then 0 else n + head

-- how many bytes `\u{..}` takes, if it stands at the front
abbrev pub braced_size : List ℕ → ℕ
braced_size (s ∷ u ∷ l ∷ rest) =
    if nat_eq s 92 && (nat_eq u 117 && nat_eq l 123) then with_head 3 (in_braces rest) else 0
braced_size _ = 0

-- whether a byte stands for a character behind a `\`
abbrev pub is_escaped : ℕ → Bool
is_escaped c =
    nat_eq c 34 || (nat_eq c 92
    || (nat_eq c 47 || (nat_eq c 98 || (nat_eq c 102 || (nat_eq c 110 || (nat_eq c 114 || nat_eq c 116))))))

-- how many bytes an escape by its number takes: by four digits, or else in braces
abbrev pub number_size : List ℕ → ℕ
number_size text = option_map_or (λ n. unit_size n (drop 6 text)) (unit_at text) (braced_size text)

-- how many bytes the escape at the front takes
abbrev pub escape_size : List ℕ → ℕ
escape_size text = if begins is_escaped (drop 1 text) then 2 else number_size text

-- how many bytes a character of a string takes, if one stands at the front. Each byte beyond ASCII counts as
-- one. Neither a quote nor a line end is a character
abbrev pub character_size : List ℕ → ℕ
character_size [] = 0
character_size (c ∷ cs) =
    if nat_eq c 34 || (is_line_end c || is_control c) then 0 else (
    if nat_eq c 92 then escape_size (c ∷ cs) else 1)

-- how many bytes at the front are of characters of a string
abbrev pub characters : List ℕ → ℕ
characters text = pieces character_size 0 text

-- whether `"""` stands at the front
abbrev pub begins_with_quotes : List ℕ → Bool
begins_with_quotes (a ∷ b ∷ c ∷ rest) = nat_eq a 34 && (nat_eq b 34 && nat_eq c 34)
begins_with_quotes _ = false

-- how many bytes a character of a block string takes, if one stands at the front: `\"""` is one, `"""` none
abbrev pub block_character_size : List ℕ → ℕ
block_character_size [] = 0
block_character_size (c ∷ cs) =
    if is_control c then 0 else (
    if nat_eq c 92 && begins_with_quotes cs then 4 else (
    if begins_with_quotes (c ∷ cs) then 0 else 1))

-- how many bytes at the front are of characters of a block string
abbrev pub block_characters : List ℕ → ℕ
block_characters text = pieces block_character_size 0 text
