-- Quoted strings: GraphQL specification of October 2021, section 2.9.4.
use Rattle.std.specs.Prelude.{ℕ, Bool, true, ◌||◌, ◌&&◌, List, [], ◌∷◌, ◌++◌, ◌/◌, ◌%◌, nat_eq, nat_le}
use Rattle.std.specs.Prelude.{nat_lt, if◌then◌else◌, codes}
use Rattle.std.specs.Char.{encode_utf8}
use Rattle.std.specs.Fmt.{digit_glyph}

-- a control character: one below U+0020, or of U+007F to U+009F
abbrev pub is_control : ℕ → Bool
is_control c = nat_lt c 32 || (nat_le 127 c && nat_lt c 160)

-- the letter of the escape of a character, or 0 where it has none
abbrev pub escape_letter : ℕ → ℕ
escape_letter c =
    if nat_eq c 8 then 98 else (
    if nat_eq c 9 then 116 else (
    if nat_eq c 10 then 110 else (
    if nat_eq c 12 then 102 else (
    if nat_eq c 13 then 114 else (
    if nat_eq c 34 || nat_eq c 92 then c else 0)))))

-- the escape of a character by its number: `\u` and four digits, of which the first two are 0
abbrev pub number_escape : ℕ → List ℕ
number_escape c = codes "\\u00" ++ digit_glyph true (c / 16 % 16) ∷ digit_glyph true (c % 16) ∷ []

-- a character in a quoted string: an escape by letter or by number, or else itself
abbrev pub quoted_character : ℕ → List ℕ
quoted_character c =
    if nat_lt 0 (escape_letter c) then codes "\\" ++ escape_letter c ∷ [] else (
    if is_control c then number_escape c else encode_utf8 c)

-- a byte in a quoted string: one of ASCII as that character, any other as itself
abbrev pub quoted_byte : ℕ → List ℕ
quoted_byte c = if nat_lt c 128 then quoted_character c else c ∷ []

-- whether two bytes are a control character, one of U+0080 to U+009F: 194, and then the character's number
abbrev pub are_control : ℕ → ℕ → Bool
are_control a b = nat_eq a 194 && (nat_le 128 b && is_control b)

-- the bytes of a text in a quoted string: two of a control character as its escape, any other by itself
abbrev pub quoted_bytes : List ℕ → List ℕ
quoted_bytes [] = []
quoted_bytes (a ∷ []) = quoted_byte a
quoted_bytes (a ∷ b ∷ rest) =
    if are_control a b then number_escape b ++ quoted_bytes rest else quoted_byte a ++ quoted_bytes (b ∷ rest)

-- a quoted string
abbrev pub quoted : List ℕ → List ℕ
quoted text = codes "\"" ++ quoted_bytes text ++ codes "\""
