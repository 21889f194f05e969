-- What strings say: GraphQL specification of October 2021, section 2.9.4. (`\u{..}` is of the edition of
-- September 2025.)
use Rattle.std.specs.Prelude.{ℕ, zero, suc, Bool, ◌||◌, not, List, [], ◌∷◌, ◌++◌, ◌+◌, ◌-◌, ◌*◌, drop, nat_eq}
use Rattle.std.specs.Prelude.{take, if◌then◌else◌, Option, None, Some}
use Rattle.std.specs.Char.{encode_utf8}
use Rattle.std.specs.List.{prefix_len}
use Rattle.std.specs.Option.{option_map_or}
use Rattle.graphql_tokens.specs.Bytes.{is_control, is_hex, is_line_end}
use Rattle.graphql_tokens.specs.Strings.{character_size, hex_number, is_escaped, is_leading, is_scalar}
use Rattle.graphql_tokens.specs.Strings.{is_trailing, unit_at}

-- what the characters of a text say, one after the other, up to where none stands. `size` gives the bytes of
-- the character at the front, 0 for none, and `says` what it says. `left` bytes are still of the character
-- before
abbrev pub said : (List ℕ → ℕ) → (List ℕ → List ℕ) → ℕ → List ℕ → List ℕ
said size says left [] = []
said size says (suc left) (c ∷ cs) = said size says left cs
said size says zero (c ∷ cs) =
    if nat_eq (size (c ∷ cs)) 0 then [] else says (c ∷ cs) ++ said size says (size (c ∷ cs) - 1) cs

-- the character that a byte stands for behind a `\`
abbrev pub letter : ℕ → ℕ
letter c =
    if nat_eq c 98 then 8 else (
    if nat_eq c 102 then 12 else (
    if nat_eq c 110 then 10 else (
    if nat_eq c 114 then 13 else (
    if nat_eq c 116 then 9 else c))))

-- the character of a number, if it has one
abbrev pub scalar_of : ℕ → Option ℕ
scalar_of n = if is_scalar n then Some n else None

-- the character of a leading surrogate and a trailing one
abbrev pub pair : ℕ → ℕ → Option ℕ
pair leading trailing =
    if is_trailing trailing then scalar_of (65536 + (leading - 55296) * 1024 + (trailing - 56320)) else None

-- the character of a code unit, to which the one behind it belongs where it is a leading surrogate
abbrev pub unit_character : ℕ → List ℕ → Option ℕ
unit_character n behind = if is_leading n then option_map_or (pair n) (unit_at behind) None else scalar_of n

-- the character whose number stands in braces, behind `\u{`
abbrev pub braced_character : List ℕ → Option ℕ
braced_character (s ∷ u ∷ l ∷ rest) = scalar_of (hex_number 0 (take (prefix_len is_hex rest) rest))
braced_character _ = None

-- the character of an escape by its number: by four digits, or else in braces
abbrev pub numbered : List ℕ → Option ℕ
numbered text = option_map_or (λ n. unit_character n (drop 6 text)) (unit_at text) (braced_character text)

-- the character of the escape at the front
abbrev pub escaped : List ℕ → Option ℕ
escaped (s ∷ c ∷ rest) = if is_escaped c then Some (letter c) else numbered (s ∷ c ∷ rest)
escaped _ = None

-- the bytes of a character, if there is one
abbrev pub bytes_of : Option ℕ → List ℕ
bytes_of None = []
bytes_of (Some c) = encode_utf8 c

-- what the character at the front of a string says: an escape the character that it stands for, any other
-- byte itself
abbrev pub character_says : List ℕ → List ℕ
character_says [] = []
character_says (c ∷ cs) = if nat_eq c 92 then bytes_of (escaped (c ∷ cs)) else c ∷ []

-- the bytes behind a string's first quote
abbrev pub behind_quote : List ℕ → List ℕ
behind_quote [] = []
behind_quote (c ∷ cs) = if nat_eq c 34 then cs else []

-- what characters of a string say, up to what is none
abbrev pub characters_say : List ℕ → List ℕ
characters_say text = said character_size character_says 0 text

-- a byte of a string that says itself: neither a quote nor `\`, nor what is no character
abbrev pub is_plain : ℕ → Bool
is_plain c = not (nat_eq c 34 || (nat_eq c 92 || (is_line_end c || is_control c)))

-- the value of a string token, of its bytes with the quotes; what bytes say that are no string token means
-- nothing
abbrev pub string_value : List ℕ → List ℕ
string_value token = characters_say (behind_quote token)
