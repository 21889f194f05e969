-- Bytes of a text, by what they are in the lexical grammar: GraphQL specification of October 2021, section
-- 2.1 and appendix B.
use Rattle.std.specs.Prelude.{ℕ, Bool, false, ◌||◌, ◌&&◌, not, List, [], ◌∷◌, nat_eq, nat_le, nat_lt}
use Rattle.std.specs.Char.{is_ascii_digit}

-- a line feed or a carriage return: section 2.1.3
abbrev pub is_line_end : ℕ → Bool
is_line_end c = nat_eq c 10 || nat_eq c 13

-- a space, a tab, a comma or a line end, which say nothing between tokens: sections 2.1.2, 2.1.3 and 2.1.5
abbrev pub is_blank : ℕ → Bool
is_blank c = nat_eq c 32 || (nat_eq c 9 || (nat_eq c 44 || is_line_end c))

-- a control character that stands nowhere in a text: one below U+0020, but a tab or a line end
abbrev pub is_control : ℕ → Bool
is_control c = nat_lt c 32 && not (nat_eq c 9 || is_line_end c)

-- a letter or `_`: section 2.1.9
abbrev pub is_name_start : ℕ → Bool
is_name_start c = (nat_le 97 c && nat_le c 122) || ((nat_le 65 c && nat_le c 90) || nat_eq c 95)

-- a letter, a digit or `_`: section 2.1.9
abbrev pub is_name_byte : ℕ → Bool
is_name_byte c = is_name_start c || is_ascii_digit c

-- a hexadecimal digit: section 2.9.4
abbrev pub is_hex : ℕ → Bool
is_hex c = is_ascii_digit c || ((nat_le 65 c && nat_le c 70) || (nat_le 97 c && nat_le c 102))

-- whether the first byte passes the test
abbrev pub begins : (ℕ → Bool) → List ℕ → Bool
begins p [] = false
begins p (c ∷ cs) = p c
