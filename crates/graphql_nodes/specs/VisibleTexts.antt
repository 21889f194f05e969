-- Texts as people are shown them.
use Rattle.std.specs.Prelude.{ℕ, not, ◌&&◌, cond, List, nat_eq, encode_utf8}
use Rattle.std.specs.Char.{is_control}
use Rattle.std.specs.List.{flat_map}
use Rattle.std.specs.Str.{chars}

-- a character as it is shown: U+FFFD in place of each control character other than tab
abbrev pub visible_char : ℕ → ℕ
visible_char c = cond (is_control c && not (nat_eq c 9)) 0xFFFD c

-- a text as it is shown, each of its characters so
unfoldable pub visible : List ℕ → List ℕ
visible text = flat_map (λ c. encode_utf8 (visible_char c)) (chars text)
