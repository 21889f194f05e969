-- Descriptions as strings: GraphQL specification of October 2021, sections 2.9.4 and 3.2.
use Rattle.std.specs.Prelude.{ℕ, zero, suc, Bool, false, ◌||◌, ◌&&◌, not, List, [], ◌∷◌, ◌++◌, nat_eq, nat_le}
use Rattle.std.specs.Prelude.{nat_lt, if◌then◌else◌, codes}
use Rattle.std.specs.List.{flat_map, list_any}
use Rattle.graphql_tokens.specs.Bytes.{begins}
use Rattle.graphql_tokens.specs.BlockStringValues.{block_string_value, is_white}
use Rattle.graphql_tokens.specs.Strings.{begins_with_quotes}
use Rattle.graphql_printing.specs.Layout.{line_end}
use Rattle.graphql_printing.specs.Strings.{quoted}
use Rattle.graphql_printing.specs.Widths.{width}
use lib.Pointwise.{pointwise}

-- whether a text has more lines than one
abbrev pub has_line_feed : List ℕ → Bool
has_line_feed text = list_any (nat_eq 10) text

-- whether the last byte passes the test
abbrev pub ends : (ℕ → Bool) → List ℕ → Bool
ends p [] = false
ends p (c ∷ []) = p c
ends p (c ∷ d ∷ ds) = ends p (d ∷ ds)

-- a quote or `\`, which says something else before the quotes that end a block string
abbrev pub is_mark : ℕ → Bool
is_mark c = nat_eq c 34 || nat_eq c 92

-- whether a text stands in one line with the quotes of its block string
abbrev pub fits_one_line : List ℕ → Bool
fits_one_line text = not (has_line_feed text) && (nat_le (width text) 70 && not (ends is_mark text))

-- whether a text begins behind the quotes at once, though it doesn't fit. It is one line that begins with a
-- tab or a blank, which else were lost
abbrev pub begins_at_once : List ℕ → Bool
begins_at_once text = not (has_line_feed text) && begins is_white text

-- a text with `\` before each `"""`, where so many quotes at the front are of one that has begun
abbrev pub with_marks : ℕ → List ℕ → List ℕ
with_marks left [] = []
with_marks (suc left) (c ∷ cs) = c ∷ with_marks left cs
with_marks zero (c ∷ cs) = if begins_with_quotes (c ∷ cs) then 92 ∷ c ∷ with_marks 2 cs
    else c ∷ with_marks 0 cs

-- a byte, and behind a line feed so many blanks
abbrev pub byte_further_in : ℕ → ℕ → List ℕ
byte_further_in indent c = if nat_eq c 10 then line_end indent else c ∷ []

-- the lines of a text, all but the first further in by so many blanks
abbrev pub further_in : ℕ → List ℕ → List ℕ
further_in indent text = flat_map (byte_further_in indent) text

-- what a block string has of its text between the quotes
abbrev pub inside : ℕ → List ℕ → List ℕ
inside indent text = further_in indent (with_marks 0 text)

-- a block string whose lines but the first are further in by so many blanks
abbrev pub block : ℕ → List ℕ → List ℕ
block indent text =
    if fits_one_line text
    then codes "\"\"\"" ++ inside indent text ++ codes "\"\"\""
    else codes "\"\"\"" ++ (if begins_at_once text then [] else line_end indent) ++ inside indent text
    ++ line_end indent ++ codes "\"\"\""

-- a control character of one byte but a tab and a line feed: one below U+0020, or U+007F
abbrev pub is_unprintable : ℕ → Bool
is_unprintable c = (nat_lt c 32 && not (nat_eq c 9 || nat_eq c 10)) || nat_eq c 127

-- whether a control character but a tab and a line feed stands at the front: those of U+0080 to U+009F have
-- two bytes
abbrev pub begins_unprintable : List ℕ → Bool
begins_unprintable [] = false
begins_unprintable (c ∷ cs) =
    is_unprintable c || (nat_eq c 194 && begins (λ d. nat_le 128 d && nat_lt d 160) cs)

-- whether a control character but a tab and a line feed stands anywhere
abbrev pub has_unprintable : List ℕ → Bool
has_unprintable [] = false
has_unprintable (c ∷ cs) = begins_unprintable (c ∷ cs) || has_unprintable cs

-- whether a block string of this text is read as the text again
unfoldable pub reads_back : List ℕ → Bool
reads_back text = pointwise nat_eq (block_string_value (block 0 text)) text

-- whether a description is a block string, and not a quoted one. It is read as the text again, and has no
-- control character but tabs and line feeds
abbrev pub is_block : List ℕ → Bool
is_block text = reads_back text && not (has_unprintable text)

-- a description, which stands further in by so many blanks
abbrev pub description_text : ℕ → List ℕ → List ℕ
description_text indent text = if is_block text then block indent text else quoted text
