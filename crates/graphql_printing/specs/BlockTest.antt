-- The test by which the code tells whether a block string is read as its text again: GraphQL specification of
-- October 2021, section 2.9.4, "Block Strings".
use Rattle.std.specs.Prelude.{ℕ, Bool, true, ◌||◌, ◌&&◌, not, List, [], ◌∷◌, length, nat_eq, nat_le}
use Rattle.std.specs.List.{list_any}
use Rattle.graphql_tokens.specs.Bytes.{begins}
use Rattle.graphql_tokens.specs.BlockStringValues.{is_blank_line, is_white, lines}
use Rattle.graphql_printing.specs.Descriptions.{has_line_feed}

-- a byte that most texts don't have: no character of ASCII that is printed, no tab and no line feed
abbrev pub is_rare : ℕ → Bool
is_rare c = not (nat_le 32 c && nat_le c 126) && (not (nat_eq c 9) && not (nat_eq c 10))

-- whether the first of these lines is blank
abbrev pub first_is_blank : List (List ℕ) → Bool
first_is_blank [] = true
first_is_blank (line ∷ more) = is_blank_line line

-- whether the last of these lines is blank
abbrev pub last_is_blank : List (List ℕ) → Bool
last_is_blank [] = true
last_is_blank (line ∷ []) = is_blank_line line
last_is_blank (line ∷ next ∷ more) = last_is_blank (next ∷ more)

-- a line that begins with neither a tab nor a blank, and isn't empty
abbrev pub is_outer : List ℕ → Bool
is_outer line = begins (λ c. not (is_white c)) line

-- the test: a text is empty, or its last line isn't blank. Where it has several lines, the first one isn't
-- blank either, and one has no indent
abbrev pub passes_test : List ℕ → Bool
passes_test text =
    nat_eq (length text) 0
    || (not (last_is_blank (lines text))
    && (not (has_line_feed text)
    || (not (first_is_blank (lines text)) && list_any is_outer (lines text))))
