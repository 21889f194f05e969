-- What block strings say: GraphQL specification of October 2021, section 2.9.4, "Block Strings".
--
-- `\"""` says `"""`. The lines of what is said are cut at LF, CR LF and CR. All but the first lose their
-- common indent, the least of those that are not blank. Blank lines are dropped at the beginning and at the
-- end. The rest is joined by line feeds.
use Rattle.std.specs.Prelude.{ℕ, Bool, ◌||◌, ◌&&◌, not, List, [], ◌∷◌, ◌++◌, drop, length, map, min, nat_eq}
use Rattle.std.specs.Prelude.{take, if◌then◌else◌, Option, None, Some}
use Rattle.std.specs.Borrow.{Bor}
use Rattle.std.specs.List.{prefix_len}
use Rattle.std.specs.Option.{option_map_or, unwrap_or}
use Rattle.graphql_tokens.specs.Bytes.{begins, is_control, is_line_end}
use Rattle.graphql_tokens.specs.Strings.{begins_with_quotes, block_character_size}
use Rattle.graphql_tokens.specs.StringValues.{said}

-- what a character of a block string says: three quotes, if it is `\"""`, which alone has four bytes, or else
-- itself
abbrev pub block_says : List ℕ → List ℕ
block_says character = if nat_eq (length character) 4 then 34 ∷ 34 ∷ 34 ∷ [] else character

-- what the character at the front of a block string says
abbrev pub block_character_says : List ℕ → List ℕ
block_character_says text = block_says (take (block_character_size text) text)

-- the bytes behind a block string's first quotes
abbrev pub behind_quotes : List ℕ → List ℕ
behind_quotes token = if begins_with_quotes token then drop 3 token else []

-- what characters of a block string say, up to what is none
abbrev pub block_characters_say : List ℕ → List ℕ
block_characters_say text = said block_character_size block_character_says 0 text

-- a byte of a block string that says itself, whatever follows it
abbrev pub is_plain_in_block : ℕ → Bool
is_plain_in_block c = not (nat_eq c 34 || (nat_eq c 92 || is_control c))

-- lines, the first of which begins with this byte too
abbrev pub longer_first : ℕ → List (List ℕ) → List (List ℕ)
longer_first c [] = (c ∷ []) ∷ []
longer_first c (line ∷ lines) = (c ∷ line) ∷ lines

-- the lines of a text, cut at each line feed, at a carriage return, and at both together: section 2.1.3
abbrev pub lines : List ℕ → List (List ℕ)
lines [] = [] ∷ []
lines (c ∷ cs) =
    if is_line_end c
    then (if nat_eq c 13 && begins (nat_eq 10) cs then lines cs else [] ∷ lines cs)
    else longer_first c (lines cs)

-- a byte that ends no line
abbrev pub is_in_line : ℕ → Bool
is_in_line c = not (is_line_end c)

-- how many bytes of a line end stand at the front
abbrev pub line_end : List ℕ → ℕ
line_end [] = 0
line_end (c ∷ cs) = if is_line_end c then (if nat_eq c 13 && begins (nat_eq 10) cs then 2 else 1) else 0

-- the lines of the rest of a text, if there is one
abbrev pub lines_left : Option (Bor (List ℕ)) → List (List ℕ)
lines_left None = []
lines_left (Some text) = lines text.now

-- a tab or a space
abbrev pub is_white : ℕ → Bool
is_white c = nat_eq c 9 || nat_eq c 32

-- how many tabs and spaces a line begins with
abbrev pub indent : List ℕ → ℕ
indent line = prefix_len is_white line

-- whether a line has nothing else
abbrev pub is_blank_line : List ℕ → Bool
is_blank_line line = nat_eq (indent line) (length line)

-- the least indent so far, where this line comes next: a blank line doesn't count
abbrev pub least_indent : Option ℕ → List ℕ → Option ℕ
least_indent found line =
    if is_blank_line line then found else Some (option_map_or (min (indent line)) found (indent line))

-- the least indent of these lines and of those before, if there is one
abbrev pub common_indent : Option ℕ → List (List ℕ) → Option ℕ
common_indent found [] = found
common_indent found (line ∷ more) = common_indent (least_indent found line) more

-- a line without so many of its tabs and spaces at the front, or without all where it has fewer
abbrev pub unindented : ℕ → List ℕ → List ℕ
unindented n line = drop (min n (indent line)) line

-- lines without the common indent of all but the first, which keeps its own
abbrev pub without_indent : List (List ℕ) → List (List ℕ)
without_indent [] = []
without_indent (first ∷ others) = first ∷ map (unindented (unwrap_or (common_indent None others) 0)) others

-- lines without the blank ones in front
abbrev pub without_blank_start : List (List ℕ) → List (List ℕ)
without_blank_start [] = []
without_blank_start (line ∷ more) = if is_blank_line line then without_blank_start more else line ∷ more

-- a line in front of others, but none where it is blank and no other follows
abbrev pub unless_blank : List ℕ → List (List ℕ) → List (List ℕ)
unless_blank line [] = if is_blank_line line then [] else line ∷ []
unless_blank line (next ∷ more) = line ∷ next ∷ more

-- lines without the blank ones at the end
abbrev pub without_blank_end : List (List ℕ) → List (List ℕ)
without_blank_end [] = []
without_blank_end (line ∷ more) = unless_blank line (without_blank_end more)

-- lines, each behind a line feed
abbrev pub behind_feeds : List (List ℕ) → List ℕ
behind_feeds [] = []
behind_feeds (line ∷ more) = 10 ∷ line ++ behind_feeds more

-- lines with a line feed between each two
abbrev pub joined : List (List ℕ) → List ℕ
joined [] = []
joined (line ∷ more) = line ++ behind_feeds more

-- what a block string says whose characters say this
abbrev pub dedented : List ℕ → List ℕ
dedented text = joined (without_blank_end (without_blank_start (without_indent (lines text))))

-- the value of a block string token, of its bytes with the quotes; what bytes say that are none means nothing
abbrev pub block_string_value : List ℕ → List ℕ
block_string_value token = dedented (block_characters_say (behind_quotes token))
