-- What a report shows of a text: the line of an offset, and marks under it. A line ends with a line
-- terminator: GraphQL specification of October 2021, section 2.1.3.
use Rattle.std.specs.Prelude.{ℕ, zero, suc, Bool, ◌||◌, ◌-◌, cond, max, List, [], ◌∷◌, take, drop}
use Rattle.std.specs.Prelude.{slice_range, count_by, nat_eq, codes}
use Rattle.std.specs.List.{before_first, flat_map, repeat}
use Rattle.graphql_nodes.specs.LineColumns.{begins_char, ends_line}

-- the byte begins a line terminator: a line feed, or a carriage return
abbrev pub begins_line_end : ℕ → Bool
begins_line_end b = nat_eq b 10 || nat_eq b 13

-- where the line of an offset begins: behind the last line terminator that ends at or before it
abbrev pub line_start : List ℕ → ℕ → ℕ
line_start text zero = zero
line_start text (suc n) = cond (ends_line text n) (suc n) (line_start text n)

-- a text up to its first line terminator
abbrev pub first_line : List ℕ → List ℕ
first_line text = before_first begins_line_end text

-- the line that an offset is on, without its terminator
abbrev pub line_around : List ℕ → ℕ → List ℕ
line_around text offset = first_line (drop (line_start text offset) text)

-- what stands on the line of an offset before it
abbrev pub before_on_line : List ℕ → ℕ → List ℕ
before_on_line text offset = slice_range text (line_start text offset) offset

-- what stands under a byte before the marks: a tab under a tab, a blank under any other character's first
-- byte
abbrev pub blank_under : ℕ → List ℕ
blank_under b = cond (nat_eq b 9) (9 ∷ []) (cond (begins_char b) (32 ∷ []) [])

-- what stands under these bytes
abbrev pub pad : List ℕ → List ℕ
pad before = flat_map blank_under before

-- the bytes from one offset up to another that stand on the line of the first
abbrev pub marked : List ℕ → ℕ → ℕ → List ℕ
marked text start end = take (end - start) (first_line (drop start text))

-- how many marks stand under these bytes: one for each character, and one where there is none
abbrev pub mark_count : List ℕ → ℕ
mark_count bytes = max 1 (count_by begins_char bytes)

-- so many marks, each a `^`
abbrev pub marks : ℕ → List ℕ
marks count = repeat count (codes "^")
