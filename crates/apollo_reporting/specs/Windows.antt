-- What a report shows of a line: all of it, or, of a line that is too long for that, what stands around the
-- marks. A line ends with a line terminator: GraphQL specification of October 2021, section 2.1.3.
use Rattle.std.specs.Prelude.{ℕ, zero, suc, Bool, false, not, ◌&&◌, ◌||◌, ◌+◌, ◌-◌, cond, List, [], ◌∷◌}
use Rattle.std.specs.Prelude.{length, take, drop, slice_index, slice_range, nat_eq, nat_lt}
use Rattle.graphql_nodes.specs.LineColumns.{begins_char, column_of, ends_line}
use Rattle.apollo_reporting.specs.Excerpts.{before_on_line, begins_line_end, line_around, mark_count, marked}
use Rattle.apollo_reporting.specs.declared.excerpt.Excerpt.{Excerpt}

-- how many characters a line may have that is shown whole
abbrev pub whole_line : ℕ
whole_line = 160

-- how many characters of a longer line are shown before the marks
abbrev pub before_marks : ℕ
before_marks = 60

-- how many characters of a longer line are shown from the first mark on
abbrev pub from_marks : ℕ
from_marks = 100

-- how many of so many characters are left beside a byte of a text
abbrev pub left_beside : ℕ → ℕ → ℕ
left_beside left b = cond (begins_char b) (left - 1) left

-- where so many characters before an offset begin, or where its line does, if that is nearer
abbrev pub back_by : List ℕ → ℕ → ℕ → ℕ
back_by text left zero = zero
back_by text left (suc n) =
    cond (nat_eq left 0 || ends_line text n) (suc n) (back_by text (left_beside left (slice_index text n)) n)

-- with so many characters left nothing is taken from this byte on: it begins a line terminator, or one
-- character too many
abbrev pub stops_at : ℕ → ℕ → Bool
stops_at left b = begins_line_end b || (nat_eq left 0 && begins_char b)

-- how many bytes the first so many characters of a text take, up to its first line terminator at most
abbrev pub ahead_by : ℕ → List ℕ → ℕ
ahead_by left [] = zero
ahead_by left (b ∷ bs) = cond (stops_at left b) zero (suc (ahead_by (left_beside left b) bs))

-- whether the first line of a text goes on behind so many characters
abbrev pub goes_on : ℕ → List ℕ → Bool
goes_on count text =
    nat_lt (ahead_by count text) (length text)
    && not (begins_line_end (slice_index text (ahead_by count text)))

-- whether the line of an offset is too long to be shown whole. It is so if more characters begin before the
-- offset, or if together with those the line has more behind it
abbrev pub is_long : List ℕ → ℕ → Bool
is_long text offset = nat_lt whole_line (column_of text offset - 1)
    || goes_on (whole_line - (column_of text offset - 1)) (drop offset text)

-- what is shown
pub record Shown : Type 0 where
  -- a line, or what of it is shown
  pub line : List ℕ
  -- what of that stands before the marks
  pub before : List ℕ
  -- how many marks there are
  pub marks : ℕ
  -- whether something of the line is left out before
  pub cut_before : Bool
  -- whether something of the line is left out behind
  pub cut_behind : Bool

-- what an excerpt shows
abbrev pub shown_by : Excerpt → Shown
shown_by excerpt = record {
  line = excerpt.line.now;
  before = excerpt.before.now;
  marks = excerpt.marks;
  cut_before = excerpt.cut_before;
  cut_behind = excerpt.cut_behind;
}

-- the whole line of an offset, and marks up to another offset
abbrev pub whole : List ℕ → ℕ → ℕ → Shown
whole text start end =
    record {
      line = line_around text start;
      before = before_on_line text start;
      marks = mark_count (marked text start end);
      cut_before = false;
      cut_behind = false;
    }

-- where the window around an offset ends
abbrev pub window_end : List ℕ → ℕ → ℕ
window_end text offset = offset + ahead_by from_marks (drop offset text)

-- what is shown of a long line, and marks up to another offset, as far as that is shown
abbrev pub window : List ℕ → ℕ → ℕ → Shown
window text start end = record {
  line = slice_range text (back_by text before_marks start) (window_end text start);
  before = slice_range text (back_by text before_marks start) start;
  marks = mark_count (take (end - start) (slice_range text start (window_end text start)));
  cut_before = nat_lt before_marks (column_of text start - 1);
  cut_behind = goes_on from_marks (drop start text);
}

-- what is shown of a text for the bytes from one offset up to another
abbrev pub shown : List ℕ → ℕ → ℕ → Shown
shown text start end = cond (is_long text start) (window text start end) (whole text start end)
