-- Lines and columns of a text. A line ends with a line terminator: GraphQL specification of October 2021,
-- section 2.1.3.
use Rattle.std.specs.Prelude.{ℕ, zero, suc, ◌+◌, Bool, not, ◌&&◌, ◌||◌, cond, List, length, slice_index}
use Rattle.std.specs.Prelude.{nat_eq, nat_lt, nat_le, Option, None, Some, option_and_then, option_map}
use Rattle.std.specs.declared.ops.Range.{Range}
use Rattle.graphql_nodes.specs.Tables.{lookup}
use Rattle.graphql_nodes.specs.Sources.{Files, same_file}
use Rattle.graphql_nodes.specs.declared.line_column.LineColumn.{LineColumn}
use Rattle.graphql_nodes.specs.declared.source.SourceSpan.{SourceSpan}

-- how many places before n pass
abbrev pub count_before : (ℕ → Bool) → ℕ → ℕ
count_before p zero = 0
count_before p (suc n) = cond (p n) 1 0 + count_before p n

-- the byte at i is the last one of a line terminator: a line feed, or a carriage return with no line feed
-- after it
abbrev pub ends_line : List ℕ → ℕ → Bool
ends_line text i =
    nat_eq (slice_index text i) 10
    || (nat_eq (slice_index text i) 13 && not (nat_eq (slice_index text (i + 1)) 10))

-- a byte begins a character in UTF-8: it is none of those that only continue one, `0x80` to `0xBF`
abbrev pub begins_char : ℕ → Bool
begins_char b = nat_lt b 128 || nat_le 192 b

-- the line that an offset is on: one more than the line terminators that end at or before it
abbrev pub line_of : List ℕ → ℕ → ℕ
line_of text offset = 1 + count_before (ends_line text) offset

-- the column of an offset: one more than the characters that begin before it, on its line
abbrev pub column_of : List ℕ → ℕ → ℕ
column_of text offset =
    1 + count_before (λ i. begins_char (slice_index text i) && nat_eq (line_of text i) (line_of text offset))
    offset

-- the line and column of an offset
abbrev pub place_of : List ℕ → ℕ → LineColumn
place_of text offset = record { line = line_of text offset; column = column_of text offset }

-- the line and column of an offset, if it is within the text or at its end
abbrev pub line_column_of : List ℕ → ℕ → Option LineColumn
line_column_of text offset = cond (nat_le offset (length text)) (Some (place_of text offset)) None

-- the line and column where a span starts, in the file of its number
abbrev pub start_of : SourceSpan → Files → Option LineColumn
start_of span files =
    option_and_then (λ file. line_column_of file.text span.start) (lookup (same_file span.file) files)

-- the line and column where a span ends, in the file of its number
abbrev pub end_of : SourceSpan → Files → Option LineColumn
end_of span files =
    option_and_then (λ file. line_column_of file.text span.end) (lookup (same_file span.file) files)

-- where a span starts and where it ends, if both are within the file
abbrev pub range_of : SourceSpan → Files → Option (Range LineColumn)
range_of span files =
    option_and_then (λ from. option_map (λ to. record { start = from; end = to }) (end_of span files))
    (start_of span files)
