-- The lines and columns of offsets that stand regularly in a text: GraphQL specification of October 2021,
-- section 2.1.3.
use Rattle.std.specs.Prelude.{◌≡◌, ◌<◌, ◌*◌, ℕ, List, length, slice_index_or}
use Rattle.graphql_nodes.specs.LineColumns.{place_of}
use Rattle.graphql_nodes.specs.declared.line_column.LineColumn.{LineColumn}

-- these are the lines and columns of the offsets 0, 256, 512, and so on
abbrev pub AreMilestones : List ℕ → List LineColumn → Type 0
AreMilestones text places = (n : ℕ) (other : LineColumn) → n < length places
    → slice_index_or places n other ≡ place_of text (n * 256)
