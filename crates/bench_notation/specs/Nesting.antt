-- The selections that lines say, by the depths of the lines: docs/NOTATION.md, and GraphQL specification of
-- October 2021, sections 2.4 to 2.8.
use Rattle.std.specs.Prelude.{ℕ, ◌+◌, List, [], ◌∷◌, Bool, true, false, Some, if◌then◌else◌, nat_lt}
use Rattle.graphql_nodes.specs.declared.source.SourceSpan.{SourceSpan}
use Rattle.graphql_ast.specs.declared.selection.Selection as s
use Rattle.graphql_ast.specs.declared.selection.Selection.{Selection}
use Rattle.graphql_ast.specs.declared.selection.Field.{roll-Field}
use Rattle.graphql_ast.specs.declared.selection.InlineFragment.{roll-InlineFragment}
use Rattle.bench_notation.specs.declared.selection_line.Selected.{Selected}
use Rattle.bench_notation.specs.declared.selection_line.Selected.TheVariants as w
use Rattle.bench_notation.specs.declared.selection_line.SelectionLine.{SelectionLine}

-- a field and an inline fragment have selections of their own, a spread has none
abbrev pub takes_selections : Selected → Bool
takes_selections (w.Field name alias) = true
takes_selections (w.Spread name) = false
takes_selections (w.Inline condition) = true

-- at how many depths the line below this one may stand: at each up to its own, and one deeper where it has
-- selections
abbrev pub levels_below : SelectionLine → ℕ
levels_below line = if takes_selections line.selected then line.depth + 1 + 1 else line.depth + 1

-- what is selected at a location, with these selections, without arguments and directives
abbrev pub selection_with : Selected → SourceSpan → List Selection → Selection
selection_with (w.Field name alias) location selections = s.Field record {
  value = roll-Field (record {
    alias = alias;
    name = name;
    arguments = [];
    directives = record { 0 = [] };
    selection_set = selections;
  });
  location = Some location;
}
selection_with (w.Spread name) location selections =
    s.FragmentSpread record {
      value = record { fragment_name = name; directives = record { 0 = [] } };
      location = Some location;
    }
selection_with (w.Inline condition) location selections = s.InlineFragment record {
  value = roll-InlineFragment (record {
    type_condition = condition;
    directives = record { 0 = [] };
    selection_set = selections;
  });
  location = Some location;
}

-- the selection that a line says, with these selections
abbrev pub selection_of : SelectionLine → List Selection → Selection
selection_of line selections = selection_with line.selected line.location selections

-- the selections of a depth that stand in the lines from the first on, up to a line that is less deep. Each
-- has those of the next depth that stand in the lines below it
abbrev pub selections_at : ℕ → List SelectionLine → List Selection
selections_at depth [] = []
selections_at depth (line ∷ lines) =
    if nat_lt line.depth depth then []
    else (if nat_lt depth line.depth then selections_at depth lines
    else selection_of line (selections_at (depth + 1) lines) ∷ selections_at depth lines)
