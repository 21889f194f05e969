-- What the open selections become with the lines to come. docs/NOTATION.md, and GraphQL specification of
-- October 2021, sections 2.4 to 2.8.
use Rattle.std.specs.Prelude.{ℕ, ◌+◌, List, [], ◌∷◌, ◌++◌}
use Rattle.graphql_ast.specs.declared.selection.Selection.{Selection}
use Rattle.bench_notation.specs.Nesting.{selection_of, selections_at}
use Rattle.bench_notation.specs.declared.selection_line.SelectionLine.{SelectionLine}
use Rattle.bench_notation.specs.declared.nesting.OpenSelection.{OpenSelection}
use Rattle.bench_notation.specs.declared.nesting.Nesting.{Nesting}

-- the selections of a depth, of which the first of these is open. Each further one is open in the one before
-- it. Of the last one these selections and lines are known
abbrev pub combined_at : ℕ → List OpenSelection → List Selection → List SelectionLine → List Selection
combined_at depth [] selections lines = selections ++ selections_at depth lines
combined_at depth (outer ∷ inner) selections lines =
    outer.before ++ selection_of outer.line (combined_at (depth + 1) inner selections lines)
    ∷ selections_at depth lines

-- the selections that those known and the lines to come make
abbrev pub combined : Nesting → List SelectionLine → List Selection
combined nesting lines = combined_at 0 nesting.path.items nesting.selections lines
