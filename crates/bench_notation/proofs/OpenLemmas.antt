-- What stays as selections are opened and closed: what they become with the lines to come.
use Rattle.std.proofs.Common.{◌≡◌, ℕ, ◌+◌, ◌<◌, List, [], ◌∷◌, ◌++◌, length, refl, subst, arith, append_assoc}
use Rattle.std.proofs.lemmas.List.{append-nil}
use Rattle.std.proofs.lemmas.Bool.Decides.{nat_tests}
use Rattle.graphql_ast.specs.declared.selection.Selection.{Selection}
use Rattle.bench_notation.specs.Nesting.{selection_of, selections_at}
use Rattle.bench_notation.specs.OpenSelections.{combined_at}
use Rattle.bench_notation.specs.declared.selection_line.SelectionLine.{SelectionLine}
use Rattle.bench_notation.specs.declared.nesting.OpenSelection.{OpenSelection}

-- a deeper line stands in none of a depth's own selections
pub deeper : (depth : ℕ) (line : SelectionLine) (lines : List SelectionLine) → depth < line.depth
    → selections_at depth (line ∷ lines) ≡ selections_at depth lines
deeper depth line lines lt = grind (arith, nat_tests, lt)

-- a less deep line ends them
pub less_deep : (depth : ℕ) (line : SelectionLine) (lines : List SelectionLine) → line.depth < depth
    → selections_at depth (line ∷ lines) ≡ []
less_deep depth line lines lt = grind (arith, nat_tests, lt)

-- and one of that depth is one of them
pub as_deep : (depth : ℕ) (line : SelectionLine) (lines : List SelectionLine) → line.depth ≡ depth
    → selections_at depth (line ∷ lines) ≡ selection_of line (selections_at (depth + 1) lines)
    ∷ selections_at depth lines
as_deep depth line lines is = grind (arith, nat_tests, is)

-- the last open selection is closed, if the lines to come say none of its selections
pub last_closed : (depth : ℕ) (outer : List OpenSelection) (last : OpenSelection)
    (selections : List Selection) (lines : List SelectionLine)
    → selections_at (depth + length outer + 1) lines ≡ []
    → combined_at depth outer (last.before ++ selection_of last.line selections ∷ []) lines
    ≡ combined_at depth (outer ++ last ∷ []) selections lines
last_closed depth [] last selections lines none =
    let nothing : selections_at (depth + 1) lines ≡ [] =
    subst (λ (n : ℕ). selections_at n lines ≡ []) (omega arith) none in
    simp (append_assoc, append-nil, nothing)
last_closed depth (first ∷ outer) last selections lines none =
    rw (last_closed (depth + 1) outer last selections lines (subst (λ (n : ℕ). selections_at n lines
    ≡ []) (omega arith) none)) refl

-- a line that is too deep changes nothing
pub too_deep : (depth : ℕ) (path : List OpenSelection) (selections : List Selection) (line : SelectionLine)
    (lines : List SelectionLine) → depth + length path < line.depth
    → combined_at depth path selections lines ≡ combined_at depth path selections (line ∷ lines)
too_deep depth [] selections line lines lt = rw (deeper depth line lines (omega (arith, lt))) refl
too_deep depth (first ∷ path) selections line lines lt = rw (
  too_deep (depth + 1) path selections line lines (omega (arith, lt)),
  deeper depth line lines (omega (arith, lt)),
) refl

-- the next selection is opened in the last one
pub next_opened : (depth : ℕ) (path : List OpenSelection) (selections : List Selection) (line : SelectionLine)
    (lines : List SelectionLine) → line.depth ≡ depth + length path
    → combined_at depth (path ++ record { before = selections; line = line } ∷ []) [] lines
    ≡ combined_at depth path selections (line ∷ lines)
next_opened depth [] selections line lines is = rw (as_deep depth line lines (omega (arith, is))) refl
next_opened depth (first ∷ path) selections line lines is = rw (
  next_opened (depth + 1) path selections line lines (omega (arith, is)),
  deeper depth line lines (omega (arith, is)),
) refl
