-- Worked walks: two fragments that spread one another, and a name without a fragment.
use Rattle.std.specs.Prelude.{ℕ, List, [], ◌∷◌, codes}
use Rattle.apollo_walks.specs.Selections.{Selections, none, field, spread, inline, Fragments}

-- { ...F }
abbrev pub worked_start : Selections (List ℕ)
worked_start = spread (codes "F") none

-- fragment F { ...G a { c } }
abbrev pub worked_first : Selections (List ℕ)
worked_first = spread (codes "G") (field (codes "a") (field (codes "c") none none) none)

-- fragment G { ...F ... { b } ...Gone }
abbrev pub worked_second : Selections (List ℕ)
worked_second = spread (codes "F") (inline (field (codes "b") none none) (spread (codes "Gone") none))

-- both fragments, under their names
abbrev pub worked_fragments : Fragments (List ℕ)
worked_fragments = (codes "F", worked_first) ∷ (codes "G", worked_second) ∷ []
