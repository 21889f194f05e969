-- Worked excerpts.
use Rattle.std.specs.Prelude.{ℕ, List, [], ◌∷◌}
use Rattle.apollo_reporting.specs.Excerpts.{marks, pad}
use Rattle.apollo_reporting.specs.Windows.{shown}

-- a line as it is drawn, and under it what stands before the marks, and the marks
pub record Drawn : Type 0 where
  pub line : List ℕ
  pub before : List ℕ
  pub marks : List ℕ

-- what is drawn of a text for the bytes from one offset up to another
abbrev pub drawn : List ℕ → ℕ → ℕ → Drawn
drawn text start end =
    record {
      line = (shown text start end).line;
      before = pad (shown text start end).before;
      marks = marks (shown text start end).marks;
    }

-- `é"√"` in UTF-8
abbrev pub wide_text : List ℕ
wide_text = 195 ∷ 169 ∷ 34 ∷ 226 ∷ 136 ∷ 154 ∷ 34 ∷ []
