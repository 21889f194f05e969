-- What of a text is written.
use Rattle.std.specs.Prelude.{◌≡◌, ◌++◌, ℕ, List, Option}
use Rattle.std.specs.Io.KnownBytes.{Appends}

-- In all of this `old` is what was out before, and `new` what is out now, if these bytes are known.

-- of the text a beginning went out, and this is left
abbrev pub GoesOut : List ℕ → Option (List ℕ) → Option (List ℕ) → List ℕ → Type 0
GoesOut text old new left = (went : List ℕ) × (Appends old new went × (text ≡ went ++ left))

-- of the text a beginning went out
abbrev pub IsBegun : List ℕ → Option (List ℕ) → Option (List ℕ) → Type 0
IsBegun text old new = (left : List ℕ) × GoesOut text old new left
