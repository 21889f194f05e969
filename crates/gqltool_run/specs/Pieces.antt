-- A text that goes out in pieces while it is made.
use Rattle.std.specs.Prelude.{◌++◌, ℕ, List, Option}
use Rattle.program_io.specs.Writing.{GoesOut}

-- In all of this `old` is what was out before, and `new` what is out now, if these bytes are known.

-- behind the text that was held one is said of which P holds: of both a beginning went out, and this is left
abbrev pub IsSaid : (List ℕ → Type 0) → Option (List ℕ) → Option (List ℕ) → List ℕ → List ℕ → Type 0
IsSaid P old new held left = (said : List ℕ) × (P said × GoesOut (held ++ said) old new left)

-- behind the text that was held there is one to say of which P holds, and of both a beginning went out
abbrev pub IsCutShort : (List ℕ → Type 0) → Option (List ℕ) → Option (List ℕ) → List ℕ → Type 0
IsCutShort P old new held = (left : List ℕ) × IsSaid P old new held left
