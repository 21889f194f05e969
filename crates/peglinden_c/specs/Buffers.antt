-- What is copied into the buffer of a caller.
use Rattle.std.specs.Prelude.{◌≡◌, ◌⊎◌, ◌<◌, ◌++◌, ℕ, ℤ, pos, List, Option, None, Some, drop, length}

-- In all of this `old` is what was in the buffer, `new` what is in it now, and `needed` the length that is
-- said to be needed.

-- the text stands at the front of the buffer, and what followed there is as it was
abbrev pub IsGiven : List ℕ → List ℕ → List ℕ → ℕ → Type 0
IsGiven text old new needed = (new ≡ text ++ drop (length text) old) × (needed ≡ length text)

-- the text is longer than the buffer, which is as it was
abbrev pub IsTooLong : List ℕ → List ℕ → List ℕ → ℕ → Type 0
IsTooLong text old new needed = (length old < length text) × (new ≡ old) × (needed ≡ length text)

-- a text, if there is one, was copied, and 0 says so. Or it is too long, and 5 says so. Or there is none, and
-- 6 says so
abbrev pub IsCopied : Option (List ℕ) → ℤ → List ℕ → List ℕ → ℕ → Type 0
IsCopied (Some text) said old new needed = ((said ≡ pos 0) × IsGiven text old new needed)
    ⊎ ((said ≡ pos 5) × IsTooLong text old new needed)
IsCopied None said old new needed = (said ≡ pos 6) × (new ≡ old) × (needed ≡ 0)
