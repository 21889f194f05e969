-- Texts that stand one behind the other.
use Rattle.std.specs.Prelude.{◌≡◌, ◌++◌, ℕ, List}

-- the text is one of which P holds, with one behind it of which Q holds
abbrev pub IsFollowed : (List ℕ → Type 0) → (List ℕ → Type 0) → List ℕ → Type 0
IsFollowed P Q text = (first : List ℕ)
    × ((second : List ℕ) × ((text ≡ first ++ second) × (P first × Q second)))
