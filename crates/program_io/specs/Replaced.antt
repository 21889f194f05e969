-- Which files were replaced.
use Rattle.std.specs.Prelude.{◌≡◌, ℕ, List, [], ◌∷◌, ◌++◌, Option, Some, MatchOption, map, string_bytes, ⊤}
use Rattle.std.specs.declared.alloc.Global.{Global}
use Rattle.std.specs.Prelude.{String}

-- In all of this `old` is what was replaced before, each path with its text, and `new` what is now, if that
-- is known.

-- the file of this path was replaced by this text
abbrev pub Replaces : List ℕ → List ℕ → Option (List (List ℕ × List ℕ)) → Option (List (List ℕ × List ℕ))
    → Type 0
Replaces path text old new = MatchOption old ⊤ (λ before. new ≡ Some (before ++ (path, text) ∷ []))

-- no file was replaced
abbrev pub ReplacesNothing : Option (List (List ℕ × List ℕ)) → Option (List (List ℕ × List ℕ)) → Type 0
ReplacesNothing old new = MatchOption old ⊤ (λ before. new ≡ Some before)

-- paths and texts, as lists of bytes
abbrev pub as_bytes : List (String Global × String Global) → List (List ℕ × List ℕ)
as_bytes pairs = map (λ pair. (string_bytes pair.0, string_bytes pair.1)) pairs
