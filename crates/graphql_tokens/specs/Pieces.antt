-- Pieces of a text, one behind the other.
use Rattle.std.specs.Prelude.{ℕ, zero, suc, List, [], ◌∷◌, ◌+◌, ◌-◌, nat_eq, if◌then◌else◌}

-- how many bytes pieces take at the front, as many pieces as there are. The function says how many bytes of a
-- piece stand at the front of a text, and none where there is no piece. So many bytes are still of the piece
-- before
abbrev pub pieces : (List ℕ → ℕ) → ℕ → List ℕ → ℕ
pieces size left [] = 0
pieces size (suc left) (c ∷ cs) = pieces size left cs + 1
pieces size zero (c ∷ cs) = if nat_eq (size (c ∷ cs)) 0 then 0 else pieces size (size (c ∷ cs) - 1) cs + 1
