-- How wide texts are, in UTF-16 units.
use Rattle.std.specs.Prelude.{ℕ, List, [], ◌∷◌, ◌+◌, nat_lt, if◌then◌else◌}

-- how many UTF-16 units the character has whose first byte this is; none for its other bytes
abbrev pub units : ℕ → ℕ
units c = if nat_lt c 128 then 1 else (if nat_lt c 192 then 0 else (if nat_lt c 240 then 1 else 2))

-- how many UTF-16 units a text has
abbrev pub width : List ℕ → ℕ
width [] = 0
width (c ∷ cs) = units c + width cs
