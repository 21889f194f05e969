-- What the elements of a list add, one after another.
use Rattle.std.specs.Prelude.{List, [], ◌∷◌, ◌++◌}

-- what the elements add, in order, where each adds something to those before it: at first to these
abbrev pub each_after : {X Y : Type 0} → (List X → X → List Y) → List X → List X → List Y
each_after at before [] = []
each_after at before (x ∷ xs) = at before x ++ each_after at (before ++ x ∷ []) xs
