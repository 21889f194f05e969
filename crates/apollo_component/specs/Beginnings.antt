-- Lists that begin with others.
use Rattle.std.specs.Prelude.{◌≡◌, List, ◌++◌}

-- the second list begins with the first
abbrev pub Begins : {A : Type 0} → List A → List A → Type 0
Begins {A = A} xs ys = (more : List A) × (ys ≡ xs ++ more)
