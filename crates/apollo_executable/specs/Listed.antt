-- What there is, as a list.
use Rattle.std.specs.Prelude.{List, [], ◌∷◌, Option, None, Some}

-- the one thing that there is, or none
abbrev pub listed : {A : Type 0} → Option A → List A
listed None = []
listed (Some a) = a ∷ []
