-- What a clone is.
use Rattle.std.specs.Prelude.{◌≡◌}

-- each clone of a value is that value
abbrev pub IsExact : {A : Type 0} → (A → A → Type 0) → Type 0
IsExact {A} is_clone = (a b : A) → is_clone a b → b ≡ a
