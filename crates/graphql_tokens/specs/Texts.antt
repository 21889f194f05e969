-- Texts that are borrowed.
use Rattle.std.specs.Prelude.{ℕ, List, [], ◌+◌, length, map, Option, None, Some}
use Rattle.std.specs.Borrow.{Bor}

-- the bytes of borrowed texts
abbrev pub texts_of : List (Bor (List ℕ)) → List (List ℕ)
texts_of texts = map (λ text. text.now) texts

-- how many bytes are left of a text, and one more; 0 if nothing is left
abbrev pub bytes_left : Option (Bor (List ℕ)) → ℕ
bytes_left None = 0
bytes_left (Some text) = length text.now + 1

-- what is left of a text says, by this, if something is left
abbrev pub left_says : (List ℕ → List ℕ) → Option (Bor (List ℕ)) → List ℕ
left_says say None = []
left_says say (Some text) = say text.now
