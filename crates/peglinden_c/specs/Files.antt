-- The files that a caller hands over.
use Rattle.std.specs.Prelude.{ℕ, List, [], ◌∷◌, Option, None, Some, IsUtf8, if◌then◌else◌, map, nat_eq}
use Rattle.std.specs.Borrow.{Bor}
use Rattle.std.specs.Cmp.Lexicographic.{pointwise}
use Rattle.std.specs.List.{All}
use Rattle.peglinden_c.specs.declared.files.PegFile.{PegFile}

-- the files that are handed over, each a path and a text
abbrev pub handed : List PegFile → List (List ℕ × List ℕ)
handed files = map (λ file. (file.path.now, file.text.now)) files

-- files in memory, each a path and a text
abbrev pub in_memory : List (Bor (List ℕ) × Bor (List ℕ)) → List (List ℕ × List ℕ)
in_memory pairs = map (λ pair. (pair.0.now, pair.1.now)) pairs

-- the paths of files, in order
abbrev pub paths_of : List PegFile → List (List ℕ)
paths_of files = map (λ file. file.path.now) files

-- the text of the first of these files that has the path, if one has
abbrev pub text_at : List (List ℕ × List ℕ) → List ℕ → Option (List ℕ)
text_at [] path = None
text_at (file ∷ files) path = if pointwise nat_eq file.0 path then Some file.1 else text_at files path

-- each of these is UTF-8
abbrev pub AreTexts : List (List ℕ) → Type 0
AreTexts texts = All IsUtf8 texts
