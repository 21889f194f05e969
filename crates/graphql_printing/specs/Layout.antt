-- How texts are put together.
use Rattle.std.specs.Prelude.{ℕ, List, [], ◌∷◌, ◌++◌, ◌+◌, replicate, codes}
use Rattle.std.specs.List.{flat_map}

-- texts, each behind this one
abbrev pub each_behind : {A : Type 0} → List ℕ → (A → List ℕ) → List A → List ℕ
each_behind before text xs = flat_map (λ x. before ++ text x) xs

-- texts with a separator between each two
abbrev pub separated : {A : Type 0} → List ℕ → (A → List ℕ) → List A → List ℕ
separated separator text [] = []
separated separator text (x ∷ xs) = text x ++ each_behind separator text xs

-- the same between a beginning and an end, or nothing where there is no text
abbrev pub enclosed : {A : Type 0} → List ℕ → List ℕ → List ℕ → (A → List ℕ) → List A → List ℕ
enclosed beginning separator end text [] = []
enclosed beginning separator end text (x ∷ xs) = beginning ++ separated separator text (x ∷ xs) ++ end

-- a line feed, and so many blanks
abbrev pub line_end : ℕ → List ℕ
line_end indent = 10 ∷ replicate indent 32

-- texts of what stands further in by so many blanks. Each is on a line of its own and further in by two,
-- between an opening and a closing. There is nothing where there is no text. Each says how far in it stands
abbrev pub on_lines : {A : Type 0} → List ℕ → List ℕ → ℕ → (ℕ → A → List ℕ) → List A → List ℕ
on_lines opening closing indent text xs =
    enclosed (opening ++ line_end (indent + 2)) (line_end (indent + 2)) (line_end indent ++ closing)
    (text (indent + 2)) xs

-- the same between an opening and its `}`
abbrev pub braces : {A : Type 0} → List ℕ → ℕ → (ℕ → A → List ℕ) → List A → List ℕ
braces opening indent text xs = on_lines opening (codes "}") indent text xs
