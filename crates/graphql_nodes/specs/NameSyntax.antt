-- The grammar of names: GraphQL specification of October 2021, section 2.1.9.
use Rattle.std.specs.Prelude.{ℕ, List, [], ◌∷◌, ◌≡◌, ◌≤◌, ◌⊎◌, All}

-- Letter: `A` to `Z`, or `a` to `z`
abbrev pub IsLetter : ℕ → Type 0
IsLetter c = (65 ≤ c × c ≤ 90) ⊎ (97 ≤ c × c ≤ 122)

-- Digit: `0` to `9`
abbrev pub IsDigit : ℕ → Type 0
IsDigit c = 48 ≤ c × c ≤ 57

-- NameStart: a Letter, or `_`
abbrev pub IsNameStart : ℕ → Type 0
IsNameStart c = IsLetter c ⊎ (c ≡ 95)

-- NameContinue: a Letter, a Digit, or `_`
abbrev pub IsNameContinue : ℕ → Type 0
IsNameContinue c = IsNameStart c ⊎ IsDigit c

-- Name: a NameStart, then any number of NameContinue
abbrev pub IsName : List ℕ → Type 0
IsName [] = ⊥
IsName (c ∷ cs) = IsNameStart c × All IsNameContinue cs
