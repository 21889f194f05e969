-- Which words spell what is made of parts.
use Rattle.std.specs.Prelude.{◌≡◌, List, [], ◌∷◌, ◌++◌, Option, Some, None}
use Rattle.graphql_grammar.specs.Words.{WordView}
use Rattle.graphql_grammar.specs.declared.kind.Kind.{Kind}

-- words of which the front are such, and the rest such
pub record Parts (P Q : List WordView → Type 0) (front : List WordView) : Type 0 where
  pub head : List WordView
  pub tail : List WordView
  pub whole : front ≡ head ++ tail
  pub first : P head
  pub second : Q tail

-- one value or none
abbrev pub spells_optional : {A : Type 0} → (A → List WordView → Type 0) → Option A → List WordView → Type 0
spells_optional p None front = front ≡ []
spells_optional p (Some x) front = p x front

-- any number of values, one after the other
abbrev pub spells_many : {A : Type 0} → (A → List WordView → Type 0) → List A → List WordView → Type 0
spells_many p [] front = front ≡ []
spells_many p (x ∷ xs) front = Parts (p x) (λ tail. spells_many p xs tail) front

-- a value, as the kind of the first word has it
abbrev pub spells_by : {A : Type 0} → (Kind → A → List WordView → Type 0) → A → List WordView → Type 0
spells_by pick x [] = ⊥
spells_by pick x (w ∷ ws) = pick w.kind x (w ∷ ws)
