-- Where words are refused, as contracts speak of it.
use Rattle.std.specs.Prelude.{◌≡◌, List, [], ◌∷◌, ◌++◌, Ok, Err}
use Rattle.graphql_grammar.specs.Words.{WordView}
use Rattle.graphql_grammar.specs.Pieces.{Piece, Refusal, read_all}

-- the first words are the end of the others
abbrev pub EndOf : List WordView → List WordView → Type 0
EndOf part whole = (front : List WordView) × (whole ≡ front ++ part)

-- no words that begin with this front and have the next word, are such for any value. Where no word is next,
-- nor is the front alone
abbrev pub Unspelled : {A : Type 0} → (A → List WordView → Type 0) → List WordView → List WordView → Type 0
Unspelled {A} spells front [] = (x : A) → spells x front → ⊥
Unspelled {A} spells front (w ∷ ws) = (x : A) (others : List WordView) → spells x (front ++ w ∷ others) → ⊥

-- where words are refused, there are words before the refused one, and none that begin with those and the
-- refused one are such
abbrev pub RefusedWith : {A : Type 0} → (A → List WordView → Type 0) → List WordView → Refusal → Type 0
RefusedWith spells words e = (front : List WordView) × (words ≡ front ++ e.left)
    × Unspelled spells front e.left

-- all words of a value, as reading has it
abbrev pub reads : {A : Type 0} → Piece A → A → List WordView → Type 0
reads p x words = read_all p words ≡ Ok x

-- the words before what is left begin some that are such
pub record Viable {A : Type 0} (spells : A → List WordView
    → Type 0) (words left : List WordView) : Type 0 where
  pub front : List WordView
  pub more : List WordView
  pub value : A
  pub whole : words ≡ front ++ left
  pub spelled : spells value (front ++ more)

-- what a piece refuses is refused for all words so far: none that begin with them are such
abbrev pub RulesOut : {A : Type 0} → Piece A → (A → List WordView → Type 0) → Type 0
RulesOut p spells = (words : List WordView) (e : Refusal) → read_all p words ≡ Err e
    → RefusedWith spells words e

-- what a piece refuses is refused no later than it has to be: the words before begin some that are such
abbrev pub CanGoOn : {A : Type 0} → Piece A → (A → List WordView → Type 0) → Type 0
CanGoOn p further = (words : List WordView) (e : Refusal) → read_all p words ≡ Err e
    → Viable further words e.left
