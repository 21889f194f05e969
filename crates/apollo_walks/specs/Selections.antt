-- Selections as a walk sees them: GraphQL specification of October 2021, sections 2.4 to 2.8.
--
-- **Selections as a walk sees them.** A plain list: a field with the selections below it, a spread with
-- the text of its name, an inline fragment with its selections. A walk over root fields sees nothing
-- below a field (`plain`, with `deep` false). The fragments of a document stand under the texts of the
-- keys of its table (`fragments_of`), whatever names they have themselves. A walk looks at no directive
-- (`@skip`, `@include`) and no type condition, and merges no fields.
use Rattle.std.specs.Prelude.{ℕ, Bool, false, ◌||◌, cond, List, [], ◌∷◌, ◌++◌, Option, None, Some}
use Rattle.graphql_nodes.specs.SameText.{same}

-- a list of selections, its first one and then the others. A field has what a walk meets below it, a spread
-- the text of its name
pub data Selections (F : Type 0) : Type 0 where
  none : Selections F
  field : F → Selections F → Selections F → Selections F
  spread : List ℕ → Selections F → Selections F
  inline : Selections F → Selections F → Selections F

-- the fragments of a document, under the texts of their names
abbrev pub Fragments : Type 0 → Type 0
Fragments F = List (List ℕ × Selections F)

-- a set of names, by its test
abbrev pub Names : Type 0
Names = List ℕ → Bool

-- the empty set of names
abbrev pub no_names : Names
no_names = λ _. false

-- the set with one more name
unfoldable pub with_name : List ℕ → Names → Names
with_name n names = λ m. same n m || names m

-- the set with each of these names
abbrev pub with_names : List (List ℕ) → Names → Names
with_names [] names = names
with_names (n ∷ ns) names = with_names ns (with_name n names)

module _ {F : Type 0} where
  -- the fragment of that name
  abbrev pub fragment_of : Fragments F → List ℕ → Option (Selections F)
  fragment_of [] n = None
  fragment_of (e ∷ es) n = cond (same n e.0) (Some e.1) (fragment_of es n)

  -- the fields there, through inline fragments and below fields, but not through spreads
  abbrev pub occurrences : Selections F → List F
  occurrences none = []
  occurrences (field f below rest) = f ∷ (occurrences below ++ occurrences rest)
  occurrences (spread n rest) = occurrences rest
  occurrences (inline inner rest) = occurrences inner ++ occurrences rest

  -- the names that are spread there
  abbrev pub spread_names : Selections F → List (List ℕ)
  spread_names none = []
  spread_names (field f below rest) = spread_names below ++ spread_names rest
  spread_names (spread n rest) = n ∷ spread_names rest
  spread_names (inline inner rest) = spread_names inner ++ spread_names rest
