-- The text of a list of bare items is that of the items, where each item's text is.
use Rattle.graphql_productions.specs.TypeSystem.{is_none}
use Rattle.std.proofs.Common.{◌≡◌, ℕ, ◌+◌, List, [], ◌∷◌, ◌++◌, refl, map}
use Rattle.std.specs.List.{AllByRecursion}
use Rattle.graphql_printing.specs.Layout.{each_behind, enclosed, line_end, on_lines, separated}

-- what holds of everything holds of each item
pub each : {A : Type 0} {P : A → Type 0} → ((x : A) → P x) → (xs : List A) → AllByRecursion P xs
each holds [] = tt
each {P = P} holds (x ∷ xs) = (holds x, each {P = P} holds xs)

-- something with what holds of it
abbrev pub Shown : {A : Type 0} → (A → Type 0) → Type 0
Shown {A} P = (x : A) × P x

-- what holds of each item that is given so
pub each_given : {A B : Type 0} (P : A → Type 0) (given : B → A) → ((b : B) → P (given b)) → (bs : List B)
    → AllByRecursion P (map given bs)
each_given P given holds [] = tt
each_given P given holds (b ∷ bs) = (holds b, each_given P given holds bs)

module _ {A B : Type 0} (bare : A → B) (text : A → List ℕ) (other : B → List ℕ) where
  -- an item whose text stays
  abbrev pub Stays : A → Type 0
  Stays x = other (bare x) ≡ text x

  -- each behind a text
  pub each_behind_stays : (before : List ℕ) (xs : List A) → AllByRecursion Stays xs
      → each_behind before other (map bare xs) ≡ each_behind before text xs
  each_behind_stays before [] all = refl
  each_behind_stays before (x ∷ xs) all = let first = all.0 in let rest =
      each_behind_stays before xs all.1 in λ i. before ++ first i ++ rest i

  -- with a separator between each two
  pub separated_stays : (separator : List ℕ) (xs : List A) → AllByRecursion Stays xs
      → separated separator other (map bare xs) ≡ separated separator text xs
  separated_stays separator [] all = refl
  separated_stays separator (x ∷ xs) all = let first = all.0 in let rest =
      each_behind_stays separator xs all.1 in λ i. first i ++ rest i

  -- between a beginning and an end
  pub enclosed_stays : (beginning separator end : List ℕ) (xs : List A) → AllByRecursion Stays xs
      → enclosed beginning separator end other (map bare xs) ≡ enclosed beginning separator end text xs
  enclosed_stays beginning separator end [] all = refl
  enclosed_stays beginning separator end (x ∷ xs) all = let inside =
      separated_stays separator (x ∷ xs) all in λ i. beginning ++ inside i ++ end

-- what holds of each item where something else does
each_also : {A : Type 0} (P Q : A → Type 0) → ((x : A) → P x → Q x) → (xs : List A) → AllByRecursion P xs
    → AllByRecursion Q xs
each_also P Q also [] all = tt
each_also P Q also (x ∷ xs) all = (also x all.0, each_also P Q also xs all.1)

module _ {A B : Type 0} (bare : A → B) (text : ℕ → A → List ℕ) (other : ℕ → B → List ℕ) where
  -- an item whose text stays, however far in it stands
  abbrev pub StaysInside : A → Type 0
  StaysInside x = (inner : ℕ) → other inner (bare x) ≡ text inner x

  -- each on a line of its own
  pub on_lines_stay : (opening closing : List ℕ) (indent : ℕ) (xs : List A) → AllByRecursion StaysInside xs
      → on_lines opening closing indent other (map bare xs) ≡ on_lines opening closing indent text xs
  on_lines_stay opening closing indent xs all =
      let inner : ℕ = indent + 2 in
      enclosed_stays bare (text inner) (other inner) (opening ++ line_end inner) (line_end inner)
      (line_end indent ++ closing) xs (each_also StaysInside _ (λ x stays. stays inner) xs all)

-- whether there is an item is seen of what is made of each
pub none_seen : {A B : Type 0} (see : A → B) (xs : List A) → is_none (map see xs) ≡ is_none xs
none_seen see [] = refl
none_seen see (x ∷ xs) = refl
