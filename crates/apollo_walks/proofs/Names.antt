-- Lists of names, and sets of names that grow by one name after the other.
use Rattle.std.proofs.Common.{◌≡◌, ◌⊎◌, inl, inr, ℕ, true, List, [], ◌∷◌, ◌++◌, refl, arith}
use Rattle.std.proofs.lemmas.Bool.{or_cases, or_left, or_right}
use Rattle.graphql_nodes.proofs.Texts.{same-true, same-refl}
use Rattle.apollo_walks.specs.Selections.{Names, with_name, with_names}
use Rattle.apollo_walks.specs.Reachable.{Among, EachOnce}

-- what stands in two lists, one after the other
pub Among-left : {A : Type 0} (n : A) (xs ys : List A) → Among n xs → Among n (xs ++ ys)
Among-left n (x ∷ xs) ys h = grind (arith, h, Among-left n xs ys)
Among-left n [] ys h = absurd h

pub Among-right : {A : Type 0} (n : A) (xs ys : List A) → Among n ys → Among n (xs ++ ys)
Among-right n [] ys h = h
Among-right n (x ∷ xs) ys h = inr (Among-right n xs ys h)

pub Among-split : {A : Type 0} (n : A) (xs ys : List A) → Among n (xs ++ ys) → Among n xs ⊎ Among n ys
Among-split n [] ys h = inr h
Among-split n (x ∷ xs) ys h = grind (arith, h, Among-split n xs ys)

pub with_names-append : (xs ys : List (List ℕ)) (before : Names)
    → with_names (xs ++ ys) before ≡ with_names ys (with_names xs before)
with_names-append [] ys before = refl
with_names-append (x ∷ xs) ys before = with_names-append xs ys _

-- which names are in a set with more names
with_name-in : (n q : List ℕ) (before : Names) → (before q ≡ true) ⊎ (q ≡ n) → with_name n before q ≡ true
unfolding with_name
with_name-in n q before h = grind (arith, h, same-refl n, or_right, or_left)

with_name-cases : (n q : List ℕ) (before : Names) → with_name n before q ≡ true → (before q ≡ true) ⊎ (q ≡ n)
unfolding with_name
with_name-cases n q before h = grind (arith, or_cases _ (before q) h, same-true n q)

pub with_names-in : (ns : List (List ℕ)) (q : List ℕ) (before : Names) → (before q ≡ true) ⊎ Among q ns
    → with_names ns before q ≡ true
with_names-in [] q before h = grind (arith, h)
with_names-in (n ∷ ns) q before h =
    grind (arith, h, with_names-in ns q (with_name n before), with_name-in n q before)

pub with_names-cases : (ns : List (List ℕ)) (q : List ℕ) (before : Names) → with_names ns before q ≡ true
    → (before q ≡ true) ⊎ Among q ns
with_names-cases [] q before h = inl h
with_names-cases (n ∷ ns) q before h = grind (arith, with_names-cases ns q _ h, with_name-cases n q before)

pub EachOnce-append : {A : Type 0} (xs ys : List A) → EachOnce xs → EachOnce ys
    → ((a : A) → Among a xs → Among a ys → ⊥) → EachOnce (xs ++ ys)
EachOnce-append [] ys one two apart = two
EachOnce-append (x ∷ xs) ys one two apart = (
  grind (arith, Among-split x xs ys, one.0, apart x),
  EachOnce-append xs ys one.1 two (λ a among. apart a (inr among)),
)
