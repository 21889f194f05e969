-- One turn more of a loop over the components of a part: what is kept of them, and what is found.
use Rattle.apollo_meaning.proofs.Prelude.{◌≡◌, ◌+◌, ◌<◌, ◌∷◌, ◌++◌, [], ℕ, List, length, map, take, get_or}
use Rattle.apollo_meaning.proofs.Prelude.{sym, ap, ◌∙◌, Fault, Entry, NameView, collisions, collision_at}
use Rattle.apollo_meaning.specs.declared.collision.Collection.{Collection}
use Rattle.apollo_meaning.proofs.Faults.KeptLemmas.{map-turn, collisions-turn}
use Rattle.apollo_folding.specs.Joins.{Lengthens, FindsIn}

-- what keeps the first of each name has taken the components so far
module _ {X K S : Type 0} (made : List K → S) (component : X → K) (xs : List X) (i : ℕ) (x : X)
    (lt : i < length xs) (is : x ≡ get_or xs i x) (old now : S)
    (was : Lengthens made old (map component (take i xs)) now) where
  pub added-turn : (new : S) → Lengthens made now (component x ∷ []) new
      → Lengthens made old (map component (take (i + 1) xs)) new
  added-turn new one ks h = one (ks ++ map component (take i xs)) (was ks h)
      ∙ ap made (sym (map-turn component ks xs i x lt is))

  pub faults-turn : (c : Collection) (ty : NameView) (entry : X → Entry) (names : List K → List NameView)
      → ((ks : List K) (done : List X) → names (ks ++ map component done) ≡ names ks ++ map (λ e. e.0)
      (map entry done)) → (first between last : List Fault)
      → FindsIn made old (λ ks. collisions c ty (names ks) (map entry (take i xs))) first between
      → FindsIn made now (λ ks. collision_at c ty (names ks) (entry x)) between last
      → FindsIn made old (λ ks. collisions c ty (names ks) (map entry (take (i + 1) xs))) first last
  faults-turn c ty entry names named first between last found one ks h =
      one (ks ++ map component (take i xs)) (was ks h)
      ∙ collisions-turn c ty between first (names ks) _ entry xs i x lt is (named ks (take i xs)) (found ks h)
