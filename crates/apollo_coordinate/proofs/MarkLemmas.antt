-- A text cut at its first mark.
use Rattle.std.proofs.Common.{◌≡◌, ◌≢◌, ◌<◌, ◌++◌, ℕ, List, [], ◌∷◌, length, take, get_or, refl, sym, ap}
use Rattle.std.proofs.Common.{subst, ◌∙◌, not, arith, nat_eq}
use Rattle.std.specs.List.{position_or_len, before_first, after_first}
use Rattle.std.proofs.lemmas.Bool.{eqb-false, eqb-true}
use Rattle.std.proofs.lemmas.List.{get_or-take}
use Rattle.std.proofs.lemmas.List.Sums.{fails_before_first, passes_at_first, split_at_first}
use Rattle.std.proofs.lemmas.List.Folds.{length-prefix_len}
use Rattle.std.proofs.lemmas.List.Elements.{All-from_get_or, All-tail}
use Rattle.graphql_nodes.proofs.Comparisons.{head_same, tail_same}
use Rattle.apollo_coordinate.specs.Refusals.{Lacks, IsCut}

pub lacks_all : (mark : ℕ) (t : List ℕ) → position_or_len (λ b. nat_eq b mark) t ≡ length t → Lacks mark t
lacks_all mark t none = All-from_get_or (λ b. b ≢ mark) t 0
    (λ i h. eqb-false _ mark (fails_before_first (λ b. nat_eq b mark) t i 0 (omega arith)))

pub lacks_before : (mark : ℕ) (t : List ℕ) → Lacks mark (before_first (λ b. nat_eq b mark) t)
lacks_before mark t =
    let n : ℕ = position_or_len (λ b. nat_eq b mark) t in
    All-from_get_or (λ b. b ≢ mark) (take n t) 0 (λ i h.
    let k : i < n = subst (λ (m : ℕ). i < m) (length-prefix_len (λ (b : ℕ). not (nat_eq b mark)) t) h in
    let P : ℕ → Type 0 = λ b. b ≢ mark in
    subst P (sym (get_or-take n t i 0 k)) (eqb-false _ mark (fails_before_first (λ b. nat_eq b mark) t i 0
    k)))

pub first_cut : (mark : ℕ) (t : List ℕ) → position_or_len (λ b. nat_eq b mark) t < length t
    → IsCut mark t (before_first (λ b. nat_eq b mark) t) (after_first (λ b. nat_eq b mark) t)
first_cut mark t some =
    let p = λ (b : ℕ). nat_eq b mark in
    let here : get_or t (position_or_len p t) 0 ≡ mark = eqb-true _ mark (passes_at_first p t 0 some) in (
      lacks_before mark t,
      split_at_first p t 0 some ∙ ap (λ (b : ℕ). before_first p t ++ (b ∷ after_first p t)) here,
    )

-- a text without the mark is cut nowhere
pub no_cut : (mark : ℕ) (front back : List ℕ) → Lacks mark (front ++ mark ∷ back) → ⊥
no_cut mark [] back lacks = lacks 0 0 (omega arith) refl
no_cut mark (x ∷ front) back lacks =
    no_cut mark front back (All-tail (λ b. b ≢ mark) x (front ++ mark ∷ back) lacks)

-- a text is cut at one place
pub one_cut : (mark : ℕ) (a b c d : List ℕ) → Lacks mark a → Lacks mark c → a ++ mark ∷ b ≡ c ++ mark ∷ d
    → (a ≡ c) × (b ≡ d)
one_cut mark [] b [] d l m h = (refl, tail_same h)
one_cut mark [] b (y ∷ c) d l m h = absurd (m 0 0 (omega arith) (sym (head_same h)))
one_cut mark (x ∷ a) b [] d l m h = absurd (l 0 0 (omega arith) (head_same h))
one_cut mark (x ∷ a) b (y ∷ c) d l m h =
    let same = one_cut mark a b c d (All-tail (λ b. b ≢ mark) x a l) (All-tail (λ b. b ≢ mark) y c m)
    (tail_same h) in
    let first : x ≡ y = head_same h in
    (λ i. first i ∷ same.0 i, same.1)
