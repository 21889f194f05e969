-- There is an order of all selections: each fragment is opened once, so a walk is never deeper than there are
-- fragments.
use Rattle.std.proofs.Common.{◌≡◌, ◌⊎◌, inl, inr, ℕ, zero, suc, ◌+◌, ◌<◌, ◌≤◌, Bool, true, false, cond, List}
use Rattle.std.proofs.Common.{[], ◌∷◌, Option, None, Some, refl, arith}
use Rattle.graphql_nodes.proofs.Texts.{same-true}
use Rattle.apollo_walks.specs.Selections.{Selections, none, field, spread, inline, Fragments, Names}
use Rattle.apollo_walks.specs.Selections.{with_name, with_names, fragment_of}
use Rattle.apollo_walks.specs.Reachable.{at_fragment}
use Rattle.apollo_walks.specs.WalkOrder.{Order, of_none, of_inline, of_field, of_passed, of_fragment}

module _ {F : Type 0} where
  -- how many fragments are not opened
  abbrev unopened : Fragments F → Names → ℕ
  unopened [] before = 0
  unopened (e ∷ es) before = cond (before e.0) 0 1 + unopened es before

  -- opening a name leaves fewer where it has a fragment and was not opened, and else no more
  opening : (fragments : Fragments F) (n : List ℕ) (before : Names) (b : Bool) → before n ≡ b
      → unopened fragments (with_name n before) + at_fragment 0 (λ set. cond b 0 1) (fragment_of fragments n)
      ≤ unopened fragments before
  unfolding with_name
  opening [] n before b is = omega arith
  opening (e ∷ es) n before b is = grind (arith, opening es n before b is, same-true n e.0)

  unopened-with_names : (fragments : Fragments F) (ns : List (List ℕ)) (before : Names)
      → unopened fragments (with_names ns before) ≤ unopened fragments before
  unopened-with_names fragments [] before = omega arith
  unopened-with_names fragments (n ∷ ns) before =
      omega (arith, opening fragments n before _ refl, unopened-with_names fragments ns (with_name n before))

-- what the order gives and opens
pub record Ordered {F : Type 0} (fragments : Fragments F) (before : Names) (s : Selections F) : Type 0 where
  pub fields : List F
  pub opened : List (List ℕ)
  pub order : Order fragments before s fields opened

module _ {F : Type 0} (fragments : Fragments F) where
  given : {before : Names} {s : Selections F} {fields : List F} {opened : List (List ℕ)}
      → Order fragments before s fields opened → Ordered fragments before s
  given order = record { fields = _; opened = _; order = order }

  -- two lists, the second where no fewer names are opened
  both : {before : Names} {p q : Selections F} → Ordered fragments before p
      → ((names : Names) → unopened fragments names ≤ unopened fragments before → Ordered fragments names q)
      → Ordered fragments before (inline p q)
  both {before = before} a others =
      given (of_inline a.order (others _ (unopened-with_names fragments a.opened before)).order)

  -- a name is passed over, or opened
  passed_or_opened : (b : Bool) (found : Option (Selections F))
      → ((b ≡ true) ⊎ (found ≡ None)) ⊎ ((set : Selections F) × (b ≡ false) × (found ≡ Some set))
  passed_or_opened true found = inl (inl refl)
  passed_or_opened false None = inl (inr refl)
  passed_or_opened false (Some set) = inr (set, refl, refl)

  in_reach : (k : ℕ)
      → ((names : Names) (set : Selections F) → unopened fragments names < k → Ordered fragments names set)
      → (before : Names) (s : Selections F) → unopened fragments before ≤ k → Ordered fragments before s
  in_reach k deeper before none le = given of_none
  in_reach k deeper before (inline inner rest) le = both (in_reach k deeper before inner le)
      (λ names less. in_reach k deeper names rest (omega (arith, less)))
  in_reach k deeper before (field f below rest) le =
      given (of_field (both (in_reach k deeper before below le) (λ names less. in_reach k deeper names rest
      (omega (arith, less)))).order)
  in_reach k deeper before (spread n rest) le = elim (passed_or_opened _ _) [
    | inl why ↦ given (of_passed why (in_reach k deeper before rest le).order)
    | inr (set, closed, found) ↦ (
        let fewer = rw found at (opening fragments n before false closed) in
        given (of_fragment closed found (both (deeper (with_name n before) set (omega (arith, fewer)))
        (λ names less. in_reach k deeper names rest (omega (arith, less, fewer)))).order))
  ]

  within : (k : ℕ) (before : Names) (s : Selections F) → unopened fragments before ≤ k
      → Ordered fragments before s
  within zero before s le = in_reach zero (λ names set less. absurd (omega (arith, less))) before s le
  within (suc k) before s le = in_reach (suc k) (λ names set less. within k names set (omega (arith, less)))
      before s le

  pub ordered : (before : Names) (s : Selections F) → Ordered fragments before s
  ordered before s = within (unopened fragments before) before s (omega arith)
