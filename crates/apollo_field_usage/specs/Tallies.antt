-- How often each thing comes in a list.
use Rattle.std.specs.Prelude.{ℕ, Bool, List, map, count_by}
use Rattle.apollo_component.specs.FirstOfEach.{first_of_each}

module _ {K : Type 0} (same : K → K → Bool) where
  -- how often such a one comes
  abbrev pub times : List K → K → ℕ
  times ks k = count_by (same k) ks

  -- each one once, where it comes first, with how often it comes
  abbrev pub tally : List K → List (K × ℕ)
  tally ks = map (λ k. (k, times ks k)) (first_of_each same ks)
