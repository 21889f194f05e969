-- A test of keys, tried at one entry after the other.
use Rattle.std.proofs.Common.{◌≡◌, ◌+◌, ℕ, zero, suc, Bool, true, false, List, [], ◌∷◌, Some}
use Rattle.std.proofs.Common.{slice_get, take, add-one, arith}
use Rattle.std.specs.List.{list_all}
use Rattle.graphql_nodes.specs.Tables.{keys_of}

module _ {K V : Type 0} (test : K → Bool) where
  passes_through : (es : List (K × V)) (place : ℕ) (k : K) (v : V) → slice_get es place ≡ Some (k, v)
      → list_all test (keys_of (take place es)) ≡ true → test k ≡ true
      → list_all test (keys_of (take (suc place) es)) ≡ true
  passes_through [] place k v at so_far here = cc
  passes_through (e ∷ es) zero k v at so_far here = grind arith
  passes_through (e ∷ es) (suc place) k v at so_far here = grind (arith, passes_through es place k v at)

  pub one_more_passes : (es : List (K × V)) (place : ℕ) (k : K) (v : V) → slice_get es place ≡ Some (k, v)
      → list_all test (keys_of (take place es)) ≡ true → test k ≡ true
      → list_all test (keys_of (take (place + 1) es)) ≡ true
  one_more_passes es place k v at so_far here = rw add-one (passes_through es place k v at so_far here)

  pub one_fails : (es : List (K × V)) (place : ℕ) (k : K) (v : V) → slice_get es place ≡ Some (k, v)
      → test k ≡ false → list_all test (keys_of es) ≡ false
  one_fails [] place k v at here = cc
  one_fails (e ∷ es) zero k v at here = grind arith
  one_fails (e ∷ es) (suc place) k v at here = grind (arith, one_fails es place k v at here)
