use Rattle.std.proofs.Common.{◌≡◌, ◌+◌, ℕ, Bool, true, false, List, Some, slice_get, take, sym, ap, ◌∙◌}
use Rattle.std.proofs.lemmas.Map.Entries.{lookup_from_place}
use Rattle.std.specs.Cmp.{IsEquivalence}
use Rattle.std.specs.List.{list_all}
use Rattle.std.specs.Option.{option_eq}
use Rattle.graphql_nodes.specs.Tables.{HasUniqueKeys, keys_of, lookup}
use Rattle.graphql_nodes.proofs.KeysTried.{one_more_passes, one_fails}
use Rattle.graphql_nodes.proofs.collections.table.Table.has_its_values_in.Goals as goal

-- what two tables have under a key, and under that of an entry of the first
module _ {K V : Type 0} {eq : K → K → Bool} (laws : IsEquivalence eq) (E : V → V → Bool)
    (es fs : List (K × V)) (place : ℕ) (k : K) (v : V) (unique : HasUniqueKeys eq es)
    (at : slice_get es place ≡ Some (k, v)) {is : Bool}
    (compared : is ≡ option_eq E (Some v) (lookup (eq k) fs)) where
  abbrev test : K → Bool
  test q = option_eq E (lookup (eq q) es) (lookup (eq q) fs)

  here : test k ≡ is
  here = ap (λ o. option_eq E o (lookup (eq k) fs)) (lookup_from_place laws es place k v unique at)
      ∙ sym compared

  differ : is ≡ false → false ≡ list_all test (keys_of es)
  differ e = sym (one_fails test es place k v at (here ∙ e))

  agree : list_all test (keys_of (take place es)) ≡ true → is ≡ true
      → list_all test (keys_of (take (place + 1) es)) ≡ true
  agree so_far e = one_more_passes test es place k v at so_far (here ∙ e)

pub returns-then-not-has_from : goal.returns-then-not-has_from
returns-then-not-has_from g c = differ g.met.K.Eq.laws g.V.PartialEq.eq c.args.self.now c.args.other.now
    c.loop-place.place c.in-Some.key.now c.in-Some.value.now c.len-place-end.ensures.unique
    (sym c.in-Some.ensures.entry) c.has_from.ensures c.if-not-has_from.true

pub loop-place-preserved : goal.loop-place-preserved
loop-place-preserved g c = agree g.met.K.Eq.laws g.V.PartialEq.eq c.args.self.now c.args.other.now
    c.loop-place.place c.in-Some.key.now c.in-Some.value.now c.len-place-end.ensures.unique
    (sym c.in-Some.ensures.entry) c.has_from.ensures c.loop-place.invariant
    c.if-not-has_from.false
