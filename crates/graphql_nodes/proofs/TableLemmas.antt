-- What the proofs of tables cite.
use Rattle.std.proofs.Common.{◌≡◌, ℕ, zero, suc, List, [], ◌∷◌, Option, None, Some, IfSome, MutBor, slice_get}
use Rattle.std.proofs.Common.{unwrap_or, sym, refl, ap}
use Rattle.std.specs.Option.{option_copied_mut}
use Rattle.std.proofs.Common.{Bor}
use Rattle.std.specs.Cmp.{IsEquivalence}
use Rattle.std.specs.Map.Iter.{deref_pair}
use Rattle.std.specs.Option.{option_map}
use Rattle.std.proofs.lemmas.Map.Entries.{entries_from_clone, lookup_from_place}
use Rattle.std.proofs.lemmas.Map.Steps.{set_value_same}
use Rattle.graphql_nodes.specs.Tables.{AreClones, HasUniqueKeys, IsTableClone, keys_of, lookup, values_of}
use Rattle.graphql_nodes.specs.Tables.{set_value, set_value_at}
use Rattle.std.specs.Prelude.{Bool, zip}

-- exact clones of the keys and values make an exact clone of the entries
pub exact_clones : {K V : Type 0} (C : K → K → Type 0) (D : V → V → Type 0) (es fs : List (K × V))
    → AreClones C D es fs → IsTableClone C D es fs
exact_clones C D es fs h = (h, λ c d. entries_from_clone C D c d es fs h)

-- what a look-up lends leaves the entries as they are, if it is not written
pub as_found : {K V : Type 0} (test : K → Bool) (es : List (K × V)) (r : Option (MutBor V))
    → option_copied_mut r ≡ lookup test es → IfSome r (λ x. set_value test es x.now ≡ es)
as_found test es None h = tt
as_found test es (Some x) h = set_value_same test es x.now (sym h)

-- a value that stands at a place, written there again, changes nothing
set_same : {K V : Type 0} (es : List (K × V)) (place : ℕ) (value : V)
    → slice_get (values_of es) place ≡ Some value → set_value_at es place value ≡ es
set_same [] place value found = refl
set_same (e ∷ es) zero value found = ap (λ v. (e.0, v) ∷ es) (sym (ap (λ o. unwrap_or o value) found))
set_same (e ∷ es) (suc place) value found = ap (λ rest. e ∷ rest) (set_same es place value found)

-- nor does what is lent by its place
pub as_found_at : {K V : Type 0} (es : List (K × V)) (place : ℕ) (r : Option (MutBor V))
    → option_copied_mut r ≡ slice_get (values_of es) place → IfSome r (λ x. set_value_at es place x.now ≡ es)
as_found_at es place None h = tt
as_found_at es place (Some x) h = set_same es place x.now (sym h)

-- where keys are unique, a look-up by the key of an entry finds its value
pub key_finds : {K V : Type 0} {eq : K → K → Bool} → IsEquivalence eq → (es : List (K × V)) (place : ℕ)
    (r : Option (Bor K × Bor V)) → HasUniqueKeys eq es → option_map deref_pair r ≡ slice_get es place
    → IfSome r (λ e. lookup (eq e.0.now) es ≡ Some e.1.now)
key_finds laws es place None unique at = tt
key_finds laws es place (Some e) unique at = lookup_from_place laws es place _ _ unique (sym at)

-- the entries of a table are its keys beside its values
pub as_columns : {K V : Type 0} (es : List (K × V)) → zip (keys_of es) (values_of es) ≡ es
as_columns [] = refl
as_columns (e ∷ es) = ap (λ rest. e ∷ rest) (as_columns es)
