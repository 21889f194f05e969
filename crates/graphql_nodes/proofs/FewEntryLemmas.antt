-- What the two lists of a `FewEntries` are to its entries.
use Rattle.std.proofs.Common.{◌≡◌, ℕ, zero, suc, ◌+◌, ◌<◌, ◌^◌, Bool, true, false, not, cond, ◌||◌}
use Rattle.std.proofs.Common.{List, [], ◌∷◌, ◌++◌, Option, None, Some, Result, Ok, Err, OnErr}
use Rattle.std.proofs.Common.{MutBor, length, get_or, set, position, slice_get, remove}
use Rattle.std.proofs.Common.{append_assoc, true≢false, refl, sym, ap, ◌∙◌, subst, arith}
use Rattle.std.specs.Cmp.{IsEquivalence, first_so, second_so}
use lib.Pointwise.{pointwise, pointwise_long}
use Rattle.std.specs.Prelude.{Vec}
use Rattle.std.specs.List.{zip, IsDistinct, AllByRecursion, position_or_len, list_any, AllZip, IsItemAtMut}
use Rattle.std.specs.Option.{option_map, option_copied_mut}
use Rattle.std.proofs.lemmas.List.{length_push, map-append, append-nil}
use Rattle.std.proofs.lemmas.List.Edits.{length-remove}
use Rattle.std.proofs.lemmas.Map.Keys.{IsDistinct-push}
use Rattle.std.proofs.lemmas.Map.Made.{keys_of-zip}
use Rattle.std.proofs.lemmas.Option.{slice_get-map, slice_get-get_or, slice_get_past}
use Rattle.std.proofs.lemmas.Slice.Zip.{length-zip, AllZip-long}
use Rattle.indexmap.proofs.MapLemmas.{Found-position, Missing-position, absent_before, absent_from_lookup}
use Rattle.indexmap.proofs.MapLemmas.{insert_entry-absent}
use Rattle.indexmap.proofs.RemoveLemmas.{shift_out}
use Rattle.indexmap.proofs.SetLemmas.{map-remove}
use Rattle.std.proofs.Math.ListN.{length-map}
use Rattle.graphql_nodes.specs.Tables.{keys_of, values_of, lookup, lookup_key, set_value, set_value_at}
use Rattle.graphql_nodes.specs.Tables.{remove_entry, insert_all, HasUniqueKeys, AreClones}

module _ {K V : Type 0} where
  -- the values of entries made of as many keys and values are those
  values_of-zip : (ks : List K) (vs : List V) → length vs ≡ length ks → values_of (zip ks vs) ≡ vs
  values_of-zip [] [] e = refl
  values_of-zip [] (v ∷ vs) e = absurd (omega arith)
  values_of-zip (k ∷ ks) [] e = refl
  values_of-zip (k ∷ ks) (v ∷ vs) e = ap (λ l. v ∷ l) (values_of-zip ks vs (omega arith))

  -- a value that is set in its list is set in the entries
  pub zip-set_value : (ks : List K) (vs : List V) (i : ℕ) (v : V)
      → zip ks (set vs i v) ≡ set_value_at (zip ks vs) i v
  zip-set_value [] vs i v = refl
  zip-set_value (x ∷ ks) [] i v = refl
  zip-set_value (x ∷ ks) (y ∷ vs) zero v = refl
  zip-set_value (x ∷ ks) (y ∷ vs) (suc i) v = ap (λ l. (x, y) ∷ l) (zip-set_value ks vs i v)

  -- an index that is removed from both lists is removed from the entries
  pub zip-remove : (ks : List K) (vs : List V) (i : ℕ) → length vs ≡ length ks
      → zip (remove ks i) (remove vs i) ≡ remove (zip ks vs) i
  zip-remove [] [] zero e = refl
  zip-remove [] [] (suc i) e = refl
  zip-remove [] (y ∷ vs) i e = absurd (omega arith)
  zip-remove (x ∷ ks) [] i e = absurd (omega arith)
  zip-remove (x ∷ ks) (y ∷ vs) zero e = refl
  zip-remove (x ∷ ks) (y ∷ vs) (suc i) e = ap (λ l. (x, y) ∷ l) (zip-remove ks vs i (omega arith))

  -- a new value at a place leaves the keys as they are
  pub keys-set_value_at : (es : List (K × V)) (i : ℕ) (v : V) → keys_of (set_value_at es i v) ≡ keys_of es
  keys-set_value_at [] i v = refl
  keys-set_value_at (e ∷ es) zero v = refl
  keys-set_value_at (e ∷ es) (suc i) v = ap (λ l. e.0 ∷ l) (keys-set_value_at es i v)

  module _ (t : K → Bool) where
    -- a write at the first key that passes is one at its place
    pub set_first : (es : List (K × V)) (v : V)
        → set_value_at es (position_or_len t (keys_of es)) v ≡ set_value t es v
    set_first [] v = refl
    set_first (e ∷ es) v =
        let n = position_or_len t (keys_of es) in
        let more : 1 + n ≡ suc n = omega arith in
        let later = ap (λ m. set_value_at (e ∷ es) m v) more ∙ ap (λ l. e ∷ l) (set_first es v) in
        elim (t e.0) as (λ b. set_value_at (e ∷ es) (cond (not b) (1 + n) 0) v
        ≡ cond b ((e.0, v) ∷ es) (e ∷ set_value t es v)) [ true ↦ refl | false ↦ later ]

    -- where no key passes, nothing is removed
    pub remove_none : (es : List (K × V)) → AllByRecursion (λ k. t k ≡ false) (keys_of es)
        → es ≡ remove_entry t es
    remove_none [] h = refl
    remove_none (e ∷ es) h = sym (ap (λ b. cond b es (e ∷ remove_entry t es)) h.0
        ∙ ap (λ l. e ∷ l) (sym (remove_none es h.1)))

    -- where no key passes, no value is set
    pub set_none : (es : List (K × V)) (v : V) → AllByRecursion (λ k. t k ≡ false) (keys_of es)
        → es ≡ set_value t es v
    set_none [] v h = refl
    set_none (e ∷ es) v h = sym (ap (λ b. cond b ((e.0, v) ∷ es) (e ∷ set_value t es v)) h.0
        ∙ ap (λ l. e ∷ l) (sym (set_none es v h.1)))

    module _ (es : List (K × V)) (i : ℕ) (at : position t (keys_of es) ≡ Some i) where
      -- the entry at the place of a key has the key that a look-up finds
      pub key_there : (e : K × V) → slice_get es i ≡ Some e → lookup_key t es ≡ Some e.0
      key_there e there =
          (Found-position t es i at).key ∙ slice_get-map (λ p. p.0) es i ∙ ap (option_map (λ p. p.0)) there

      -- and its value
      pub value_there : (e : K × V) → slice_get es i ≡ Some e → lookup t es ≡ Some e.1
      value_there e there =
          (Found-position t es i at).value ∙ slice_get-map (λ p. p.1) es i ∙ ap (option_map (λ p. p.1)) there

      -- there is an entry
      pub some_there : slice_get es i ≡ None → ⊥
      some_there none = past es i (Found-position t es i at).within none
        where
          past : (fs : List (K × V)) (j : ℕ) → j < length fs → slice_get fs j ≡ None → ⊥
          past [] j within e = omega arith
          past (f ∷ fs) zero within e = cc
          past (f ∷ fs) (suc j) within e = past fs j (omega arith) e

      -- a write at its place is one at the key
      pub set_there : (v : V) → set_value_at es i v ≡ set_value t es v
      set_there v = ap (λ n. set_value_at es n v) (sym (Found-position t es i at).or_len) ∙ set_first es v

module _ {K V Z : Type 0} where
  -- what `columns` says
  pub record Columns (ks : Vec K Z) (vs : Vec V Z) (es : List (K × V)) : Type 0 where
    pub entries : zip ks.items vs.items ≡ es
    pub keys : ks.items ≡ keys_of es
    pub values : vs.items ≡ values_of es
    pub keys_len : ks.len ≡ length es
    pub values_len : vs.len ≡ length es
    pub small : length es < 2 ^ 63

  -- from the view's equation and the lengths
  pub columns : (ks : Vec K Z) (vs : Vec V Z) (es : List (K × V)) → zip ks.items vs.items ≡ es
      → length vs.items ≡ length ks.items → Columns ks vs es
  columns ks vs es e even =
      let n : length ks.items ≡ length es = omega (arith, length-zip ks.items vs.items, ap length e, even) in
      record {
        entries = e;
        keys = sym (keys_of-zip ks.items vs.items even) ∙ ap keys_of e;
        values = sym (values_of-zip ks.items vs.items even) ∙ ap values_of e;
        keys_len = ks.ok.0 ∙ n;
        values_len = vs.ok.0 ∙ even ∙ n;
        small = omega (arith, n, ks.ok.0, ks.ok.1, ks.small);
      }

-- what an item that is read from its place is to `slice_get`
pub got_at : {X : Type 0} (xs : List X) (i : ℕ) (x : X) → i < length xs → x ≡ get_or xs i x
    → slice_get xs i ≡ Some x
got_at xs i x within is = slice_get-get_or xs i x within ∙ ap Some (sym is)

-- what a list lends at a place is what stands there
pub lent_at : {X : Type 0} (xs : List X) (i : ℕ) (r : Option (MutBor X)) → IsItemAtMut xs i r
    → option_copied_mut r ≡ slice_get xs i
lent_at xs i None item = sym (slice_get_past xs i item.3)
lent_at xs i (Some x) item = sym (got_at xs i x.now item.3.0 item.1)

-- what holds in any case holds on an error
pub on_err : {X E : Type 0} {P : Type 0} (r : Result X E) → P → OnErr r P
on_err (Ok x) p = tt
on_err (Err e) p = p

-- where no item passes, `any` is false
none_passes : {X : Type 0} (t : X → Bool) (xs : List X) → AllByRecursion (λ x. t x ≡ false) xs
    → list_any t xs ≡ false
none_passes t [] h = refl
none_passes t (x ∷ xs) h = ap (λ b. b || list_any t xs) h.0 ∙ none_passes t xs h.1

-- where the denial is false, it is so
not_false : (b : Bool) → not b ≡ false → b ≡ true
not_false true h = refl
not_false false h = absurd (true≢false h)

module _ {K : Type 0} (eq : K → K → Bool) (laws : IsEquivalence eq) where
  -- a key that is apart from keys is apart from keys equal to them
  equal_apart : (x y : K) → eq x y ≡ true → (xs ys : List K) → pointwise eq xs ys ≡ true
      → AllByRecursion (λ k. eq y k ≡ false) ys → AllByRecursion (λ k. eq x k ≡ false) xs
  equal_apart x y e [] ys h a = tt
  equal_apart x y e (u ∷ xs) [] h a = absurd (true≢false (sym h))
  equal_apart x y e (u ∷ xs) (v ∷ ys) h a =
      let first = first_so (eq u v) _ h in
      let rest = second_so (eq u v) _ h in (
        laws.congr x y u e ∙ laws.symm y u ∙ laws.congr u v y first ∙ laws.symm v y ∙ a.0,
        equal_apart x y e xs ys rest a.1,
      )

  -- keys that are equal to unique ones are unique
  equal_distinct : (xs ys : List K) → pointwise eq xs ys ≡ true → IsDistinct eq ys → IsDistinct eq xs
  unfolding IsDistinct
  equal_distinct [] ys h d = tt
  equal_distinct (x ∷ xs) [] h d = absurd (true≢false (sym h))
  equal_distinct (x ∷ xs) (y ∷ ys) h d =
      let rest = second_so (eq x y) _ h in
      (equal_apart x y (first_so (eq x y) _ h) xs ys rest d.0, equal_distinct xs ys rest d.1)

module _ {K V : Type 0} (eq : K → K → Bool) where
  -- what the invariant says of two lists
  abbrev pub AreColumns : List K → List V → Type 0
  AreColumns ks vs = (length vs ≡ length ks) × IsDistinct eq ks

  -- it holds of lists without items
  pub no_columns : (ks : List K) (vs : List V) → ks ≡ [] → vs ≡ [] → AreColumns ks vs
  unfolding IsDistinct
  no_columns ks vs p q = (ap length q ∙ sym (ap length p), subst (IsDistinct eq) (sym p) tt)

  -- a new value at a place leaves the keys unique
  pub unique_set : (es fs : List (K × V)) (i : ℕ) (v : V) → fs ≡ set_value_at es i v → HasUniqueKeys eq es
      → HasUniqueKeys eq fs
  unique_set es fs i v e = subst (IsDistinct eq) (sym (ap keys_of e ∙ keys-set_value_at es i v))

  module _ (laws : IsEquivalence eq) where
    -- so does a new key, among the keys
    unique_more : (es : List (K × V)) (k : K) → position (eq k) (keys_of es) ≡ None → HasUniqueKeys eq es
        → IsDistinct eq (keys_of es ++ k ∷ [])
    unique_more es k at unique =
        let absent = (Missing-position (eq k) es at).absent in
        IsDistinct-push laws (keys_of es) k unique (none_passes (eq k) _ absent)

    -- and the invariant holds of the lists with one more item
    pub pushed : (ks ls : List K) (vs ws : List V) (es : List (K × V)) (k : K) (v : V) → AreColumns ks vs
        → ks ≡ keys_of es → ls ≡ ks ++ k ∷ [] → ws ≡ vs ++ v ∷ [] → position (eq k) (keys_of es) ≡ None
        → AreColumns ls ws
    pushed ks ls vs ws es k v c keys p q at = (
      ap length q ∙ length_push vs v ∙ ap (λ n. n + 1) c.0 ∙ sym (ap length p ∙ length_push ks k),
      subst (IsDistinct eq) (ap (λ l. l ++ k ∷ []) (sym keys) ∙ sym p)
          (unique_more es k at (subst (IsDistinct eq) keys c.1)),
    )

    -- a new entry leaves the keys unique
    pub unique_push : (es fs : List (K × V)) (k : K) (v : V) → position (eq k) (keys_of es) ≡ None
        → fs ≡ es ++ (k, v) ∷ [] → HasUniqueKeys eq es → HasUniqueKeys eq fs
    unique_push es fs k v at e unique =
        subst (IsDistinct eq) (sym (ap keys_of e ∙ map-append (λ p. p.0) es ((k, v) ∷ [])))
        (unique_more es k at unique)

    -- the invariant holds of equal keys and as many values
    pub cloned : (D : V → V → Type 0) (ks ls : List K) (vs ws : List V) → AreColumns ks vs
        → not (pointwise eq ls ks) ≡ false → AllZip D vs ws → AreColumns ls ws
    cloned D ks ls vs ws c same clones =
        let equal : pointwise eq ls ks ≡ true = not_false _ same in (
          omega (arith, c.0, AllZip-long D vs ws clones, pointwise_long eq ls ks equal),
          equal_distinct eq laws ls ks equal c.1,
        )

    -- the invariant holds of the lists without the item at the place of a key
    pub removed : (key : K) (ks ls : List K) (vs ws : List V) (es : List (K × V)) (i : ℕ) (d : K × V)
        → AreColumns ks vs → ks ≡ keys_of es → position (eq key) (keys_of es) ≡ Some i → ls ≡ remove ks i
        → ws ≡ remove vs i → AreColumns ls ws
    removed key ks ls vs ws es i d c keys at p q =
        let f = Found-position (eq key) es i at in
        let there = slice_get-get_or es i d f.within in
        let unique = subst (IsDistinct eq) keys c.1 in
        let out = shift_out eq laws (eq key) (laws.congr key) es i _ at there unique (remove es i) refl in
        let n : length ks ≡ length es = ap length keys ∙ length-map es (λ e. e.0) in
        let within : i < length ks = omega (arith, n, f.within) in
        let same : keys_of (remove es i) ≡ ls =
        map-remove (λ e. e.0) es i ∙ ap (λ l. remove l i) (sym keys) ∙ sym p in
        let even : length ws ≡ length ls = omega (
          arith,
          c.0,
          ap length p,
          ap length q,
          length-remove ks i within,
          length-remove vs i (omega arith),
        ) in
        (even, subst (IsDistinct eq) same out.unique)

    -- entries with unique keys, inserted in turn after others, stand there in order
    pub insert_apart : (done rest : List (K × V)) → HasUniqueKeys eq (done ++ rest)
        → insert_all eq done rest ≡ done ++ rest
    insert_apart done [] unique = sym (append-nil done)
    insert_apart done (e ∷ rest) unique =
        let absent = absent_from_lookup (eq e.0) done (absent_before laws done rest e unique) in
        let moved = append_assoc done (e ∷ []) rest in
        ap (λ l. insert_all eq l rest) (insert_entry-absent eq e.0 e.1 done absent)
        ∙ insert_apart (done ++ e ∷ []) rest (subst (HasUniqueKeys eq) (sym moved) unique) ∙ moved

module _ {K V : Type 0} (C : K → K → Type 0) (D : V → V → Type 0) where
  -- clones of the keys and of the values are clones of the entries
  pub clones_zip : (ks ls : List K) (vs ws : List V) → AllZip C ks ls → AllZip D vs ws
      → AreClones C D (zip ks vs) (zip ls ws)
  clones_zip [] [] vs ws a b = a
  clones_zip [] (l ∷ ls) vs ws a b = absurd a
  clones_zip (k ∷ ks) [] vs ws a b = absurd a
  clones_zip (k ∷ ks) (l ∷ ls) [] [] a b = b
  clones_zip (k ∷ ks) (l ∷ ls) [] (w ∷ ws) a b = absurd b
  clones_zip (k ∷ ks) (l ∷ ls) (v ∷ vs) [] a b = absurd b
  clones_zip (k ∷ ks) (l ∷ ls) (v ∷ vs) (w ∷ ws) a b = ((a.0, b.0), clones_zip ks ls vs ws a.1 b.1)
