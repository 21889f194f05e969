-- Tables under names, looked up by text.
use Rattle.apollo_meaning.proofs.Prelude.{arith, ◌≡◌, ℕ, false, cond, List, [], ◌∷◌, ◌++◌, Some}
use Rattle.apollo_meaning.proofs.Prelude.{None, is_some, refl, sym, ap, ◌∙◌, lookup, lookup_key}
use Rattle.apollo_meaning.proofs.Prelude.{keys_of, set_value, on_equiv, nat_list_eq_equiv, map-append}
use Rattle.apollo_meaning.proofs.Prelude.{insert_entry, NameView, same_text, same, by_text, is_some-lookup}
use Rattle.apollo_meaning.proofs.Prelude.{same-true, same-is, same-flip, IsSome}
use Rattle.std.proofs.lemmas.Map.{lookup-set_value}
use Rattle.apollo_component.proofs.FirstOfEachLemmas.{insert_entry-last}

module _ {V : Type 0} where
  -- an entry that is put is found under its text, and each other as before
  pub lookup-put : (n : List ℕ) (es : List (NameView × V)) (k : NameView) (v : V)
      → lookup (by_text n) (insert_entry same_text es k v) ≡ cond (same n k.text) (Some v)
      (lookup (by_text n) es)
  lookup-put n [] k v = refl
  lookup-put n (e ∷ es) k v =
      grind (arith, lookup-put n es k v, same-true k.text e.0.text, same-true n k.text, same-true n e.0.text)

  -- what stood under a name, put back there, leaves the entries as they were
  pub put-back : (es : List (NameView × V)) (n : NameView) (v kept : V) → lookup (same_text n) es ≡ Some kept
      → insert_entry same_text (insert_entry same_text es n v) n kept ≡ es
  put-back [] n v kept there = cc
  put-back (e ∷ es) n v kept there = grind (arith, put-back es n v kept)

  -- a name has a key where it has a value
  pub key-there : (n : NameView) (es : List (NameView × V))
      → is_some (lookup_key (same_text n) es) ≡ is_some (lookup (same_text n) es)
  key-there n [] = refl
  key-there n (e ∷ es) = grind (arith, key-there n es)

  -- a new name goes last
  pub keys-put : (es : List (NameView × V)) (k : NameView) (v : V)
      → is_some (lookup (by_text k.text) es) ≡ false
      → keys_of (insert_entry same_text es k v) ≡ keys_of es ++ k ∷ []
  keys-put es k v absent =
      rw (insert_entry-last same_text es k v (sym (is_some-lookup _ es) ∙ absent), map-append)

  -- a value that is written is found under its text, and each other as before
  pub lookup-write : (n m : List ℕ) (es : List (NameView × V)) (v w : V) → lookup (by_text m) es ≡ Some v
      → lookup (by_text n) (set_value (by_text m) es w) ≡ cond (same n m) (Some w) (lookup (by_text n) es)
  lookup-write n m es v w there =
      let q : NameView = record { text = n; location = None } in
      let found : IsSome (lookup (by_text m) es) = ap is_some there in
      lookup-set_value (on_equiv (λ (x : NameView). x.text) nat_list_eq_equiv) (by_text m)
      (λ x y h. ap (λ (t : List ℕ). same t y.text) (same-true m x.text h)) q w es found
      ∙ ap (λ c. cond c (Some w) (lookup (by_text n) es)) (same-swap m n)
    where
      same-swap : (a b : List ℕ) → same a b ≡ same b a
      same-swap a b = grind (arith, same-flip a b, same-is, same-true)
