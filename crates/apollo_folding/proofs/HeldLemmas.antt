-- What waits under names after a table of waiting lists was written.
use Rattle.apollo_meaning.proofs.Prelude.{arith, ◌≡◌, ℕ, Bool, cond, List, [], ◌∷◌, ◌++◌, Option}
use Rattle.apollo_meaning.proofs.Prelude.{Some, None, lookup, set_value, map-append}
use Rattle.apollo_meaning.proofs.Prelude.{insert_entry, NameView, same_text, same, by_text, Definition}
use Rattle.apollo_meaning.proofs.Prelude.{item_of, items_of, items_held, same-true}
use Rattle.apollo_folding.proofs.NameTables.{lookup-put, lookup-write}

held-cond : (b : Bool) (v : List Definition) (o : Option (List Definition))
    → items_held (cond b (Some v) o) ≡ cond b (items_of v) (items_held o)
held-cond b v o = grind arith

module _ (n m : List ℕ) (es : List (NameView × List Definition)) (v : List Definition)
    (there : lookup (by_text m) es ≡ Some v) where
  pub held-write : (w : List Definition)
      → items_held (lookup (by_text n) (set_value (by_text m) es w)) ≡ cond (same n m) (items_of w)
      (items_held (lookup (by_text n) es))
  held-write w = rw (lookup-write n m es v w there) (held-cond (same n m) w _)

  -- one more at the end of what waits
  pub held-write_more : (x : Definition)
      → items_held (lookup (by_text n) (set_value (by_text m) es (v ++ x ∷ []))) ≡ cond (same n m)
      (items_held (lookup (by_text n) es) ++ item_of x ∷ []) (items_held (lookup (by_text n) es))
  held-write_more x = grind (arith, held-write (v ++ x ∷ []), same-true n m, map-append item_of v (x ∷ []))

-- the first that waits under a name
pub held-put : (n : List ℕ) (es : List (NameView × List Definition)) (k : NameView) (x : Definition)
    → lookup (by_text k.text) es ≡ None
    → items_held (lookup (by_text n) (insert_entry same_text es k (x ∷ []))) ≡ cond (same n k.text)
    (items_held (lookup (by_text n) es) ++ item_of x ∷ []) (items_held (lookup (by_text n) es))
held-put n es k x none = grind (arith, lookup-put n es k (x ∷ []), same-true n k.text)
