-- What names mean among directive definitions with one more, and tables that hold it.
use Rattle.apollo_meaning.proofs as meaning
use meaning.Prelude.{arith, ◌≡◌, ℕ, Bool, true, false, cond, ◌&&◌, List, [], ◌∷◌, ◌++◌, filter, Option, Some}
use meaning.Prelude.{None, is_some, refl, sym, ap, ◌∙◌, find, list_any, lookup, keys_of, set_value}
use meaning.Prelude.{IsEquivalence, on_equiv, nat_list_eq_equiv, map-append, keys-set_value, insert_entry}
use meaning.Prelude.{NameView, NodeView, is_built_in, same_text, same, by_text, DirectiveDefinition}
use meaning.Prelude.{first_of_each, list_any-first_of_each, first_of_each-push_new, first_of_each-push_old}
use meaning.Prelude.{is_some-lookup, Directives, AreDirectivesOf, or-none, same-true}
use Rattle.std.specs.List.{last_or}
use Rattle.std.proofs.lemmas.Bool.{and_right}
use Rattle.std.proofs.lemmas.List.Folds.{find-append}
use Rattle.apollo_component.proofs.Lists.Cases.{found-passes, list_any-map}
use Rattle.apollo_component.proofs.Lists.Ends.{filter-push_dropped, filter-push_kept}
use Rattle.apollo_meaning.specs.declared.build_error.BuildError.TheVariants as errors
use Rattle.apollo_meaning.specs.Directives.{has_text, is_handed_in, directive_of, directive_names}
use Rattle.apollo_meaning.specs.Faults.OtherFaults.{directive_faults}
use Rattle.apollo_folding.proofs.NameTables.{lookup-put, keys-put, lookup-write}

last_or-push : {X : Type 0} (o : Option X) (xs : List X) (x : X) → last_or o (xs ++ x ∷ []) ≡ Some x
last_or-push o [] x = refl
last_or-push o (y ∷ ys) x = last_or-push (Some y) ys x

-- where nothing passes both tests, the last that passes one fails the other
last_or-fails : {X : Type 0} (p q : X → Bool) (o : Option X) (xs : List X) (v : X)
    → find (λ x. p x && q x) xs ≡ None → (o ≡ Some v → q v ≡ false) → last_or o (filter p xs) ≡ Some v
    → q v ≡ false
last_or-fails p q o [] v none start last = start last
last_or-fails p q o (x ∷ xs) v none start last =
    grind (arith, last_or-fails p q (Some x) xs v, last_or-fails p q o xs v)

-- a definition of the name that is handed in
abbrev handed : List ℕ → NodeView DirectiveDefinition → Bool
handed n d = has_text n d && is_handed_in d

module _ (ds : Directives) (n : List ℕ) where
  unknown_unhanded : directive_of ds n ≡ None → find (handed n) ds ≡ None
  unknown_unhanded none = grind (arith, none)

  -- a name that means a built-in definition has none that is handed in
  built_in_unhanded : (v : NodeView DirectiveDefinition) → directive_of ds n ≡ Some v
      → is_built_in v.location ≡ true → find (handed n) ds ≡ None
  built_in_unhanded v here built_in =
      grind (arith, found-passes (handed n) ds v, and_right (has_text n v) (is_handed_in v))

  -- and each other is the first that is handed in
  handed_is : (v : NodeView DirectiveDefinition) → directive_of ds n ≡ Some v → is_built_in v.location ≡ false
      → find (handed n) ds ≡ Some v
  handed_is v here handed_in = grind (arith, last_or-fails (has_text n) is_handed_in None ds v)

module _ (ds : Directives) (d : NodeView DirectiveDefinition) (n : List ℕ) where
  -- one of another name changes nothing
  directive_of-other : same n d.value.name.text ≡ false → directive_of (ds ++ d ∷ []) n ≡ directive_of ds n
  directive_of-other apart = rw (find-append, filter-push_dropped (has_text n) ds d apart, apart, or-none)

  -- one after the first that is handed in changes nothing
  directive_of-kept : (k : NodeView DirectiveDefinition) → find (handed n) ds ≡ Some k
      → directive_of (ds ++ d ∷ []) n ≡ directive_of ds n
  directive_of-kept k some = rw (find-append, some)

  -- one before any that is handed in is what its name means
  directive_of-taken : find (handed n) ds ≡ None → same n d.value.name.text ≡ true
      → directive_of (ds ++ d ∷ []) n ≡ Some d
  directive_of-taken none own = grind (
    arith,
    find-append (handed n) ds (d ∷ []),
    filter-push_kept (has_text n) ds d own,
    last_or-push None (filter (has_text n) ds) d,
  )

abbrev same_name : NodeView DirectiveDefinition → NodeView DirectiveDefinition → Bool
same_name a b = same_text a.value.name b.value.name

by_name : IsEquivalence same_name
by_name = on_equiv (λ d. d.value.name.text) nat_list_eq_equiv

module _ {ds : Directives} {table : List (NameView × NodeView DirectiveDefinition)}
    (was : AreDirectivesOf ds table) (d : NodeView DirectiveDefinition) where
  known : is_some (lookup (by_text d.value.name.text) table) ≡ list_any (same_name d) ds
  known = grind (
    arith,
    is_some-lookup (by_text d.value.name.text) table,
    list_any-map (by_text d.value.name.text) (λ e. e.0) table,
    was.names,
    list_any-map (by_text d.value.name.text) (λ e. e.value.name) (first_of_each same_name ds),
    list_any-first_of_each same_name by_name d ds,
  )

  names-new : is_some (lookup (by_text d.value.name.text) table) ≡ false
      → keys_of table ++ d.value.name ∷ [] ≡ directive_names (ds ++ d ∷ [])
  names-new absent = rw (
    was.names,
    first_of_each-push_new same_name by_name ds d (sym known ∙ absent),
    map-append,
  )

  names-again : is_some (lookup (by_text d.value.name.text) table) ≡ true
      → keys_of table ≡ directive_names (ds ++ d ∷ [])
  names-again there = rw (first_of_each-push_old same_name by_name ds d (sym known ∙ there)) was.names

  each-taken : find (handed d.value.name.text) ds ≡ None → (n : List ℕ)
      → cond (same n d.value.name.text) (Some d) (lookup (by_text n) table) ≡ directive_of (ds ++ d ∷ []) n
  each-taken none n = grind (
    arith,
    directive_of-taken ds d n,
    directive_of-other ds d n,
    was.each n,
    same-true n d.value.name.text,
  )

  -- the first of a name goes last
  pub AreDirectivesOf-put : lookup (by_text d.value.name.text) table ≡ None
      → AreDirectivesOf (ds ++ d ∷ []) (insert_entry same_text table d.value.name d)
  AreDirectivesOf-put absent = record {
    names = keys-put table d.value.name d (ap is_some absent) ∙ names-new (ap is_some absent);
    each = λ n. lookup-put n table d.value.name d
        ∙ each-taken (unknown_unhanded ds d.value.name.text (sym (was.each d.value.name.text) ∙ absent)) n;
  }

  pub directive_faults-put : lookup (by_text d.value.name.text) table ≡ None → directive_faults ds d ≡ []
  directive_faults-put absent = rw (unknown_unhanded ds d.value.name.text (sym (was.each d.value.name.text)
      ∙ absent))

  module _ (v : NodeView DirectiveDefinition) (there : lookup (by_text d.value.name.text) table
      ≡ Some v) where
    means : directive_of ds d.value.name.text ≡ Some v
    means = sym (was.each d.value.name.text) ∙ there

    -- a built-in one is replaced, at its place
    pub AreDirectivesOf-replace : is_built_in v.location ≡ true
        → AreDirectivesOf (ds ++ d ∷ []) (set_value (by_text d.value.name.text) table d)
    AreDirectivesOf-replace built_in = record {
      names = keys-set_value (by_text d.value.name.text) table d ∙ names-again (ap is_some there);
      each = λ n. lookup-write n d.value.name.text table v d there
          ∙ each-taken (built_in_unhanded ds d.value.name.text v means built_in) n;
    }

    pub directive_faults-replace : is_built_in v.location ≡ true → directive_faults ds d ≡ []
    directive_faults-replace built_in = rw (built_in_unhanded ds d.value.name.text v means built_in)

    -- after one that is handed in, a further one is dropped
    pub AreDirectivesOf-drop : is_built_in v.location ≡ false → AreDirectivesOf (ds ++ d ∷ []) table
    AreDirectivesOf-drop handed_in = record {
      names = names-again (ap is_some there);
      each = λ n. was.each n ∙ sym (each-kept n);
    }
      where
        each-kept : (n : List ℕ) → directive_of (ds ++ d ∷ []) n ≡ directive_of ds n
        each-kept n = grind (
          arith,
          directive_of-kept ds d n v,
          directive_of-other ds d n,
          handed_is ds d.value.name.text v means handed_in,
          same-true n d.value.name.text,
        )

    pub directive_faults-drop : is_built_in v.location ≡ false
        → directive_faults ds d
        ≡ (d.value.name.location, errors.DirectiveDefinitionCollision v.value.name.location d.value.name) ∷ []
    directive_faults-drop handed_in = rw (handed_is ds d.value.name.text v means handed_in)
