-- A list that has an anonymous operation first, then named ones, then fragments. Each name is there once, and
-- each is without a fault of its own. What the list keeps is all of it, and its faults are the ambiguities
-- alone.
use Rattle.std.proofs.Common.{arith, ◌≡◌, ◌∙◌, ap, refl, Bool, true, false, cond, not, List, [], ◌∷◌, ◌++◌}
use Rattle.std.proofs.Common.{map, Option, None, Some, option_map, is_some, append_assoc}
use Rattle.std.specs.Cmp.{IsEquivalence}
use Rattle.std.specs.List.{AllByRecursion, IsDistinct, flat_map, list_any}
use Rattle.std.proofs.lemmas.List.{append-nil}
use Rattle.std.proofs.lemmas.List.Folds.{list_any-append}
use Rattle.graphql_nodes.specs.NameView.{NameView}
use Rattle.graphql_nodes.specs.SameText.{same_text}
use Rattle.graphql_nodes.specs.Tables.{lookup_key}
use Rattle.graphql_nodes.specs.declared.source.SourceSpan.{SourceSpan}
use Rattle.graphql_ast.specs.declared.definition.Definition.TheVariants as d
use Rattle.apollo_component.specs.EachAfter.{each_after}
use Rattle.apollo_component.specs.FirstOfEach.{first_of_each, same_key}
use Rattle.apollo_component.proofs.Lists.EachAfter.{each_after-append}
use Rattle.apollo_component.proofs.FirstOfEachLemmas.{entry_laws}
use Rattle.apollo_schema.specs.declared.schema.Schema.{Schema}
use Rattle.apollo_document.specs.declared.selection_path.ExecutableDefinitionName.TheVariants.{AnonymousOperation}
use Rattle.apollo_document.specs.declared.selection_path.ExecutableDefinitionName.TheVariants.{NamedOperation}
use Rattle.apollo_document.specs.AddedDefinitions.{DocumentItem, operations, fragments}
use Rattle.apollo_document.specs.KeptDefinitions.{is_rooted, first_if_anonymous, kept_anonymous, kept_named}
use Rattle.apollo_document.specs.KeptDefinitions.{is_on_type, kept_fragments}
use Rattle.apollo_document.specs.DocumentFaults.{ambiguous_if, faults_in_operation, faults_in_fragment}
use Rattle.apollo_document.specs.DocumentFaults.{operation_faults, faults_at, document_faults}
use Rattle.apollo_document.proofs.ListLemmas.{some_key}
use Rattle.apollo_document.proofs.OperationLemmas.{Op, Frag, anonymous_of, named_of, named-none, named-kept}
use Rattle.apollo_document.proofs.OperationLemmas.{named-anonymous}
use Rattle.apollo_document.proofs.StandsLemmas.{operations-push, same_operations, same_fragments}
use Rattle.apollo_document.proofs.StandsLemmas.{kept_fragments-push}

-- an operation under its name, a fragment under its own, and an anonymous operation: nothing is wrong with
-- them
abbrev pub IsSoundOperation : Option Schema → NameView × Op → Type 0
IsSoundOperation s x = (x.1.value.name ≡ Some x.0)
    × ((is_rooted s x.1 ≡ true) × (faults_in_operation s (NamedOperation x.1.value.operation_type x.0) x.1
    ≡ []))

abbrev pub IsSoundFragment : Option Schema → NameView × Frag → Type 0
IsSoundFragment s x = (x.1.value.name ≡ x.0) × ((is_on_type s x.1 ≡ true) × (faults_in_fragment s x.1 ≡ []))

abbrev pub IsSoundIf : Option Schema → Option Op → Type 0
IsSoundIf s None = Unit {0}
IsSoundIf s (Some n) = (n.value.name ≡ None)
    × ((is_rooted s n ≡ true) × (faults_in_operation s (AnonymousOperation n.value.operation_type) n ≡ []))

abbrev pub operation_item : Bool → NameView × Op → DocumentItem
operation_item b x = (b, d.OperationDefinition x.1)

abbrev pub fragment_item : Bool → NameView × Frag → DocumentItem
fragment_item b x = (b, d.FragmentDefinition x.1)

abbrev pub anonymous_items : Bool → Option Op → List DocumentItem
anonymous_items b None = []
anonymous_items b (Some n) = (b, d.OperationDefinition n) ∷ []

abbrev pub written : Bool → Option Op → List (NameView × Op) → List (NameView × Frag) → List DocumentItem
written b a ns fs = (anonymous_items b a ++ map (operation_item b) ns) ++ map (fragment_item b) fs

abbrev kept_location : Option Op → Option (Option SourceSpan)
kept_location a = option_map (λ n. n.location) a

-- ---- names that are there so far

module _ {V : Type 0} where
  abbrev is_there : NameView × V → List (NameView × V) → Bool
  is_there x done = list_any (same_key same_text x) done

  -- no name of these is there so far
  abbrev Fresh : List (NameView × V) → List (NameView × V) → Type 0
  Fresh done rest = AllByRecursion (λ x. is_there x done ≡ false) rest

  none_there : (rest : List (NameView × V)) → Fresh [] rest
  none_there [] = tt
  none_there (x ∷ rest) = (refl, none_there rest)

  still_fresh : (done : List (NameView × V)) (y : NameView × V) (rest : List (NameView × V)) → Fresh done rest
      → AllByRecursion (λ x. same_key same_text y x ≡ false) rest → Fresh (done ++ y ∷ []) rest
  still_fresh done y [] f a = tt
  still_fresh done y (x ∷ rest) f a =
      let laws : IsEquivalence (same_key {V = V} same_text) = entry_laws in
      (rw (list_any-append, f.0, laws.symm x y, a.0) refl, still_fresh done y rest f.1 a.1)

  no_key : (x : NameView × V) (done : List (NameView × V)) → is_there x done ≡ false
      → lookup_key (same_text x.0) done ≡ None
  no_key x done h = grind (arith, some_key (same_text x.0) done, h)

module _ (s : Option Schema) (b : Bool) where
  -- ---- named operations

  -- the same list after more of it
  abbrev Keeps : List DocumentItem → Option Op → List (NameView × Op) → Type 0
  Keeps zs a done = (kept_anonymous s zs ≡ a) × (kept_named s zs ≡ done)

  module _ (zs : List DocumentItem) (a : Option Op) (done : List (NameView × Op)) (x : NameView
      × Op) (sound : IsSoundOperation s x) (fresh : is_there x done ≡ false) (k : Keeps zs a done) where
    -- one more
    keeps-push : Keeps (zs ++ operation_item b x ∷ []) a (done ++ x ∷ [])
    keeps-push =
        let p = is_rooted s in
        let more = operations-push zs _ in (
          ap (anonymous_of p) more ∙ named-anonymous p _ x.1 x.0 sound.0 ∙ k.0,
          ap (named_of p) more ∙ named-kept p _ x.1 x.0 sound.0 ∙ rw (k.1, sound.1.0, no_key x done fresh),
        )

    named_fault : faults_at s zs (operation_item b x) ≡ ambiguous_if (kept_location a)
    named_fault = rw (sound.0, k.0, k.1, no_key x done fresh, sound.1.1, append-nil)

  all_named : (zs : List DocumentItem) (a : Option Op) (done rest : List (NameView × Op))
      → AllByRecursion (IsSoundOperation s) rest → IsDistinct (same_key same_text) rest → Fresh done rest
      → Keeps zs a done
      → Keeps (zs ++ map (operation_item b) rest) a (done ++ rest) × (each_after (faults_at s) zs
      (map (operation_item b) rest) ≡ flat_map (λ x. ambiguous_if (kept_location a)) rest)
  unfolding IsDistinct
  all_named zs a done [] sound apart fresh k = (rw (append-nil zs, append-nil done) k, refl)
  all_named zs a done (x ∷ rest) sound apart fresh k =
      let next = all_named (zs ++ operation_item b x ∷ []) a _ rest sound.1 apart.1
      (still_fresh done x rest fresh.1 apart.0) (keeps-push zs a done x sound.0 fresh.0 k) in (
        rw (append_assoc zs _ _, append_assoc done (x ∷ []) rest) at next.0,
        λ i. named_fault zs a done x sound.0 fresh.0 k i ++ next.1 i,
      )

  -- ---- fragments

  module _ (zs : List DocumentItem) (done : List (NameView × Frag)) (x : NameView × Frag)
      (sound : IsSoundFragment s x) (fresh : is_there x done ≡ false) (k : kept_fragments s zs ≡ done) where
    -- one more
    fragments-push : kept_fragments s (zs ++ fragment_item b x ∷ []) ≡ done ++ x ∷ []
    fragments-push = kept_fragments-push s zs b x.1 ∙ rw (sound.0, k, sound.1.0, no_key x done fresh)

    fragment_fault : faults_at s zs (fragment_item b x) ≡ []
    fragment_fault = rw (sound.1.1, k, sound.0, no_key x done fresh)

  all_fragments : (zs : List DocumentItem) (done rest : List (NameView × Frag))
      → AllByRecursion (IsSoundFragment s) rest → IsDistinct (same_key same_text) rest → Fresh done rest
      → kept_fragments s zs ≡ done
      → (kept_fragments s (zs ++ map (fragment_item b) rest) ≡ done ++ rest)
      × (each_after (faults_at s) zs (map (fragment_item b) rest) ≡ [])
  unfolding IsDistinct
  all_fragments zs done [] sound apart fresh k = (rw (append-nil zs, append-nil done) k, refl)
  all_fragments zs done (x ∷ rest) sound apart fresh k =
      let next = all_fragments (zs ++ fragment_item b x ∷ []) _ rest sound.1 apart.1
      (still_fresh done x rest fresh.1 apart.0) (fragments-push zs done x sound.0 fresh.0 k) in (
        rw (append_assoc zs _ _, append_assoc done (x ∷ []) rest) at next.0,
        λ i. fragment_fault zs done x sound.0 fresh.0 k i ++ next.1 i,
      )

  -- operations say nothing of fragments, nor fragments of operations
  operations-fragments : (zs : List DocumentItem) (rest : List (NameView × Frag))
      → operations (zs ++ map (fragment_item b) rest) ≡ operations zs
  operations-fragments zs [] = rw append-nil
  operations-fragments zs (x ∷ rest) = rw (← append_assoc zs (fragment_item b x ∷ []) _)
      (operations-fragments (zs ++ fragment_item b x ∷ []) rest ∙ same_operations s zs _ refl)

  fragments-operations : (zs : List DocumentItem) (rest : List (NameView × Op))
      → kept_fragments s (zs ++ map (operation_item b) rest) ≡ kept_fragments s zs
  fragments-operations zs [] = rw append-nil
  fragments-operations zs (x ∷ rest) = rw (← append_assoc zs (operation_item b x ∷ []) _)
      (fragments-operations (zs ++ operation_item b x ∷ []) rest ∙ same_fragments s zs _ refl)

  -- ---- the whole list

  -- the anonymous operation alone
  first_kept : (a : Option Op) → IsSoundIf s a
      → Keeps (anonymous_items b a) a [] × (kept_fragments s (anonymous_items b a) ≡ [])
      × (document_faults s (anonymous_items b a) ≡ [])
  first_kept None sound = ((refl, refl), refl, refl)
  first_kept (Some n) sound = (
    (
      ap (λ c. first_if_anonymous (cond c (Some n) None)) sound.1.0
          ∙ ap (λ (o : Option NameView). cond (not (is_some o)) (Some n) None) sound.0,
      ap (first_of_each (same_key same_text)) (named-none _ n sound.0),
    ),
    refl,
    ap (λ l. l ++ []) (ap (operation_faults s [] n) sound.0 ∙ sound.1.1),
  )

  pub record AllKept (a : Option Op) (ns : List (NameView × Op)) (fs : List (NameView × Frag)) : Type 0 where
    pub anonymous : kept_anonymous s (written b a ns fs) ≡ a
    pub named : kept_named s (written b a ns fs) ≡ ns
    pub fragments : kept_fragments s (written b a ns fs) ≡ fs
    pub faults : document_faults s (written b a ns fs) ≡ flat_map (λ x. ambiguous_if (kept_location a)) ns

  pub all_kept : (a : Option Op) (ns : List (NameView × Op)) (fs : List (NameView × Frag)) → IsSoundIf s a
      → AllByRecursion (IsSoundOperation s) ns → IsDistinct (same_key same_text) ns
      → AllByRecursion (IsSoundFragment s) fs → IsDistinct (same_key same_text) fs → AllKept a ns fs
  all_kept a ns fs sound names apart_names fragments apart =
      let first = first_kept a sound in
      let head = anonymous_items b a ++ map (operation_item b) ns in
      let then_named = all_named _ a [] ns names apart_names (none_there ns) first.0 in
      let then_fragments = all_fragments head [] fs fragments apart (none_there fs)
      (fragments-operations (anonymous_items b a) ns ∙ first.1) in
      record {
        anonymous = ap (anonymous_of _) (operations-fragments head fs) ∙ then_named.0.0;
        named = ap (named_of _) (operations-fragments head fs) ∙ then_named.0.1;
        fragments = then_fragments.0;
        faults = each_after-append _ [] head _
            ∙ (λ i. each_after-append (faults_at s) [] (anonymous_items b a) (map (operation_item b) ns) i
            ++ then_fragments.1 i) ∙ (λ i. (first.2 i ++ then_named.1 i) ++ [])
            ∙ append-nil (flat_map (λ x. ambiguous_if (kept_location a)) ns);
      }
