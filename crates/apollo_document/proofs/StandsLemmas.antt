-- Tables that stand for a list stand for it with one more definition.
use Rattle.std.proofs.Common.{arith, ◌≡◌, ◌∙◌, ap, sym, refl, subst, Bool, true, false, cond, List, [], ◌∷◌}
use Rattle.std.proofs.Common.{◌++◌, map, filter, Option, None, Some, option_map, append_assoc}
use Rattle.std.specs.List.{cons_option}
use Rattle.std.proofs.lemmas.List.{append-nil, map-append}
use Rattle.std.proofs.lemmas.List.Elements.{filter-append, filter_map-append}
use Rattle.graphql_nodes.specs.NameView.{NameView}
use Rattle.graphql_nodes.specs.NodeView.{NodeView}
use Rattle.graphql_nodes.specs.SameText.{same_text}
use Rattle.graphql_nodes.specs.Tables.{lookup_key}
use Rattle.graphql_ast.specs.declared.definition.Definition.{Definition}
use Rattle.graphql_ast.specs.declared.definition.Definition.TheVariants as d
use Rattle.graphql_ast.specs.declared.operation.OperationDefinition.{OperationDefinition}
use Rattle.graphql_ast.specs.declared.operation.FragmentDefinition.{FragmentDefinition}
use Rattle.apollo_component.specs.FirstOfEach.{first_of_each, same_key}
use Rattle.apollo_component.proofs.Lists.EachAfter.{each_after-push}
use Rattle.apollo_schema.specs.declared.schema.Schema.{Schema}
use Rattle.apollo_executable.specs.declared.operation.Operation.{Operation}
use Rattle.apollo_executable.specs.declared.operation.Fragment.{Fragment}
use Rattle.apollo_document.specs.Typable.{Fault, is_bare}
use Rattle.apollo_document.specs.declared.selection_path.ExecutableDefinitionName.TheVariants.{AnonymousOperation}
use Rattle.apollo_document.specs.declared.selection_path.ExecutableDefinitionName.TheVariants.{NamedOperation}
use Rattle.apollo_document.specs.AddedDefinitions.{DocumentItem, as_operation, as_fragment, operation_in}
use Rattle.apollo_document.specs.AddedDefinitions.{fragment_in, operations, fragments}
use Rattle.apollo_document.specs.KeptDefinitions.{is_rooted, kept_anonymous, kept_named, is_on_type}
use Rattle.apollo_document.specs.KeptDefinitions.{fragment_under_name, kept_fragments, is_repeated}
use Rattle.apollo_document.specs.DocumentFaults.{ambiguous, ambiguous_if, faults_of_named}
use Rattle.apollo_document.specs.DocumentFaults.{faults_in_operation, after_anonymous, unless_named}
use Rattle.apollo_document.specs.DocumentFaults.{anonymous_faults, anonymous_location, fragment_faults}
use Rattle.apollo_document.specs.DocumentFaults.{type_system_faults, operation_faults, definition_faults}
use Rattle.apollo_document.specs.DocumentFaults.{faults_at, document_faults, faults_in_fragment, unless_taken}
use Rattle.apollo_document.specs.Noted.{tables_noting}
use Rattle.apollo_document.specs.Stands.{rooted_operation, typed_operation, typed_fragment, fragment_if_typed}
use Rattle.apollo_document.specs.Stands.{entries_by, put_unless_taken, Stands}
use Rattle.apollo_document.specs.declared.tables.Tables.{Tables}
use Rattle.apollo_document.specs.declared.build_error.BuildError.TheVariants as e
use Rattle.apollo_document.proofs.Equations.{bare-nil, is_bare-map}
use Rattle.apollo_document.proofs.ListLemmas.{first-put, entries-put, entries-key, put-last}
use Rattle.apollo_document.proofs.OperationLemmas.{Op, Frag, anonymous_of, named_of, repeated_of, named-kept}
use Rattle.apollo_document.proofs.OperationLemmas.{named-anonymous, named-repeated, anonymous-named}
use Rattle.apollo_document.proofs.OperationLemmas.{further-anonymous, further-repeated, later-anonymous}
use Rattle.apollo_document.proofs.OperationLemmas.{without-repeated, only-anonymous, only-repeated}
use Rattle.indexmap.specs.IndexMap.{insert_entry}

pub operations-push : (xs : List DocumentItem) (x : DocumentItem)
    → operations (xs ++ x ∷ []) ≡ operations xs ++ cons_option (operation_in x) []
operations-push xs x = filter_map-append operation_in xs (x ∷ [])

fragments-push : (xs : List DocumentItem) (x : DocumentItem)
    → fragments (xs ++ x ∷ []) ≡ fragments xs ++ cons_option (fragment_in x) []
fragments-push xs x = filter_map-append fragment_in xs (x ∷ [])

-- no operation, or no fragment, changes nothing of what is kept of them
module _ (s : Option Schema) (xs : List DocumentItem) (x : DocumentItem) where
  pub same_operations : operation_in x ≡ None → operations (xs ++ x ∷ []) ≡ operations xs
  same_operations h = rw (h, append-nil) at (operations-push xs x)

  pub same_fragments : fragment_in x ≡ None → kept_fragments s (xs ++ x ∷ []) ≡ kept_fragments s xs
  same_fragments h = ap (λ l. first_of_each (same_key same_text)
      (map fragment_under_name (filter (is_on_type s) l))) (rw (h, append-nil) at (fragments-push xs x))

no_entries : {A B : Type 0} (f : A → B) (es : List (NameView × A)) → is_bare (entries_by f es) ≡ true
    → es ≡ []
no_entries f es h = bare-nil es (sym (is_bare-map _ es) ∙ h)

-- an operation that is built is the typed one, where it has a root type
built_operation : (s : Option Schema) (n : Op)
    → rooted_operation s n ≡ option_map (typed_operation s) (cond (is_rooted s n) (Some n) None)
built_operation s n = grind arith

-- where the anonymous operation stands
location_of_kept : (s : Option Schema) (o : Option Op)
    → option_map (λ (n : NodeView Operation). n.location) (option_map (typed_operation s) o)
    ≡ option_map (λ n. n.location) o
location_of_kept s o = grind arith

-- the tables with one more named operation, and with one more fragment
abbrev pub with_named : Option Schema → Op → NameView → Tables → Tables
with_named s n m old = record old {
  operations = record old.operations {
    named = put_unless_taken m (lookup_key (same_text m) old.operations.named) (rooted_operation s n)
        old.operations.named;
  };
  faults = (old.faults ++ ambiguous_if (option_map (λ o. o.location) old.operations.anonymous))
      ++ faults_of_named s (lookup_key (same_text m) old.operations.named) m n;
}

abbrev pub with_fragment : Option Schema → Frag → Tables → Tables
with_fragment s n old = record old {
  fragments = put_unless_taken n.value.name (lookup_key (same_text n.value.name) old.fragments)
      (fragment_if_typed s n) old.fragments;
  faults = old.faults ++ fragment_faults s (lookup_key (same_text n.value.name) old.fragments) n;
}

-- one more fragment
pub kept_fragments-push : (s : Option Schema) (xs : List DocumentItem) (b : Bool) (n : Frag)
    → kept_fragments s (xs ++ (b, d.FragmentDefinition n) ∷ []) ≡ put_unless_taken n.value.name
    (lookup_key (same_text n.value.name) (kept_fragments s xs)) (cond (is_on_type s n) (Some n) None)
    (kept_fragments s xs)
kept_fragments-push s xs b n =
    let on = filter (is_on_type s) (fragments xs) in
    let one : map fragment_under_name (cond (is_on_type s n) (n ∷ []) [])
    ≡ cond (is_on_type s n) ((n.value.name, n) ∷ []) [] = grind arith in
    ap (first_of_each (same_key same_text)) (
    ap (λ l. map fragment_under_name (filter (is_on_type s) l))
    (fragments-push xs (b, d.FragmentDefinition n))
    ∙ ap (map fragment_under_name) (filter-append _ (fragments xs) (n ∷ []))
    ∙ map-append fragment_under_name on _
    ∙ ap (λ l. map fragment_under_name on ++ l) one) ∙ first-put _ _ n
    _

-- a definition that is no operation, and one that is no fragment
pub no_operation : (x : Definition) → ((n : Op) → x ≡ d.OperationDefinition n → ⊥) → as_operation x ≡ None
no_operation (d.OperationDefinition n) other = absurd (other n refl)
no_operation x other = refl

pub no_fragment : (x : Definition) → ((n : Frag) → x ≡ d.FragmentDefinition n → ⊥) → as_fragment x ≡ None
no_fragment (d.FragmentDefinition n) other = absurd (other n refl)
no_fragment x other = refl

module _ (s : Option Schema) (xs : List DocumentItem) (b : Bool) where
  abbrev p : Op → Bool
  p = is_rooted s

  abbrev os : List Op
  os = operations xs

  -- tables by the operations, the kept fragments and the faults of a list
  record Holds (os : List Op) (kept : List (NameView × Frag)) (wrong : List Fault)
      (t : Tables) : Type 0 where
    anonymous : t.operations.anonymous ≡ option_map (typed_operation s) (anonymous_of p os)
    named : t.operations.named ≡ entries_by (typed_operation s) (named_of p os)
    fragments : t.fragments ≡ entries_by (typed_fragment s) kept
    repeated : t.multiple_anonymous ≡ repeated_of p os
    faults : t.faults ≡ wrong

  one_more : {os : List Op} {kept : List (NameView × Frag)} {wrong : List Fault} {t : Tables} (x : Definition)
      → os ≡ operations (xs ++ (b, x) ∷ []) → kept ≡ kept_fragments s (xs ++ (b, x) ∷ [])
      → wrong ≡ faults_at s xs (b, x) → Holds os kept (document_faults s xs ++ wrong) t
      → Stands s (xs ++ (b, x) ∷ []) t
  one_more x ops frags wrong h = record {
    anonymous = rw (← ops) h.anonymous;
    named = rw (← ops) h.named;
    fragments = rw (← frags) h.fragments;
    repeated = rw (← ops) h.repeated;
    faults = rw (each_after-push _ [] xs (b, x), ← wrong) h.faults;
  }

  module _ (n : Op) (old new : Tables) where
    -- with one more operation, of this name
    with_operation : (name : Option NameView) → n.value.name ≡ name → (now : Tables) → new ≡ now
        → Holds (os ++ n ∷ []) (kept_fragments s xs) (document_faults s xs ++ operation_faults s xs n name)
        now → Stands s (xs ++ (b, d.OperationDefinition n) ∷ []) new
    with_operation name h now made held =
        let x : DocumentItem = (b, d.OperationDefinition n) in
        subst (Stands s (xs ++ x ∷ [])) (sym made) (one_more _ (sym (operations-push xs x))
        (sym (same_fragments s xs x refl)) (ap (operation_faults s xs n) (sym h)) held)

    pub stands-named : (m : NameView) → n.value.name ≡ Some m → Stands s xs old → new ≡ with_named s n m old
        → Stands s (xs ++ (b, d.OperationDefinition n) ∷ []) new
    stands-named m h was made =
        let names = kept_named s xs in
        let key : lookup_key (same_text m) old.operations.named ≡ lookup_key (same_text m) names =
        rw was.named (entries-key _ _ names) in
        let location : option_map (λ o. o.location) old.operations.anonymous ≡ anonymous_location s xs =
        rw was.anonymous (location_of_kept s _) in
        with_operation (Some m) h _ made (record {
          anonymous = was.anonymous ∙ ap (option_map (typed_operation s)) (sym (named-anonymous p os n m h));
          named = (λ i. put_unless_taken m (key i) (built_operation s n i) (was.named i)) ∙ entries-put _ m _
              _ names ∙ ap (entries_by (typed_operation s)) (sym (named-kept p os n m h));
          fragments = was.fragments;
          repeated = was.repeated ∙ sym (named-repeated p os n m h);
          faults = append_assoc old.faults _ _
              ∙ (λ i. was.faults i ++ (ambiguous_if (location i) ++ faults_of_named s (key i) m n));
        })

    module _ (h : n.value.name ≡ None) (was : Stands s xs old) where
      same_named : old.operations.named ≡ entries_by (typed_operation s) (named_of p (os ++ n ∷ []))
      same_named = was.named ∙ ap (entries_by (typed_operation s)) (sym (anonymous-named p os n h))

      pub stands-further : (a : NodeView Operation) → old.operations.anonymous ≡ Some a
          → new ≡ tables_noting (after_anonymous old.multiple_anonymous a.location n.location)
          (record old { multiple_anonymous = true }) → Stands s (xs ++ (b, d.OperationDefinition n) ∷ []) new
      stands-further a there made = by (kept_anonymous s xs) refl
        where
          by : (o : Option Op) → kept_anonymous s xs ≡ o
              → Stands s (xs ++ (b, d.OperationDefinition n) ∷ []) new
          by None k =
              let none : Some a ≡ None = sym there ∙ was.anonymous ∙ ap (option_map (typed_operation s))
              k in cc
          by (Some k) is =
              let location : Some a.location ≡ anonymous_location s xs =
              ap (option_map (λ o. o.location)) (sym there ∙ was.anonymous) ∙ location_of_kept s _ in
              with_operation None h _ made (record {
                anonymous = was.anonymous
                    ∙ ap (option_map (typed_operation s)) (sym (further-anonymous p os n k is));
                named = same_named;
                fragments = was.fragments;
                repeated = sym (further-repeated p os n k h is);
                faults = λ i. was.faults i
                    ++ anonymous_faults s (location i) (was.repeated i) (kept_named s xs) n;
              })

      module _ (none : old.operations.anonymous ≡ None) where
        none_kept : kept_anonymous s xs ≡ None
        none_kept = grind (arith, was.anonymous, none)

        -- what is wrong where no anonymous operation is kept
        alone_faults : (es : List (NameView × Op)) → kept_named s xs ≡ es → (now : Tables)
            → now.faults ≡ old.faults ++ unless_named es n.location
            (faults_in_operation s (AnonymousOperation n.value.operation_type) n)
            → now.faults ≡ document_faults s xs ++ operation_faults s xs n None
        alone_faults es k now made =
            made ∙ (λ i. was.faults i ++ unless_named (sym k i) n.location
            (faults_in_operation s (AnonymousOperation n.value.operation_type) n))
            ∙ (λ i. document_faults s xs ++ anonymous_faults s (option_map (λ (o : Op). o.location)
            (sym none_kept i)) (is_repeated s xs) (kept_named s xs) n)

        pub stands-later : is_bare old.operations.named ≡ false
            → new ≡ tables_noting (ambiguous n.location ∷ []) old
            → Stands s (xs ++ (b, d.OperationDefinition n) ∷ []) new
        stands-later others made = by (kept_named s xs) refl
          where
            by : (es : List (NameView × Op)) → kept_named s xs ≡ es
                → Stands s (xs ++ (b, d.OperationDefinition n) ∷ []) new
            by [] k =
                let bare : true ≡ false = sym (ap is_bare (was.named ∙ ap (entries_by (typed_operation s)) k))
                ∙ others in cc
            by (e ∷ es) k =
                let same = later-anonymous p os n e es k in
                with_operation None h _ made (record {
                  anonymous = was.anonymous ∙ ap (option_map (typed_operation s)) (sym same);
                  named = same_named;
                  fragments = was.fragments;
                  repeated = was.repeated ∙ without-repeated p os none_kept
                      ∙ sym (without-repeated p _ (same ∙ none_kept));
                  faults = alone_faults (e ∷ es) k (tables_noting (ambiguous n.location ∷ []) old) refl;
                })

        pub stands-anonymous : is_bare old.operations.named ≡ true → new ≡ record old {
          operations = record old.operations { anonymous = rooted_operation s n };
          faults = old.faults ++ faults_in_operation s (AnonymousOperation n.value.operation_type) n;
        } → Stands s (xs ++ (b, d.OperationDefinition n) ∷ []) new
        stands-anonymous alone made =
            let none_named : kept_named s xs ≡ [] = no_entries _ _ (ap is_bare (sym was.named) ∙ alone) in
            with_operation None h _ made (record {
              anonymous = built_operation s n
                  ∙ ap (option_map (typed_operation s)) (sym (only-anonymous p os n none_kept none_named h));
              named = same_named;
              fragments = was.fragments;
              repeated = was.repeated ∙ without-repeated p os none_kept
                  ∙ sym (only-repeated p os n none_kept none_named);
              faults = alone_faults [] none_named (record old {
                faults = old.faults ++ faults_in_operation s (AnonymousOperation n.value.operation_type) n;
              }) refl;
            })

  pub stands-fragment : (n : Frag) (old new : Tables) → Stands s xs old → new ≡ with_fragment s n old
      → Stands s (xs ++ (b, d.FragmentDefinition n) ∷ []) new
  stands-fragment n old new was made =
      let x : DocumentItem = (b, d.FragmentDefinition n) in
      let kept = kept_fragments s xs in
      let key : lookup_key (same_text n.value.name) old.fragments ≡ lookup_key (same_text n.value.name) kept =
      rw was.fragments (entries-key _ _ kept) in
      subst (Stands s (xs ++ x ∷ [])) (sym made) (one_more _ (sym (same_operations s xs x refl))
      (sym (kept_fragments-push s xs b n)) refl (record {
        anonymous = was.anonymous;
        named = was.named;
        fragments = (λ i. put_unless_taken n.value.name (key i) (built i) (was.fragments i))
            ∙ entries-put _ n.value.name _ _ kept;
        repeated = was.repeated;
        faults = λ i. was.faults i ++ fragment_faults s (key i) n;
      }))
    where
      built : fragment_if_typed s n ≡ option_map (typed_fragment s) (cond (is_on_type s n) (Some n) None)
      built = grind arith

  -- a definition that is neither
  pub stands-other : (x : Definition) (old new : Tables) → as_operation x ≡ None → as_fragment x ≡ None
      → Stands s xs old → new ≡ tables_noting (type_system_faults b x) old → Stands s (xs ++ (b, x) ∷ []) new
  stands-other x old new h g was made = subst (Stands s (xs ++ (b, x) ∷ [])) (sym made)
      (one_more x (sym (same_operations s xs (b, x) h)) (sym (same_fragments s xs (b, x) g))
      (sym (other x h g)) (record {
        anonymous = was.anonymous;
        named = was.named;
        fragments = was.fragments;
        repeated = was.repeated;
        faults = ap (λ l. l ++ type_system_faults b x) was.faults;
      }))
    where
      other : (x : Definition) → as_operation x ≡ None → as_fragment x ≡ None
          → definition_faults s xs b x ≡ type_system_faults b x
      other (d.OperationDefinition n) h g = cc
      other (d.FragmentDefinition n) h g = cc
      other x h g = refl

-- what the code does with a named operation and with a fragment: its name is taken, it isn't kept, or it is
-- put last

module _ (s : Option Schema) (n : NodeView OperationDefinition) (m : NameView) (old noted : Tables) where
  abbrev own : List Fault
  own = faults_in_operation s (NamedOperation n.value.operation_type m) n

  abbrev first : List Fault
  first = ambiguous_if (option_map (λ o. o.location) old.operations.anonymous)

  -- where this name is taken, if one is, and this is built
  abbrev with : Option NameView → Option (NodeView Operation) → Tables
  with taken built = record old {
    operations = record old.operations { named = put_unless_taken m taken built old.operations.named };
    faults = (old.faults ++ first) ++ unless_taken e.OperationNameCollision m taken own;
  }

  module _ (is : noted ≡ tables_noting first old) where
    looked : (o : Option NameView) → lookup_key (same_text m) noted.operations.named ≡ o
        → o ≡ lookup_key (same_text m) old.operations.named
    looked o found = sym found ∙ ap (λ t. lookup_key (same_text m) t.operations.named) is

    pub named-taken : (kept : NameView) (new : Tables)
        → lookup_key (same_text m) noted.operations.named ≡ Some kept
        → new ≡ tables_noting ((m.location, e.OperationNameCollision kept) ∷ []) noted
        → new ≡ with_named s n m old
    named-taken kept new found made = made ∙ ap (tables_noting ((m.location, e.OperationNameCollision kept)
        ∷ [])) is ∙ (λ i. with (looked _ found i) (rooted_operation s n))

    pub named-left : (new : Tables) → lookup_key (same_text m) noted.operations.named ≡ None
        → rooted_operation s n ≡ None → new ≡ tables_noting own noted → new ≡ with_named s n m old
    named-left new found none made = made ∙ ap (tables_noting own) is
        ∙ (λ i. with (looked None found i) (sym none i))

    pub named-put : (k : NameView) (operation : NodeView Operation)
        (entries : List (NameView × NodeView Operation)) (built new : Tables)
        → lookup_key (same_text m) noted.operations.named ≡ None → Some operation ≡ rooted_operation s n
        → built ≡ tables_noting own noted → k ≡ m
        → entries ≡ insert_entry same_text built.operations.named k operation
        → new ≡ record built { operations = record built.operations { named = entries } }
        → new ≡ with_named s n m old
    named-put k operation entries built new found rooted built_is same put made =
        let whole : built ≡ tables_noting own (tables_noting first old) =
        built_is ∙ ap (tables_noting own) is in
        let last = put-last m k operation old.operations.named entries (sym (looked None found)) same (put
        ∙ ap (λ t. insert_entry same_text t.operations.named k operation) whole) in
        made ∙ (λ i. record (whole i) { operations = record (whole i).operations { named = last i } })
        ∙ (λ i. with (looked None found i) (rooted i))

module _ (s : Option Schema) (n : NodeView FragmentDefinition) (old : Tables) where
  abbrev with_kept : Option NameView → Option (NodeView Fragment) → Tables
  with_kept taken built = record old {
    fragments = put_unless_taken n.value.name taken built old.fragments;
    faults = old.faults ++ unless_taken e.FragmentNameCollision n.value.name taken (faults_in_fragment s n);
  }

  pub fragment-taken : (kept : NameView) (new : Tables)
      → lookup_key (same_text n.value.name) old.fragments ≡ Some kept
      → new ≡ tables_noting ((n.value.name.location, e.FragmentNameCollision kept) ∷ []) old
      → new ≡ with_fragment s n old
  fragment-taken kept new there made = made ∙ (λ i. with_kept (sym there i) (fragment_if_typed s n))

  pub fragment-left : (new : Tables) → lookup_key (same_text n.value.name) old.fragments ≡ None
      → fragment_if_typed s n ≡ None → new ≡ tables_noting (faults_in_fragment s n) old
      → new ≡ with_fragment s n old
  fragment-left new there none made = made ∙ (λ i. with_kept (sym there i) (sym none i))

  pub fragment-put : (k : NameView) (fragment : NodeView Fragment)
      (entries : List (NameView × NodeView Fragment)) (built new : Tables)
      → lookup_key (same_text n.value.name) old.fragments ≡ None → Some fragment ≡ fragment_if_typed s n
      → built ≡ tables_noting (faults_in_fragment s n) old → k ≡ n.value.name
      → entries ≡ insert_entry same_text built.fragments k fragment
      → new ≡ record built { fragments = entries } → new ≡ with_fragment s n old
  fragment-put k fragment entries built new there typed built_is same put made =
      let last = put-last n.value.name k fragment old.fragments entries there same (put
      ∙ ap (λ t. insert_entry same_text t.fragments k fragment) built_is) in
      made ∙ (λ i. record (built_is i) { fragments = last i }) ∙ (λ i. with_kept (sym there i) (typed i))
