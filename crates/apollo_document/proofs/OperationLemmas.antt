-- What a list keeps of its operations with one more at its end.
use Rattle.std.proofs.Common.{arith, ◌≡◌, ◌∙◌, ap, refl, Bool, true, false, cond, not, ◌||◌, ◌&&◌, List, []}
use Rattle.std.proofs.Common.{◌∷◌, ◌++◌, filter, Option, None, Some, is_some}
use Rattle.std.specs.List.{filter_map, find, list_any}
use Rattle.std.specs.Option.{option_or}
use Rattle.std.proofs.Math.Bool.{and-false, or-true, or-false}
use Rattle.std.proofs.lemmas.List.{append-nil}
use Rattle.std.proofs.lemmas.List.Elements.{filter-append, filter_map-append}
use Rattle.std.proofs.lemmas.List.Folds.{find-append, list_any-append}
use Rattle.graphql_nodes.specs.NameView.{NameView}
use Rattle.graphql_nodes.specs.NodeView.{NodeView}
use Rattle.graphql_nodes.specs.SameText.{same_text}
use Rattle.graphql_nodes.specs.Tables.{lookup_key}
use Rattle.graphql_ast.specs.declared.operation.OperationDefinition.{OperationDefinition}
use Rattle.graphql_ast.specs.declared.operation.FragmentDefinition.{FragmentDefinition}
use Rattle.apollo_component.specs.FirstOfEach.{first_of_each, same_key}
use Rattle.apollo_document.specs.KeptDefinitions.{is_anonymous, first_if_anonymous, operation_under_name}
use Rattle.apollo_document.specs.KeptDefinitions.{after_first}
use Rattle.apollo_document.specs.Stands.{put_unless_taken}
use Rattle.apollo_document.proofs.ListLemmas.{first-put, after-push}

-- an operation and a fragment, where they stand
abbrev pub Op : Type 0
Op = NodeView OperationDefinition

abbrev pub Frag : Type 0
Frag = NodeView FragmentDefinition

-- what the operations keep, by which of them are rooted
abbrev pub anonymous_of : (Op → Bool) → List Op → Option Op
anonymous_of p os = first_if_anonymous (find p os)

abbrev names_of : (Op → Bool) → List Op → List (NameView × Op)
names_of p os = filter_map operation_under_name (filter p os)

abbrev pub named_of : (Op → Bool) → List Op → List (NameView × Op)
named_of p os = first_of_each (same_key same_text) (names_of p os)

abbrev pub repeated_of : (Op → Bool) → List Op → Bool
repeated_of p os = is_some (anonymous_of p os) && list_any is_anonymous (after_first p os)

anonymous : (n : Op) (o : Option NameView) → n.value.name ≡ o → is_anonymous n ≡ not (is_some o)
anonymous n o h = ap (λ (o : Option NameView). not (is_some o)) h

pub named-none : (b : Bool) (n : Op) → n.value.name ≡ None
    → filter_map operation_under_name (cond b (n ∷ []) []) ≡ []
named-none b n h = grind (arith, h)

-- where no rooted one stands there
rooted_there : (p : Op → Bool) (os : List Op) → find p os ≡ None → filter p os ≡ []
rooted_there p [] e = refl
rooted_there p (o ∷ os) e = grind (arith, e, rooted_there p os)

-- where none is kept, none is rooted
none_rooted : (p : Op → Bool) (os : List Op) → anonymous_of p os ≡ None → named_of p os ≡ []
    → find p os ≡ None
none_rooted p [] a k = refl
none_rooted p (o ∷ os) a k = grind (arith, a, k, none_rooted p os)

module _ (p : Op → Bool) (os : List Op) where
  pub without-repeated : anonymous_of p os ≡ None → repeated_of p os ≡ false
  without-repeated k = ap (λ o. is_some o && list_any is_anonymous (after_first p os)) k

  -- with one more
  module _ (n : Op) where
    abbrev more : List Op
    more = os ++ n ∷ []

    names-push : names_of p more ≡ names_of p os ++ filter_map operation_under_name (cond (p n) (n ∷ []) [])
    names-push = ap (filter_map operation_under_name) (filter-append p os (n ∷ []))
        ∙ filter_map-append operation_under_name (filter p os) _

    find-push : anonymous_of p more ≡ first_if_anonymous (option_or (find p os) (cond (p n) (Some n) None))
    find-push = ap first_if_anonymous (find-append p os (n ∷ []))

    -- whether one without a name stands after the first rooted one
    any-push : (o : Option NameView) → n.value.name ≡ o
        → list_any is_anonymous (after_first p os ++ n ∷ [])
        ≡ (list_any is_anonymous (after_first p os) || (not (is_some o) || false))
    any-push o h = list_any-append is_anonymous (after_first p os) (n ∷ [])
        ∙ ap (λ c. list_any is_anonymous (after_first p os) || (c || false)) (anonymous n o h)

    -- a named operation
    module _ (m : NameView) (h : n.value.name ≡ Some m) where
      pub named-kept : named_of p more ≡ put_unless_taken m (lookup_key (same_text m) (named_of p os))
          (cond (p n) (Some n) None) (named_of p os)
      named-kept =
          let one : filter_map operation_under_name (cond (p n) (n ∷ []) []) ≡ cond (p n) ((m, n) ∷ []) [] =
          grind (arith, h) in
          ap (first_of_each (same_key same_text)) (rw one at names-push) ∙ first-put _ m n (p n)

      pub named-anonymous : anonymous_of p more ≡ anonymous_of p os
      named-anonymous = grind (arith, find-push, anonymous n (Some m) h)

      pub named-repeated : repeated_of p more ≡ repeated_of p os
      named-repeated = grind (arith, named-anonymous, after-push p os n, any-push (Some m) h, or-false)

    -- an anonymous operation
    pub anonymous-named : n.value.name ≡ None → named_of p more ≡ named_of p os
    anonymous-named h = ap (first_of_each (same_key same_text))
        (rw (named-none (p n) n h, append-nil) at names-push)

    -- after a kept anonymous one
    pub further-anonymous : (a : Op) → anonymous_of p os ≡ Some a → anonymous_of p more ≡ anonymous_of p os
    further-anonymous a k = grind (arith, find-push, k)

    pub further-repeated : (a : Op) → n.value.name ≡ None → anonymous_of p os ≡ Some a
        → repeated_of p more ≡ true
    further-repeated a h k =
        grind (arith, k, further-anonymous a k, after-push p os n, any-push None h, or-true)

    -- where a named one is kept, a rooted one stands there
    pub later-anonymous : (e : NameView × Op) (es : List (NameView × Op)) → named_of p os ≡ e ∷ es
        → anonymous_of p more ≡ anonymous_of p os
    later-anonymous e es k = grind (arith, find-push, rooted_there p os, k)

    -- where none is kept
    module _ (a : anonymous_of p os ≡ None) (k : named_of p os ≡ []) where
      pub only-anonymous : n.value.name ≡ None → anonymous_of p more ≡ cond (p n) (Some n) None
      only-anonymous h = grind (arith, find-push, none_rooted p os a k, anonymous n None h)

      pub only-repeated : repeated_of p more ≡ false
      only-repeated = grind (arith, after-push p os n, none_rooted p os a k, and-false)
