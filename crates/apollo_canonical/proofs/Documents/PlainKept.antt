-- What a list of definitions keeps, without locations, is what the list without locations keeps.
use Rattle.apollo_canonical.proofs as canonical
use canonical.Prelude.{DocumentItem, FragmentDefinition, List, NameView, NodeView, OperationDefinition}
use canonical.Prelude.{Option, Schema, after_first, ap, arith, bare_entry, bare_fragment_definition}
use canonical.Prelude.{bare_node, bare_operation_definition, filter, filter-map, filter_map, find}
use canonical.Prelude.{find-made, first_if_anonymous, first_of_each, first_of_each-map, fragment_in}
use canonical.Prelude.{fragment_under_name, fragments, is_anonymous, is_on_type, is_repeated, is_rooted}
use canonical.Prelude.{is_some-map, kept_anonymous, kept_fragments, kept_named, list_any, list_any-map, map}
use canonical.Prelude.{map-map, operation_in, operation_under_name, operations, option_map, same_key}
use canonical.Prelude.{same_text, sym, ◌∙◌, ◌≡◌}
use canonical.Documents.AlikeTypable.{type-there}
use canonical.Documents.Seen.{after_first-map}
use Rattle.apollo_component.proofs.Lists.Seen.{chosen-map}
use Rattle.apollo_canonical.specs.EqualDocuments.{bare_item}

abbrev pub Op : Type 0
Op = NodeView OperationDefinition

abbrev pub Frag : Type 0
Frag = NodeView FragmentDefinition

abbrev pub bare_op : Op → Op
bare_op = bare_node bare_operation_definition

abbrev pub bare_frag : Frag → Frag
bare_frag = bare_node bare_fragment_definition

-- the operations and fragments of a list
operations-plain : (xs : List DocumentItem) → operations (map bare_item xs) ≡ map bare_op (operations xs)
operations-plain = chosen-map bare_item bare_op operation_in operation_in (λ x. grind arith)

fragments-plain : (xs : List DocumentItem) → fragments (map bare_item xs) ≡ map bare_frag (fragments xs)
fragments-plain = chosen-map bare_item bare_frag fragment_in fragment_in (λ x. grind arith)

-- whether a condition is a type goes by its text
pub on-plain : (s : Option Schema) (n : Frag) → is_on_type s (bare_frag n) ≡ is_on_type s n
on-plain s n = type-there s n.value.type_condition

-- the first of each name
abbrev first_named : {V : Type 0} → List (NameView × V) → List (NameView × V)
first_named = first_of_each (same_key same_text)

module _ (s : Option Schema) (xs : List DocumentItem) where
  pub kept-anonymous : kept_anonymous s (map bare_item xs) ≡ option_map bare_op (kept_anonymous s xs)
  kept-anonymous = ap (λ os. first_if_anonymous (find (is_rooted s) os)) (operations-plain xs)
      ∙ ap first_if_anonymous (find-made _ bare_op (operations xs)) ∙ grind arith

  pub kept-named : kept_named s (map bare_item xs) ≡ map (bare_entry bare_operation_definition)
      (kept_named s xs)
  kept-named =
      let bare : NameView × Op → NameView × Op = bare_entry bare_operation_definition in
      let rooted : List Op = filter (is_rooted s) (operations xs) in
      ap (λ os. first_named (filter_map operation_under_name (filter (is_rooted s) os))) (operations-plain xs)
      ∙ ap (λ os. first_named (filter_map operation_under_name os)) (filter-map _ bare_op (operations xs))
      ∙ ap first_named (chosen-map bare_op bare operation_under_name operation_under_name
      (λ n. grind arith) rooted) ∙ sym (first_of_each-map _ bare _)

  pub kept-fragments : kept_fragments s (map bare_item xs) ≡ map (bare_entry bare_fragment_definition)
      (kept_fragments s xs)
  kept-fragments =
      let on : List Frag = filter (is_on_type s) (fragments xs) in
      let bare : NameView × Frag → NameView × Frag = bare_entry bare_fragment_definition in
      ap (λ fs. first_named (map fragment_under_name (filter (is_on_type s) fs))) (fragments-plain xs)
      ∙ ap (λ fs. first_named (map fragment_under_name fs)) (filter-map _ bare_frag (fragments xs)
      ∙ (λ i. map bare_frag (filter (λ n. on-plain s n i) (fragments xs))))
      ∙ ap first_named (map-map fragment_under_name bare_frag on
      ∙ sym (map-map bare fragment_under_name on)) ∙ sym (first_of_each-map _ bare _)

  pub repeated : is_repeated s (map bare_item xs) ≡ is_repeated s xs
  repeated = grind (arith, kept-anonymous, others)
    where
      others : list_any is_anonymous (after_first (is_rooted s) (operations (map bare_item xs)))
          ≡ list_any is_anonymous (after_first (is_rooted s) (operations xs))
      others = simp (operations-plain, after_first-map, list_any-map, is_some-map)
