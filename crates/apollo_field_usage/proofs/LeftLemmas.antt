-- What is left of a walk, turn by turn.
use Rattle.std.proofs.Common.{arith, ◌≡◌, ◌⊎◌, ◌<◌, inl, inr, true, false, List, [], ◌∷◌, map, Some, None, ap}
use Rattle.std.proofs.Common.{◌∙◌}
use Rattle.graphql_nodes.specs.NameView.{NameView}
use Rattle.graphql_nodes.specs.NodeView.{NodeView}
use Rattle.graphql_nodes.specs.SameText.{by_text}
use Rattle.graphql_nodes.specs.Tables.{lookup}
use Rattle.apollo_walks.specs.Selections.{Names, no_names, with_name}
use Rattle.apollo_walks.specs.ToCome.{ToCome, IsToCome}
use Rattle.apollo_walks.specs.TurnByTurn.{a_turn_before, a_field_before, over}
use Rattle.apollo_walks.proofs.Existence.{ordered}
use Rattle.apollo_walks.proofs.Orders.{order_determined}
use Rattle.apollo_walks.proofs.Steps.{what_is_to_come, one-to-come, turn-by-turn, begins}
use Rattle.apollo_executable.specs.declared.document.ExecutableDocument.{ExecutableDocument}
use Rattle.apollo_executable.specs.declared.operation.Fragment.{Fragment}
use Rattle.apollo_executable.specs.declared.selection.Field.{Field}
use Rattle.apollo_executable.specs.declared.selection.FragmentSpread.{FragmentSpread}
use Rattle.apollo_executable.specs.declared.selection.InlineFragment.{InlineFragment}
use Rattle.apollo_executable.specs.declared.selection.Selection.{Selection}
use Rattle.apollo_executable.specs.declared.selection.Selection.TheVariants as variant
use Rattle.apollo_executable.specs.declared.selection.SelectionSet.{SelectionSet}
use Rattle.apollo_field_usage.specs.Left.{Open, left_in, all_to_come}
use Rattle.apollo_field_usage.specs.Occurrences.{Occurrence}
use Rattle.apollo_field_usage.specs.Placed.{Placed, placed, placed_set, placed_fragments}
use Rattle.apollo_field_usage.specs.Reached.{reached}
use Rattle.apollo_field_usage.proofs.FragmentLemmas.{fragment-found, fragment-missing}
use Rattle.apollo_field_usage.proofs.PlacedLemmas.{placed-none, placed-field, placed-spread, placed-inline}
use Rattle.apollo_field_usage.proofs.PlacedLemmas.{over-some, over-none}

abbrev seen_open : List Open → List Placed
seen_open = map (λ l. placed l.0 l.1)

module _ (d : ExecutableDocument) (names : Names) where
  is_left : (lists : List Open)
      → IsToCome (placed_fragments d) names (seen_open lists) (left_in d names lists)
  unfolding left_in
  is_left lists = (what_is_to_come (placed_fragments d) names (seen_open lists)).1

  is : (lists : List Open) (x : ToCome Occurrence) → IsToCome (placed_fragments d) names (seen_open lists) x
      → left_in d names lists ≡ x
  is lists x left = one-to-come (placed_fragments d) names (seen_open lists) (left_in d names lists) x
      (is_left lists) left

  -- where no set is open, nothing is left
  pub left-ends : left_in d names [] ≡ record { fields = []; opened = names; turns = 0 }
  left-ends = is [] _ (turn-by-turn (placed_fragments d) names).ends

  -- there is a turn left while one is open
  pub left-goes_on : (l : Open) (lists : List Open) → 0 < (left_in d names (l ∷ lists)).turns
  left-goes_on l lists = (turn-by-turn (placed_fragments d) names).goes_on (placed l.0 l.1) (seen_open lists)
      (left_in d names (l ∷ lists)) (is_left (l ∷ lists))

  module _ (ty : NameView) (lists : List Open) where
    -- an empty set is closed
    pub left-closes : left_in d names ((ty, []) ∷ lists) ≡ a_turn_before (left_in d names lists)
    left-closes = is ((ty, []) ∷ lists) _
        (rw (placed-none ty) ((turn-by-turn (placed_fragments d) names).closes (seen_open lists)
        (left_in d names lists) (is_left lists)))

    module _ (rest : List Selection) where
      -- a field is given, and its set is opened where there is something in it
      pub left-leaf : (n : NodeView Field) → n.value.selection_set.selections ≡ []
          → left_in d names ((ty, variant.Field n ∷ rest) ∷ lists)
          ≡ a_field_before (record { ty = ty; field = n }) (left_in d names ((ty, rest) ∷ lists))
      left-leaf n empty =
          let set = n.value.selection_set in
          let none_over = ap (λ ss. over (placed set.ty ss) (seen_open ((ty, rest) ∷ lists))) empty
          ∙ over-none set.ty (seen_open ((ty, rest) ∷ lists)) in
          is ((ty, variant.Field n ∷ rest) ∷ lists) _ (rw (placed-field ty n rest)
          ((turn-by-turn (placed_fragments d) names).gives _ (placed_set set) (placed ty rest)
          (seen_open lists) _ (rw none_over (is_left ((ty, rest) ∷ lists)))))

      pub left-field : (n : NodeView Field) (s : Selection) (ss : List Selection)
          → n.value.selection_set.selections ≡ s ∷ ss
          → left_in d names ((ty, variant.Field n ∷ rest) ∷ lists)
          ≡ a_field_before (record { ty = ty; field = n }) (left_in d names
          ((n.value.selection_set.ty, n.value.selection_set.selections) ∷ (ty, rest) ∷ lists))
      left-field n s ss filled =
          let set = n.value.selection_set in
          let others = seen_open ((ty, rest) ∷ lists) in
          let all_over : over (placed_set set) others ≡ placed_set set ∷ others =
          rw filled (over-some set.ty s ss others) in
          is ((ty, variant.Field n ∷ rest) ∷ lists) _ (rw (placed-field ty n rest)
          ((turn-by-turn (placed_fragments d) names).gives _ (placed_set set) (placed ty rest) (seen_open
          lists) _ (rw all_over (is_left ((set.ty, set.selections) ∷ (ty, rest) ∷ lists)))))

      -- the set of an inline fragment is opened
      pub left-inline : (n : NodeView InlineFragment)
          → left_in d names ((ty, variant.InlineFragment n ∷ rest) ∷ lists) ≡ a_turn_before (left_in d names
          ((n.value.selection_set.ty, n.value.selection_set.selections) ∷ (ty, rest) ∷ lists))
      left-inline n =
          let set = n.value.selection_set in
          is ((ty, variant.InlineFragment n ∷ rest) ∷ lists) _ (rw (placed-inline ty n rest)
          ((turn-by-turn (placed_fragments d) names).goes_inside (placed_set set) (placed ty rest)
          (seen_open lists) _ (is_left ((set.ty, set.selections) ∷ (ty, rest) ∷ lists))))

      module _ (n : NodeView FragmentSpread) where
        -- a spread of a name that is opened, or that has no fragment, is passed over
        passes : (names n.value.fragment_name.text ≡ true) ⊎ (lookup (by_text n.value.fragment_name.text)
            d.fragments ≡ None)
            → left_in d names ((ty, variant.FragmentSpread n ∷ rest) ∷ lists)
            ≡ a_turn_before (left_in d names ((ty, rest) ∷ lists))
        passes why = is ((ty, variant.FragmentSpread n ∷ rest) ∷ lists) _ (rw (placed-spread ty n rest)
            ((turn-by-turn (placed_fragments d) names).passes n.value.fragment_name.text (placed ty rest)
            (seen_open lists) _ (grind (arith, why, fragment-missing d n.value.fragment_name.text))
            (is_left ((ty, rest) ∷ lists))))

        pub left-opened : names n.value.fragment_name.text ≡ true
            → left_in d names ((ty, variant.FragmentSpread n ∷ rest) ∷ lists)
            ≡ a_turn_before (left_in d names ((ty, rest) ∷ lists))
        left-opened opened = passes (inl opened)

        pub left-missing : lookup (by_text n.value.fragment_name.text) d.fragments ≡ None
            → left_in d names ((ty, variant.FragmentSpread n ∷ rest) ∷ lists)
            ≡ a_turn_before (left_in d names ((ty, rest) ∷ lists))
        left-missing missing = passes (inr missing)

        -- at any other spread the name and the set of its fragment are opened
        pub left-opens : (f : NodeView Fragment) → names n.value.fragment_name.text ≡ false
            → lookup (by_text n.value.fragment_name.text) d.fragments ≡ Some f
            → left_in d names ((ty, variant.FragmentSpread n ∷ rest) ∷ lists)
            ≡ a_turn_before (left_in d (with_name n.value.fragment_name.text names)
            ((f.value.selection_set.ty, f.value.selection_set.selections) ∷ (ty, rest) ∷ lists))
        unfolding left_in
        left-opens f closed found =
            let set = f.value.selection_set in
            is ((ty, variant.FragmentSpread n ∷ rest) ∷ lists) _ (rw (placed-spread ty n rest)
            ((turn-by-turn (placed_fragments d) names).opens n.value.fragment_name.text (placed_set set)
            (placed ty rest) (seen_open lists) _ closed (fragment-found d n.value.fragment_name.text f
            found) (what_is_to_come (placed_fragments d) (with_name n.value.fragment_name.text names)
            (seen_open ((set.ty, set.selections) ∷ (ty, rest) ∷ lists))).1))

-- all that is to come at first is what is reached
pub all-reached : (d : ExecutableDocument) (set : SelectionSet) → (all_to_come d set).fields ≡ reached d set
unfolding reached
all-reached d set =
    let fragments = placed_fragments d in
    let s = placed_set set in
    let walk = (begins fragments s (all_to_come d set) (is_left d no_names ((set.ty, set.selections)
    ∷ []))).walk in
    (order_determined fragments walk.order (ordered fragments no_names s).order).0
