use Rattle.std.proofs.Common.{◌≡◌, inl, inr, List, [], ◌∷◌, map, arith}
use Rattle.graphql_nodes.specs.NodeView.{NodeView}
use Rattle.apollo_walks.specs.Selections.{no_names}
use Rattle.apollo_walks.specs.ToCome.{ToCome, IsToCome}
use Rattle.apollo_walks.proofs.Steps.{what_is_to_come}
use Rattle.apollo_executable.specs.Walks.Plain.{Plain, plain, below_of, fragments_of}
use Rattle.apollo_executable.specs.Walks.Left.{left_in, whole_walk}
use Rattle.apollo_executable.specs.Walks.LeftByTurn.{with_list}
use Rattle.apollo_executable.specs.declared.selection.Selection.{Selection}
use Rattle.apollo_executable.specs.declared.selection.Selection.TheVariants as variant
use Rattle.apollo_executable.specs.declared.selection.Field.{Field}
use Rattle.apollo_executable.proofs.Walking.FlagLemmas.{fragment-found, fragment-missing}
use Rattle.apollo_executable.proofs.Walking.FlagLemmas.{opened_names-reached}
use Rattle.apollo_executable.proofs.Walking.PlainLemmas.{plain-none, plain-field, plain-spread, plain-inline}
use Rattle.apollo_executable.proofs.Walking.PlainLemmas.{over-list}
use Rattle.apollo_executable.proofs.walks.left.walks_are_left_by_turn.Goals as goal

pub returns-clause-turns : goal.returns-clause-turns
unfolding left_in
returns-clause-turns c = λ deep document names lists.
    let fragments = fragments_of deep document in
    let steps = c.walks_go_turn_by_turn.ensures.turns fragments names in
    let others : List Plain = map (plain deep) lists in
    let is_left : (ls : List (List Selection))
    → IsToCome fragments names (map (plain deep) ls) (left_in deep document names ls) = λ ls.
    (what_is_to_come fragments names (map (plain deep) ls)).1 in
    let is : (ls : List (List Selection)) (x : ToCome (NodeView Field))
    → IsToCome fragments names (map (plain deep) ls) x → left_in deep document names ls ≡ x =
    λ ls x left. c.walks_go_turn_by_turn.ensures.one fragments names (map (plain deep) ls)
    (left_in deep document names ls) x (is_left ls) left in
    record {
      ends = is [] _ steps.ends;
      goes_on = λ list. steps.goes_on (plain deep list) others (left_in deep document names (list ∷ lists))
          (is_left (list ∷ lists));
      closes = is ([] ∷ lists) _
          (rw (plain-none deep) (steps.closes others (left_in deep document names lists) (is_left lists)));
      gives = λ n rest. is ((variant.Field n ∷ rest) ∷ lists) _ (rw (plain-field deep n rest)
          (steps.gives n (plain deep (below_of deep n.value)) (plain deep rest) others _
          (rw (over-list deep (below_of deep n.value) (rest ∷ lists))
          (is_left (with_list (below_of deep n.value) (rest ∷ lists))))));
      goes_inside = λ n rest. is ((variant.InlineFragment n ∷ rest) ∷ lists) _ (rw (plain-inline deep n rest)
          (steps.goes_inside _ (plain deep rest) others _
          (is_left (n.value.selection_set.selections ∷ (rest ∷ lists)))));
      passes = λ n rest why. is ((variant.FragmentSpread n ∷ rest) ∷ lists) _
          (rw (plain-spread deep n rest) (steps.passes n.value.fragment_name.text (plain deep rest) others _
          (elim why [
            | inl opened ↦ inl opened
            | inr missing ↦ inr (fragment-missing deep document n.value.fragment_name.text missing)
          ]) (is_left (rest ∷ lists))));
      opens = λ n rest f closed found. is ((variant.FragmentSpread n ∷ rest) ∷ lists) _
          (rw (plain-spread deep n rest)
          (steps.opens n.value.fragment_name.text _ (plain deep rest) others _ closed
          (fragment-found deep document n.value.fragment_name.text f found) (what_is_to_come fragments _
          (map (plain deep) (f.value.selection_set.selections ∷ (rest ∷ lists)))).1));
    }

pub returns-clause-whole : goal.returns-clause-whole
unfolding left_in
returns-clause-whole c = λ deep document set.
    let fragments = fragments_of deep document in
    let s = plain deep set.selections in
    let all = c.walks_go_turn_by_turn.ensures.begins fragments s (whole_walk deep document set)
    (what_is_to_come fragments no_names (s ∷ [])).1 in
    let few = c.walks_take_few_turns.ensures.few fragments s (whole_walk deep document set).turns all.turns in
    record {
      fields = all.walk;
      turns = all.turns;
      within = λ turns less. (few.0, few.1, omega (arith, few.2, less));
      opened = opened_names-reached deep document s _ all.opens
          (c.walks_open_what_is_reached.ensures.defined fragments s);
    }
