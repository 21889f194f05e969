use Rattle.std.proofs.Common.{◌≡◌, List, [], ◌∷◌, sym, ap, ◌∙◌}
use Rattle.std.proofs.lemmas.Bool.{eqb-true}
use Rattle.std.proofs.lemmas.List.{nil_from_length}
use Rattle.apollo_walks.specs.TurnByTurn.{a_turn_before, a_field_before}
use Rattle.apollo_executable.specs.Walks.Left.{marked_names}
use Rattle.apollo_executable.specs.declared.selection.Field.{Field}
use Rattle.apollo_executable.specs.declared.selection.Selection.{Selection}
use Rattle.apollo_executable.specs.declared.selection.Selection.TheVariants as variant
use Rattle.apollo_field_usage.specs.Left.{left_in, left_of, lists_of, names_opened, innermost_first}
use Rattle.apollo_field_usage.proofs.LeftLemmas.{left-closes, left-leaf, left-field, left-inline}
use Rattle.apollo_field_usage.proofs.OpenLemmas.{innermost-push, filled}
use Rattle.apollo_field_usage.proofs.open_sets.OpenSets.turn.Goals.{then-not-is_empty+in_ok-open-in-Field}
use Rattle.apollo_field_usage.proofs.open_sets.OpenSets.turn.Goals.{else-not-is_empty}
use Rattle.apollo_field_usage.proofs.open_sets.OpenSets.turn.Goals as goal

abbrev selections_of : Field → List Selection
selections_of f = f.selection_set.selections

pub returns-in_default-clause-turn : goal.returns-in_default-clause-turn
returns-in_default-clause-turn c =
    let v = c.args.self.now in
    let ty = c.args.set.ty.now in
    let empty : c.args.set.rest.now ≡ [] = nil_from_length c.args.set.rest.now c.in_default.ensures.cases in
    (λ i. left_in v.document.now (names_opened v) ((ty, empty i) ∷ lists_of v))
    ∙ left-closes v.document.now (names_opened v) ty (lists_of v)

pub returns-after-not-is_empty-clause-turn : goal.returns-after-not-is_empty-clause-turn
returns-after-not-is_empty-clause-turn c =
    let v = c.args.self.now in
    let d = v.document.now in
    let ty = c.args.set.ty.now in
    let n = c.in-Field.field in
    let rest = c.in-Some.rest.now in
    let all : c.args.set.rest.now ≡ variant.Field n ∷ rest =
    c.in-Some.ensures.cases.0 ∙ ap (λ s. s ∷ rest) c.in-Field.is in
    let waits : innermost_first c.push.new.self.items ≡ (ty, rest) ∷ lists_of v =
    ap innermost_first c.in_ok-push.ensures.items ∙ innermost-push v.open.items _ in
    (λ i. left_in v.document.now (names_opened v) ((ty, all i) ∷ lists_of v)) ∙
    elim c.if-not-is_empty.branch [
      | then-not-is_empty+in_ok-open-in-Field w ↦
          let new = w.open.new.self in
          let e = w.open.ensures in
          let more = filled c.deref.result.now.selection_set.selections (sym w.if-not-is_empty.ensures) in
          let some = sym (ap selections_of c.deref.ensures) ∙ more.2 in
          let lists : lists_of new
          ≡ (n.value.selection_set.ty, n.value.selection_set.selections) ∷ (ty, rest) ∷ lists_of v =
          w.in_ok-open-in-Field.ensures.lists ∙ (λ i. let g = w.deref-then-not-is_empty.ensures i in
          (g.selection_set.ty, g.selection_set.selections) ∷ waits i) in
          let names : names_opened new ≡ names_opened v =
          λ i. marked_names (e.document i).now (e.opened i).items in
          let left = ap left_of w.self-is ∙ (λ i. left_in (e.document i).now (names i) (lists i)) in
          left-field d (names_opened v) ty (lists_of v) rest n more.0 more.1 some
          ∙ ap (a_field_before (record { ty = ty; field = n })) (sym left)
      | else-not-is_empty w ↦
          let empty = nil_from_length c.deref.result.now.selection_set.selections
          (eqb-true _ _ (sym w.if-not-is_empty.ensures)) in
          let none = sym (ap selections_of c.deref.ensures) ∙ empty in
          let left = ap left_of w.self-is ∙ (λ i. left_in d (names_opened v) (waits i)) in
          left-leaf d (names_opened v) ty (lists_of v) rest n none
          ∙ ap (a_field_before (record { ty = ty; field = n })) (sym left)
    ]

pub returns-in_ok-open-in-InlineFragment-clause-turn : goal.returns-in_ok-open-in-InlineFragment-clause-turn
returns-in_ok-open-in-InlineFragment-clause-turn c =
    let v = c.args.self.now in
    let d = v.document.now in
    let ty = c.args.set.ty.now in
    let n = c.in-InlineFragment.inline in
    let rest = c.in-Some.rest.now in
    let new = c.open-in-InlineFragment.new.self in
    let e = c.open-in-InlineFragment.ensures in
    let all : c.args.set.rest.now ≡ variant.InlineFragment n ∷ rest = c.in-Some.ensures.cases.0
    ∙ ap (λ s. s ∷ rest) c.in-InlineFragment.is in
    let waits : innermost_first c.push.new.self.items ≡ (ty, rest) ∷ lists_of v =
    ap innermost_first c.in_ok-push.ensures.items ∙ innermost-push v.open.items _ in
    let lists : lists_of new ≡ (n.value.selection_set.ty, n.value.selection_set.selections) ∷ (ty, rest)
    ∷ lists_of v = c.in_ok-open-in-InlineFragment.ensures.lists
    ∙ (λ i. let g = c.deref-in-InlineFragment.ensures i in
    (g.selection_set.ty, g.selection_set.selections) ∷ waits i) in
    let names : names_opened new ≡ names_opened v = λ i. marked_names (e.document i).now (e.opened i).items in
    (λ i. left_in d (names_opened v) ((ty, all i) ∷ lists_of v)) ∙ left-inline d (names_opened v) ty (lists_of
    v) rest n ∙ (λ i. a_turn_before (left_in ((sym e.document i).now) (sym names i) (sym lists i)))

pub returns-in_ok-open_fragment-in-FragmentSpread-clause-turn :
    goal.returns-in_ok-open_fragment-in-FragmentSpread-clause-turn
returns-in_ok-open_fragment-in-FragmentSpread-clause-turn c =
    let v = c.args.self.now in
    let ty = c.args.set.ty.now in
    let n = c.in-FragmentSpread.spread in
    let rest = c.in-Some.rest.now in
    let all : c.args.set.rest.now ≡ variant.FragmentSpread n ∷ rest = c.in-Some.ensures.cases.0
    ∙ ap (λ s. s ∷ rest) c.in-FragmentSpread.is in
    let waits : innermost_first c.push.new.self.items ≡ (ty, rest) ∷ lists_of v =
    ap innermost_first c.in_ok-push.ensures.items ∙ innermost-push v.open.items _ in
    (λ i. left_in v.document.now (names_opened v) ((ty, all i) ∷ lists_of v))
    ∙ c.in_ok-open_fragment-in-FragmentSpread.ensures.turn ty rest (lists_of v) waits
