use Rattle.std.proofs.Common.{◌≡◌, ◌<◌, true, false, List, ◌∷◌, length, sym, ap, ◌∙◌, arith}
use Rattle.apollo_walks.specs.Selections.{with_name}
use Rattle.apollo_walks.specs.TurnByTurn.{a_turn_before}
use Rattle.apollo_executable.specs.Walks.Left.{marked_names}
use Rattle.apollo_executable.proofs.Walking.FlagLemmas.{marked_names-mark, marked_names-at}
use Rattle.apollo_field_usage.specs.Left.{Open, left_in, names_opened, lists_of}
use Rattle.apollo_field_usage.proofs.LeftLemmas.{left-missing, left-opened, left-opens}
use Rattle.apollo_field_usage.proofs.OpenLemmas.{mark-at, key-there}
use Rattle.apollo_field_usage.proofs.open_sets.OpenSets.open_fragment.Goals as goal

pub returns-in_default-clause-turn : goal.returns-in_default-clause-turn
returns-in_default-clause-turn c = λ ty rest lists first.
    let w = c.args.self.now in
    let missing = rw c.deref.ensures at (sym c.in_default.ensures.value) in
    left-missing w.document.now (names_opened w) ty lists rest c.args.spread.now missing
    ∙ ap (λ (l : List Open). a_turn_before (left_in w.document.now (names_opened w) l)) (sym first)

pub returns-then-index-clause-turn : goal.returns-then-index-clause-turn
returns-then-index-clause-turn c = λ ty rest lists first.
    let w = c.args.self.now in
    let d = w.document.now in
    let n = c.args.spread.now in
    let text = n.value.fragment_name.text in
    let at = c.in-Some.place in
    let place = rw c.deref.ensures at (sym c.in-Some.ensures.place) in
    let there : at < length w.opened.items = omega (arith, w.marks, key-there d.fragments text at place) in
    let mark = mark-at w.opened.items at c.index.result.now c.index.ensures there true c.if-index.true in
    let marked = marked_names-at d w.opened.items text at true place mark in
    left-opened d (names_opened w) ty lists rest n marked
    ∙ ap (λ (l : List Open). a_turn_before (left_in d (names_opened w) l)) (sym first)

pub returns-clause-turn : goal.returns-clause-turn
returns-clause-turn c = λ ty rest lists first.
    let w = c.args.self.now in
    let d = w.document.now in
    let n = c.args.spread.now in
    let text = n.value.fragment_name.text in
    let f = c.in-Some.fragment.now in
    let new = c.open.new.self in
    let marks = c.mark.new.marks.items in
    let place = rw c.deref.ensures at (sym c.in-Some.ensures.place) in
    let found = rw c.deref.ensures at (sym c.in-Some.ensures.value) in
    let there : c.in-Some.place < length w.opened.items =
    omega (arith, w.marks, key-there d.fragments text c.in-Some.place place) in
    let mark = mark-at w.opened.items c.in-Some.place c.index.result.now c.index.ensures there false
    c.if-index.false in
    let closed : names_opened w text ≡ false = marked_names-at d w.opened.items text c.in-Some.place false
    place mark in
    let marked = marked_names-mark d w.opened.items marks text c.in-Some.place place
    (rw c.open.ensures.opened at c.mark.ensures.marked) in
    let document : new.document.now ≡ d = λ i. (c.open.ensures.document i).now in
    let names : marked_names new.document.now marks ≡ with_name text (names_opened w) =
    (λ i. marked_names (document i) marks) ∙ marked in
    let set : lists_of new ≡ (f.value.selection_set.ty, f.value.selection_set.selections) ∷ (ty, rest)
    ∷ lists = c.in_ok-open.ensures.lists ∙ (λ i. let g = c.deref-2.ensures i in
    (g.selection_set.ty, g.selection_set.selections) ∷ first i) in
    left-opens d (names_opened w) ty lists rest n f closed found
    ∙ (λ i. a_turn_before (left_in (sym document i) (sym names i) (sym set i)))
