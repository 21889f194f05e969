use Rattle.std.proofs.Common.{◌≡◌, [], ◌∷◌, sym, ap, ◌∙◌, arith}
use Rattle.std.proofs.lemmas.List.{nil_from_length}
use Rattle.std.proofs.lemmas.Bool.{eqb-true}
use Rattle.apollo_executable.specs.Walks.Left.{waiting_lists, names_opened}
use Rattle.apollo_executable.specs.Walks.Plain.{below_of}
use Rattle.apollo_executable.specs.declared.selection.InlineFragment.{InlineFragment}
use Rattle.apollo_executable.proofs.Walking.WalkLemmas.{waiting-push, waiting-empty, cons-by-length}
use Rattle.apollo_executable.proofs.walks.open_lists.OpenLists.turn.Goals.{in-None-pop, in-Some-pop}
use Rattle.apollo_executable.proofs.walks.open_lists.OpenLists.turn.Goals.{then-is_empty}
use Rattle.apollo_executable.proofs.walks.open_lists.OpenLists.turn.Goals.{else-is_empty+in_ok-open-in-Field}
use Rattle.apollo_executable.proofs.walks.open_lists.OpenLists.turn.Goals as goal

pub returns-after-pop-clause-turn : goal.returns-after-pop-clause-turn
returns-after-pop-clause-turn c =
    let v = c.args.self.now in
    let left = c.walks_are_left_by_turn.ensures.turns v.deep v.document.now (names_opened v) in
    let current : v.current.now ≡ [] = nil_from_length v.current.now c.in-None.ensures.cases in
    elim c.match-pop.branch [
      | in-None-pop w ↦
          let stack : v.waiting.items ≡ [] = nil_from_length v.waiting.items
          (omega (arith, v.waiting.ok.0, w.in-None-pop.ensures.cases.0)) in
          let lists : waiting_lists v.waiting.items ≡ [] = ap waiting_lists stack ∙ waiting-empty in
          rw (w.self-is, c.requires, current, lists) (left []).closes
      | in-Some-pop w ↦
          let list = w.in-Some-pop.list in
          let lists = ap waiting_lists w.in-Some-pop.ensures.items ∙ waiting-push c.pop.new.self.items list in
          rw (w.self-is, c.requires, current, lists)
          (left (list.now ∷ waiting_lists c.pop.new.self.items)).closes
    ]

pub returns-after-is_empty-clause-turn : goal.returns-after-is_empty-clause-turn
returns-after-is_empty-clause-turn c =
    let v = c.args.self.now in
    let n = c.in-Field.field in
    let first = c.in-Some.ensures.cases.0 in
    let below = c.below-below.ensures ∙ ap (below_of v.deep) c.deref.ensures in
    let gives = (c.walks_are_left_by_turn.ensures.turns v.deep v.document.now (names_opened v)
    (waiting_lists v.waiting.items)).gives n c.in-Some.rest.now in
    elim c.if-is_empty.branch [
      | then-is_empty w ↦
          let empty = sym below
          ∙ nil_from_length c.below-below.result.now (eqb-true _ _ (sym w.if-is_empty.ensures)) in
          (rw (w.self-is, c.requires, first, c.in-Field.is) (rw empty at gives), rw (w.self-is) c.requires)
      | else-is_empty+in_ok-open-in-Field w ↦
          let e = w.open.ensures in
          let current = w.in_ok-open-in-Field.ensures.current in
          let lists = ap waiting_lists w.in_ok-open-in-Field.ensures.waiting
          ∙ waiting-push v.waiting.items c.in-Some.rest in
          let more = cons-by-length c.below-below.result.now (sym w.if-is_empty.ensures) in
          let filled = sym below ∙ more.2 in (
            rw (
              w.self-is,
              e.ended,
              e.document,
              e.opened,
              e.deep,
              c.requires,
              first,
              c.in-Field.is,
              current,
              more.2,
              lists,
            ) (rw filled at gives),
            rw (w.self-is, e.ended) c.requires,
          )
    ]

pub returns-in_ok-open-in-InlineFragment-clause-turn : goal.returns-in_ok-open-in-InlineFragment-clause-turn
returns-in_ok-open-in-InlineFragment-clause-turn c =
    let v = c.args.self.now in
    let n = c.in-InlineFragment.inline in
    let first = c.in-Some.ensures.cases.0 in
    let e = c.open-in-InlineFragment.ensures in
    let inner = c.as_slice.ensures ∙ ap (λ (f : InlineFragment). f.selection_set.selections)
    c.deref-in-InlineFragment.ensures in
    let current = c.in_ok-open-in-InlineFragment.ensures.current ∙ inner in
    let lists = ap waiting_lists c.in_ok-open-in-InlineFragment.ensures.waiting
    ∙ waiting-push v.waiting.items c.in-Some.rest in
    rw (e.ended, e.document, e.opened, e.deep, c.requires, first, c.in-InlineFragment.is, current, lists)
    ((c.walks_are_left_by_turn.ensures.turns v.deep v.document.now (names_opened v)
    (waiting_lists v.waiting.items)).goes_inside n c.in-Some.rest.now)
