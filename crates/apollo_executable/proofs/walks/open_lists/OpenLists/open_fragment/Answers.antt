use Rattle.std.proofs.Common.{◌≡◌, inl, inr, true, false, Bor, refl, sym, ap, ◌∙◌}
use Rattle.apollo_walks.specs.Selections.{with_name}
use Rattle.apollo_executable.specs.Walks.Left.{AreSameLists, names_opened, waiting_lists, marked_names}
use Rattle.apollo_executable.specs.declared.document.ExecutableDocument.{ExecutableDocument}
use Rattle.apollo_executable.specs.declared.operation.Fragment.{Fragment}
use Rattle.apollo_executable.proofs.Walking.FlagLemmas.{marked_names-mark, marked_names-at, marked_names-same}
use Rattle.apollo_executable.proofs.Walking.WalkLemmas.{waiting-push, OnErr-always}
use Rattle.apollo_executable.proofs.walks.open_lists.OpenLists.open_fragment.Goals as goal

pub returns-in_default-clause-turn : goal.returns-in_default-clause-turn
returns-in_default-clause-turn c =
    let w = c.args.self.now in
    let missing = rw c.deref.ensures at (sym c.in_default.ensures.value) in
    (c.walks_are_left_by_turn.ensures.turns w.deep w.document.now (names_opened w)
    (waiting_lists w.waiting.items)).passes c.args.spread.now c.args.rest.now (inr missing)

pub returns-then-is_marked-clause-turn : goal.returns-then-is_marked-clause-turn
returns-then-is_marked-clause-turn c =
    let w = c.args.self.now in
    let n = c.args.spread.now in
    let place = rw c.deref.ensures at (sym c.in-Some.ensures.place) in
    let marked = rw c.as_slice.ensures.value at (sym c.is_marked.ensures ∙ c.if-is_marked.true) in
    (c.walks_are_left_by_turn.ensures.turns w.deep w.document.now (names_opened w)
    (waiting_lists w.waiting.items)).passes n c.args.rest.now
    (inl (marked_names-at w.document.now w.opened.items n.value.fragment_name.text c.in-Some.place true
    place marked))

pub returns-in_err-make_room-clause-refused : goal.returns-in_err-make_room-clause-refused
returns-in_err-make_room-clause-refused c =
    let w = c.args.self.now in
    let names = marked_names-same w.document.now w.opened.items c.make_room.new.flags.items
    c.make_room.ensures.marks in
    OnErr-always (AreSameLists w (record w { opened = c.make_room.new.flags })) _
    (record { current = refl; waiting = refl; names = names })

pub returns-in_err-open-clause-refused : goal.returns-in_err-open-clause-refused
returns-in_err-open-clause-refused c =
    let w = c.args.self.now in
    let opened = c.in_err-open.ensures.refused in
    let names = opened.names ∙ marked_names-same w.document.now w.opened.items c.make_room.new.flags.items
    c.make_room.ensures.marks in
    OnErr-always (AreSameLists w c.open.new.self) _
    (record { current = opened.current; waiting = opened.waiting; names = names })

pub returns-clause-turn : goal.returns-clause-turn
returns-clause-turn c =
    let w = c.args.self.now in
    let n = c.args.spread.now in
    let text = n.value.fragment_name.text in
    let v = c.open.new.self in
    let e = c.open.ensures in
    let room = c.make_room.new.flags.items in
    let marks = c.mark.new.flags.items in
    let set = c.in-Some.fragment.now.value.selection_set.selections in
    let place = rw c.deref.ensures at (sym c.in-Some.ensures.place) in
    let found = rw c.deref.ensures at (sym c.in-Some.ensures.value) in
    let not_marked = rw c.as_slice.ensures.value at (sym c.is_marked.ensures ∙ c.if-is_marked.false) in
    let closed = marked_names-at w.document.now w.opened.items text c.in-Some.place false place not_marked in
    let document : v.document.now ≡ w.document.now = ap (λ (d : Bor ExecutableDocument). d.now) e.document in
    let marked = marked_names-mark w.document.now room marks text c.in-Some.place place
    (rw e.opened at c.mark.ensures) in
    let names : marked_names v.document.now marks ≡ with_name text (names_opened w) =
    ap (λ (d : ExecutableDocument). marked_names d marks) document ∙ marked ∙ ap (with_name text)
    (marked_names-same w.document.now w.opened.items room c.make_room.ensures.marks) in
    let lists = ap waiting_lists c.in_ok-open.ensures.waiting ∙ waiting-push w.waiting.items c.args.rest in
    let current : v.current.now ≡ set = c.in_ok-open.ensures.current ∙ c.as_slice-2.ensures
    ∙ ap (λ (f : Fragment). f.selection_set.selections) c.deref-2.ensures in
    rw (names, document, e.deep, lists, current)
    ((c.walks_are_left_by_turn.ensures.turns w.deep w.document.now (names_opened w)
    (waiting_lists w.waiting.items)).opens n c.args.rest.now c.in-Some.fragment.now closed found)
