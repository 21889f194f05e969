use Rattle.std.proofs.Common.{◌∙◌, None, Some, ap, append-nil, sym}
use Rattle.std.specs.Option.{option_map}
use Rattle.leafcheck.specs.LostPlaces.{path_at}
use Rattle.leafcheck.proofs.LostLemmas.{places_more}
use Rattle.leafcheck.proofs.lost_selections.lost_places.Goals as goal
use Rattle.leafcheck.proofs.lost_selections.lost_places.Goals.{in-Some+in_ok-push, in_default}

pub loop-fault-preserved : goal.loop-fault-preserved
loop-fault-preserved c =
    let faults = c.args.faults.now in
    let i = c.loop-fault.fault-index in
    let fault = c.fault-item.result in
    let old = c.loop-fault.places.items in
    elim c.match-lost_at.branch [
      | in-Some+in_ok-push w ↦
          places_more faults i fault old _ (Some w.in-Some.place) c.loop-fault-test.true c.fault-item.is
          c.loop-fault.invariant (ap (option_map path_at) (sym w.in-Some.is) ∙ c.lost_at.ensures)
          (ap (λ p. p.items) w.places-is ∙ w.in_ok-push.ensures.items)
      | in_default w ↦
          places_more faults i fault old _ None c.loop-fault-test.true c.fault-item.is
          c.loop-fault.invariant (ap (option_map path_at) (sym w.in_default.is) ∙ c.lost_at.ensures)
          (ap (λ p. p.items) w.places-is ∙ sym (append-nil old))
    ]
