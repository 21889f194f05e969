use Rattle.std.proofs.Common.{◌≡◌, map, take}
use Rattle.leafcheck.specs.LostPlaces as spec
use Rattle.leafcheck.proofs.lost_selections.lost_places.Given as goal

abbrev pub invariant-loop-fault : goal.invariant-loop-fault
invariant-loop-fault l = map spec.path_at l.places.items ≡ spec.lost_places (take l.fault-index l.faults)
