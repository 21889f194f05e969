use Rattle.std.proofs.Common.{◌≡◌, map, take}
use Rattle.apollo_field_usage.specs.Coordinates.{coordinate, same_coordinate}
use Rattle.apollo_field_usage.specs.Seen.{seen}
use Rattle.apollo_field_usage.specs.Tallies.{tally}
use Rattle.apollo_field_usage.proofs.tallies.count_all.Given as goal

-- those so far are counted
abbrev pub invariant-loop-field : goal.invariant-loop-field
invariant-loop-field l =
    l.table ≡ tally same_coordinate (map coordinate (map seen (take l.field-index l.fields)))
