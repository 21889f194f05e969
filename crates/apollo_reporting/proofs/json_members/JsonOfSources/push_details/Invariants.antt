-- The details so far stand behind what stood there.
use Rattle.std.proofs.Common.{◌≡◌, ◌++◌, map, take, string_bytes}
use Rattle.apollo_reporting.specs.FaultData.{detail_member}
use Rattle.apollo_reporting.specs.MemberTexts.{members_behind}
use Rattle.apollo_reporting.proofs.json_members.JsonOfSources.push_details.Given as goal

abbrev pub invariant-loop-detail : goal.invariant-loop-detail
invariant-loop-detail g l = string_bytes l.text ≡ string_bytes l.fn.text
    ++ members_behind (map (detail_member (g.S.Sources.files l.self.sources.now))
    (take l.detail-index l.details))
