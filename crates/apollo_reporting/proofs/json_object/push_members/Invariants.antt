-- The members so far stand behind what stood there.
use Rattle.std.proofs.Common.{◌≡◌, ◌++◌, take, string_bytes}
use Rattle.apollo_reporting.specs.JsonObjects.{json_members}
use Rattle.apollo_reporting.specs.MemberTexts.{members_behind}
use Rattle.apollo_reporting.proofs.json_object.push_members.Given as goal

abbrev pub invariant-loop-member : goal.invariant-loop-member
invariant-loop-member l = string_bytes l.text ≡ string_bytes l.fn.text
    ++ members_behind (json_members (take l.member-index l.members))
