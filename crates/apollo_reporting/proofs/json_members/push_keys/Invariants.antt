-- The keys so far stand behind what stood there.
use Rattle.std.proofs.Common.{◌≡◌, ◌++◌, take, string_bytes}
use Rattle.apollo_reporting.specs.FaultData.{keys_data}
use Rattle.apollo_reporting.specs.MemberTexts.{items_behind}
use Rattle.apollo_reporting.proofs.json_members.push_keys.Given as goal

abbrev pub invariant-loop-key : goal.invariant-loop-key
invariant-loop-key l = string_bytes l.text ≡ string_bytes l.fn.text
    ++ items_behind (keys_data (take l.key-index l.keys))
