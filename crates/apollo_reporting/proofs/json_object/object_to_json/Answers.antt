-- What it is, its members, and the other brace.
use Rattle.std.proofs.Common.{◌≡◌, ◌++◌, ◌∙◌, List, ℕ, ap, codes, string_bytes}
use Rattle.apollo_reporting.specs.FaultData.{type_member}
use Rattle.apollo_reporting.specs.JsonObjects.{json_members}
use Rattle.apollo_reporting.specs.MemberTexts.{member_text}
use Rattle.apollo_reporting.proofs.JsonLemmas.{typed_written}
use Rattle.apollo_reporting.proofs.json_object.object_to_json.Goals as goal

pub returns : goal.returns
returns c =
    let first = member_text (codes "{") (type_member c.args.of_type.now) in
    let begun : string_bytes c.push_string_member.new.text ≡ first = c.in_ok-push_string_member.ensures
    ∙ ap (λ (t : List ℕ). t ++ first) c.new-text.ensures.bytes in
    typed_written c.args.of_type.now (json_members c.args.members.now) _ _ _ begun
    c.in_ok-push_members.ensures c.in_ok-push_str.ensures.bytes
