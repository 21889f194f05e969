-- What it is, its members, where it stands, and the other brace.
use Rattle.std.proofs.Common.{◌≡◌, ◌++◌, ◌∙◌, List, ℕ, ap, codes, string_bytes}
use Rattle.apollo_reporting.specs.FaultData.{file_member, span_members, type_member}
use Rattle.apollo_reporting.specs.JsonObjects.{json_members}
use Rattle.apollo_reporting.specs.MemberTexts.{member_text}
use Rattle.apollo_reporting.proofs.JsonLemmas.{placed_written}
use Rattle.apollo_reporting.proofs.json_object.placed_to_json.Goals as goal

pub returns : goal.returns
returns g c =
    let files = g.S.Sources.files c.args.sources.now in
    let first = member_text (codes "{") (type_member c.args.of_type.now) in
    let begun : string_bytes c.push_string_member.new.text ≡ first = c.in_ok-push_string_member.ensures
    ∙ ap (λ (t : List ℕ). t ++ first) c.new-text.ensures.bytes in
    placed_written c.args.of_type.now (json_members c.args.members.now) (span_members c.args.location files)
    (file_member c.args.location files) _ _ _ _ _ begun c.in_ok-push_members.ensures c.in_ok-push_file.ensures
    c.in_ok-push_span.ensures c.in_ok-push_str.ensures.bytes
