-- The members were written in this order.
use Rattle.std.proofs.Common.{◌≡◌, List, ℕ, ◌++◌, ap, map, ◌∙◌, codes, string_bytes}
use Rattle.serde_json.specs.Data.{string}
use Rattle.apollo_reporting.specs.Abouts.{about_view}
use Rattle.apollo_reporting.specs.FaultData.{detail_member, fault_data, file_member, path_members}
use Rattle.apollo_reporting.specs.FaultData.{span_members, type_member}
use Rattle.apollo_reporting.specs.MemberTexts.{member_text}
use Rattle.apollo_reporting.proofs.JsonLemmas.{fault_written}
use Rattle.apollo_reporting.proofs.json_members.JsonOfSources.push_fault.Goals as goal

pub returns : goal.returns
unfolding fault_data
returns g c =
    let files = g.S.Sources.files c.args.self.now.sources.now in
    let about = about_view c.args.about.now in
    let old = string_bytes c.args.text.now in
    let typed = string_bytes c.push_string_member.new.text in
    let second : string_bytes c.push_string_member-2.new.text ≡ typed ++ member_text (codes ",")
    (codes "kind", string about.kind) = c.in_ok-push_string_member-2.ensures ∙ ap (λ (kind : List ℕ). typed
    ++ member_text (codes ",") (codes "kind", string kind)) c.as_str.ensures in
    fault_written (type_member c.args.of_type.now) (codes "kind", string about.kind)
    (codes "message", string c.args.said.now)
    (file_member c.args.location files) (span_members c.args.location files) (path_members about.path)
    (map (detail_member files) c.args.details.now) old _ _ _ _ _ _ _ _ c.in_ok-push_string_member.ensures
    second c.in_ok-push_string_member-3.ensures c.in_ok-push_file.ensures c.in_ok-push_span.ensures
    c.in_ok-push_path.ensures c.in_ok-push_details.ensures c.in_ok-push_str.ensures.bytes
