-- A brace, the file, where the span starts and ends, and the other brace.
use Rattle.std.proofs.Common.{List, ℕ, ◌++◌, Some, ap, ◌∙◌, codes, string_bytes}
use Rattle.apollo_reporting.specs.FaultData.{file_member, span_members}
use Rattle.apollo_reporting.specs.MemberTexts.{members_behind}
use Rattle.apollo_reporting.proofs.JsonLemmas.{object_written}
use Rattle.apollo_reporting.proofs.json_members.JsonOfSources.push_object.Goals as goal

pub returns : goal.returns
returns g c =
    let files = g.S.Sources.files c.args.self.now.sources.now in
    let location = Some c.args.span in
    c.in_ok-push_str.ensures.bytes ∙ ap (λ (t : List ℕ). t ++ codes "}") (c.in_ok-push_span.ensures
    ∙ ap (λ (t : List ℕ). t ++ members_behind (span_members location files)) c.in_ok-push_file.ensures)
    ∙ object_written (string_bytes c.args.text.now) (file_member location files)
    (span_members location files)
