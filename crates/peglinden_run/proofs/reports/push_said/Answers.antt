use Rattle.std.proofs.Common.{◌≡◌, ◌++◌, ◌∙◌, ap, codes, string_bytes}
use Rattle.std.proofs.lemmas.Result.{on_ok_weaker}
use Rattle.peglinden_run.specs.Reports.{Adds, IsSaid}
use Rattle.peglinden_run.proofs.ReportLemmas.{on_ok_if, said_added}
use Rattle.peglinden_run.proofs.reports.push_said.Goals as goal

pub returns : goal.returns
returns g c =
    let files = g.S.Sources.files c.args.sources.now in
    let about = g.E.Reported.said_about c.args.fault.now in
    let details = g.E.Reported.said_details c.args.fault.now in
    let old = string_bytes c.args.text.now in
    let middle = string_bytes c.push_str.new.self in
    let new = string_bytes c.push_str-2.new.self in
    on_ok_weaker {P = new ≡ middle ++ codes "\n"}
    {Q = Adds (IsSaid c.args.subject c.args.form files c.args.location about details) old new}
    c.push_str-2.result
    (λ two. said_added c.args.subject c.args.form g.E.Display.output g.E.Reported.said_about
    g.E.Reported.said_details files c.args.location c.args.fault.now (string_bytes c.in_ok-said_text.field-0)
    old middle new c.in_ok-said_text.ensures (c.in_ok-push_str.ensures.bytes
    ∙ ap (λ l. old ++ l) c.as_str.ensures.value) two) (on_ok_if c.push_str-2.result new (middle
    ++ codes "\n") middle c.push_str-2.ensures.bytes)
