use Rattle.std.proofs.Common.{string_bytes}
use Rattle.peglinden_run.specs.Findings.{first_of, found_in}
use Rattle.peglinden_run.proofs.SaidOfAll.{says-all}
use Rattle.peglinden_run.proofs.findings.Findings.said_in.Goals as goal

pub returns : goal.returns
returns g c =
    let found = first_of c.args.most (found_in c.args.self.now) in
    let there = record found { sources = g.S.Sources.files c.args.sources.now } in
    let done = says-all _ _ _ there (string_bytes c.new-text.result)
    (string_bytes c.push_each.new.text) (string_bytes c.push_each-2.new.text)
    (string_bytes c.push_leaves.new.text) c.new-text.ensures.bytes
    (rw c.first-shown.ensures.schema at c.in_ok-push_each.ensures)
    (rw c.first-shown.ensures.document at c.in_ok-push_each-2.ensures)
    (rw c.first-shown.ensures.leaves at c.in_ok-push_leaves.ensures) in
    rw c.requires at done
