use Rattle.std.proofs.Common.{rules, ◌≡◌, [], string_bytes}
use Rattle.apollo_executable.proofs.Walking.WalkLemmas.{OnErr-always}
use Rattle.gqltool_run.proofs.WalkLineLemmas.{lines-cut_in_document, lines-cut_in_schema, lines-cut_in_walks}
use Rattle.gqltool_run.proofs.WalkLineLemmas.{lines-said}
use Rattle.gqltool_run.proofs.walk_command.walk_answer.Goals as goal

pub returns-in_err-push_walks-clause-begun : goal.returns-in_err-push_walks-clause-begun
returns-in_err-push_walks-clause-begun g c =
    let compiled = c.args.compiled.now in
    let none : string_bytes c.new-text.result ≡ [] = search rules in
    let cut = rw none at c.in_err-push_walks.ensures.begun in
    OnErr-always _ _ (lines-cut_in_walks compiled.document compiled.schema_faults.items
    compiled.document_faults.items _ _ [] cut)

pub returns-in_err-say_faults-clause-begun : goal.returns-in_err-say_faults-clause-begun
returns-in_err-say_faults-clause-begun g c =
    let compiled = c.args.compiled.now in
    let none : string_bytes c.new-text.result ≡ [] = search rules in
    let walked = rw none at c.in_ok-push_walks.ensures.said in
    let cut = rw c.as_slice.ensures.value at c.in_err-say_faults.ensures.begun in
    OnErr-always _ _ (lines-cut_in_schema compiled.document compiled.schema_faults.items
    compiled.document_faults.items _ _ [] (string_bytes c.push_walks.new.text) walked _ cut)

pub returns-in_err-say_faults-2-clause-begun : goal.returns-in_err-say_faults-2-clause-begun
returns-in_err-say_faults-2-clause-begun g c =
    let compiled = c.args.compiled.now in
    let none : string_bytes c.new-text.result ≡ [] = search rules in
    let walked = rw none at c.in_ok-push_walks.ensures.said in
    let told = rw c.as_slice.ensures.value at c.in_ok-say_faults.ensures.said in
    let cut = rw c.as_slice-faults.ensures.value at c.in_err-say_faults-2.ensures.begun in
    OnErr-always _ _ (lines-cut_in_document compiled.document compiled.schema_faults.items
    compiled.document_faults.items _ _ [] (string_bytes c.push_walks.new.text) walked _ _ told _ cut)

pub returns-clause-said : goal.returns-clause-said
returns-clause-said g c =
    let sent = g.O.Outlet.sent in
    let compiled = c.args.compiled.now in
    let none : string_bytes c.new-text.result ≡ [] = search rules in
    let walked = rw none at c.in_ok-push_walks.ensures.said in
    let told = rw c.as_slice.ensures.value at c.in_ok-say_faults.ensures.said in
    let last = rw c.as_slice-faults.ensures.value at c.in_ok-say_faults-2.ensures.said in
    lines-said compiled.document compiled.schema_faults.items compiled.document_faults.items
    (sent c.args.outlet.now) (sent c.push_walks.new.outlet) [] (string_bytes c.push_walks.new.text) walked
    (sent c.say_faults.new.outlet) (string_bytes c.say_faults.new.text) told
    (sent c.say_faults-2.new.outlet) (string_bytes c.say_faults-2.new.text) last
