use Rattle.std.proofs.Common.{◌≡◌, ◌++◌, ◌∙◌, ◌+◌, None, Some, string_bytes, sym, ap, arith}
use Rattle.std.proofs.lemmas.List.{append-nil}
use Rattle.peglinden_run.proofs.DocumentLemmas.{matched-err, matched-ok, next-document, next-reported}
use Rattle.peglinden_run.proofs.documents.read_documents.Goals as goal
use Rattle.peglinden_run.proofs.documents.read_documents.Goals.{in-Ok+in_ok-push_document-in-Ok}
use Rattle.peglinden_run.proofs.documents.read_documents.Goals.{in-Err+in_ok-push_str-in-Err}

pub loop-index-preserved : goal.loop-index-preserved
loop-index-preserved g c =
    let held = g.F.Files.holds c.args.files.now in
    let may_fail = g.F.Files.may_fail c.args.files.now in
    let paths = c.args.paths.now in
    let i = c.loop-index.index in
    let below = c.loop-index-test.true in
    let before = c.loop-index.invariant in
    let text = string_bytes c.loop-index.reports in
    let after = string_bytes c.match-branch-2.reports in
    let count = c.loop-index.refused in
    let more = c.match-branch-2.refused in
    elim c.match-branch-2.branch [
      | in-Ok+in_ok-push_document-in-Ok w ↦
          let same : more ≡ count = w.refused-is in
          record {
            documents = λ none.
                let are = next-document held may_fail paths i _ below c.loop-index.documents.items
                w.in-Ok.document (λ n. matched-ok c.in_ok-document.field-0 w.in-Ok.document _ _ w.in-Ok.is
                (c.in_ok-document.ensures n)) (before.documents (sym w.refused-is ∙ none)) in
                rw (w.documents-is, w.in_ok-push_document-in-Ok.ensures) are;
            reported = next-reported held may_fail paths i _ below c.args.form None text after count more
                (λ n. (
                  w.in-Ok.document,
                  matched-ok c.in_ok-document.field-0 w.in-Ok.document _ _ w.in-Ok.is
                      (c.in_ok-document.ensures n),
                )) before.reported (ap string_bytes w.reports-is ∙ sym (append-nil text))
                (omega (arith, same));
            few = let few = before.few in omega (arith, same, few);
          }
      | in-Err+in_ok-push_str-in-Err w ↦
          let one : more ≡ count + 1 = w.refused-is in
          record {
            documents = λ none. absurd (let no : more ≡ 0 = none in omega (arith, one, no));
            reported = next-reported held may_fail paths i _ below c.args.form
                (Some (string_bytes w.in-Err.report)) text
                after count more (λ n. matched-err c.in_ok-document.field-0 w.in-Err.report _ _ w.in-Err.is
                (c.in_ok-document.ensures n)) before.reported (ap string_bytes w.reports-is
                ∙ w.in_ok-push_str-in-Err.ensures.bytes ∙ ap (λ l. text ++ l) w.as_str.ensures.value)
                (omega (arith, one));
            few = let few = before.few in omega (arith, one, few);
          }
    ]
