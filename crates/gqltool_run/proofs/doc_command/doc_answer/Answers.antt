use Rattle.std.proofs.Common.{◌∙◌, ap}
use Rattle.bench_notation.specs.Text.{printed_definitions}
use Rattle.gqltool_run.proofs.BuiltLemmas.{document-answer, with-fault-lines}
use Rattle.gqltool_run.proofs.doc_command.doc_answer.Goals as goal

pub returns-clause-means : goal.returns-clause-means
returns-clause-means c =
    let compiled = c.in_ok-compiled.compiled in
    let print = c.in_ok-text.ensures ∙ ap printed_definitions (c.as_slice.ensures
    ∙ ap (λ d. d.definitions) c.in_ok-compiled.ensures.compiled.1.1.1.erased) in
    document-answer c.args.input.now compiled c.in_ok-compiled.ensures.compiled _ _
    (with-fault-lines _ _ _ _ _ print (rw c.as_slice-2.ensures.value at c.in_ok-push_faults.ensures)
    (rw c.as_slice-3.ensures.value at c.in_ok-push_faults-2.ensures)) c.has_faults.ensures
