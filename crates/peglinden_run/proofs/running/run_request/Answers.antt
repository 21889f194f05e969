use Rattle.std.proofs.Common.{◌∙◌, sym}
use Rattle.peglinden_run.proofs.RunLemmas.{with_read}
use Rattle.peglinden_run.proofs.running.run_request.Goals as goal

pub returns-clause-ends : goal.returns-clause-ends
returns-clause-ends g c =
    let named = sym c.names_input.ensures ∙ c.if-not-names_input.false in
    rw named (with_read _ _ _ _ _ _ _ c.read_all-input.result (λ read. read.items) _ _ c.run_over-2.result
    c.read_all-input.ensures.bytes c.read_all-input.ensures.causes c.run_over-2.ensures.ends)
