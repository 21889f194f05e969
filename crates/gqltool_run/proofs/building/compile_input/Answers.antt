use Rattle.gqltool_run.proofs.CauseLemmas.{compiled-cause}
use Rattle.gqltool_run.proofs.building.compile_input.Goals as goal

pub returns-clause-compiled : goal.returns-clause-compiled
returns-clause-compiled c = (
  c.in_ok-documents.documents.items,
  (c.in_ok-documents.ensures.said, rw c.as_slice.ensures.value at c.in_ok-compiled.ensures.compiled),
)

pub returns-in_err-compiled-clause-causes : goal.returns-in_err-compiled-clause-causes
returns-in_err-compiled-clause-causes c = compiled-cause c.from_residual-in_err-compiled.result
    c.args.options c.args.input.now c.in_ok-documents.documents.items _ c.in_err-compiled.field-0.0
    c.from_residual-in_err-compiled.ensures.1 c.in_ok-documents.ensures.said c.as_slice.ensures.value
    (λ spent. c.in_err-compiled.ensures.spent cc)
