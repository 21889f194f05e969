use Rattle.gqltool_run.proofs.CauseLemmas.{compiled-cause}
use Rattle.gqltool_run.proofs.building.build_input.Goals as goal

pub returns-in_err-built-clause-causes : goal.returns-in_err-built-clause-causes
returns-in_err-built-clause-causes c = compiled-cause c.from_residual-in_err-built.result c.args.options
    c.args.input.now c.in_ok-documents.documents.items _ c.in_err-built.field-0.0
    c.from_residual-in_err-built.ensures.1 c.in_ok-documents.ensures.said c.as_slice.ensures.value
    (λ spent. c.in_err-built.ensures.spent cc)
