use Rattle.std.proofs.lemmas.Result.{IfOk-weaker}
use Rattle.apollo_compiler.proofs.building.build_schema.Goals as goal

pub returns : goal.returns
returns c =
    let built = c.build_prepared.ensures.built in
    record {
      means = IfOk-weaker c.build_prepared.result _ _ (λ pair is. is.means) built;
      sources = IfOk-weaker c.build_prepared.result _ _ (λ pair is. is.sources) built;
      faults = IfOk-weaker c.build_prepared.result _ _ (λ pair is. is.faults) built;
      spent = c.build_prepared.ensures.spent;
    }
