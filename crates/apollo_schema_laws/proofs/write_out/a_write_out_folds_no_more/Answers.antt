use Rattle.std.proofs.Common.{arith}
use Rattle.apollo_schema_laws.proofs.Rebuild.{folds-no_more}
use Rattle.apollo_schema_laws.proofs.write_out.a_write_out_folds_no_more.Goals as goal

pub returns : goal.returns
returns c = record {
  folds = folds-no_more;
  spends = λ start again adopts ignores xs schema means spent.
      omega (arith, spent, folds-no_more start adopts ignores xs schema means);
}
