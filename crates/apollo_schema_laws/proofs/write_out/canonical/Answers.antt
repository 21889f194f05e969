use Rattle.apollo_schema_laws.proofs.Rebuild.{equal, faultless, same-written, rebuilds}
use Rattle.apollo_schema_laws.proofs.write_out.canonical.Goals as goal

pub returns : goal.returns
returns c = record {
  faults = faultless;
  equal = λ schema rebuilt m ignores again. equal schema m ignores again rebuilt;
  written = λ schema rebuilt m ignores again. same-written schema m ignores again rebuilt;
  means = λ schema m ignores again. ∣ rebuilds schema m ignores again ∣₁;
}
