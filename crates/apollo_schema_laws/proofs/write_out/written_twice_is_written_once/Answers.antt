use Rattle.std.proofs.Common.{◌∙◌}
use Rattle.apollo_schema_laws.proofs.write_out.written_twice_is_written_once.Goals as goal

pub returns : goal.returns
returns c = λ schema m ignores again twice w. w.2 ∙ c.canonical.ensures.written schema w.0 m ignores again w.1
