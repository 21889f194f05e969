use Rattle.std.proofs.Common.{refl}
use Rattle.apollo_schema_laws.proofs.write_out.worked_write_out_is_written_again.Goals as goal

pub returns-clause-writes : goal.returns-clause-writes
returns-clause-writes c = refl
