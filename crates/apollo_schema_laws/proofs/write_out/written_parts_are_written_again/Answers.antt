use Rattle.apollo_schema_laws.proofs.Sections.{written-parts-again}
use Rattle.apollo_schema_laws.proofs.write_out.written_parts_are_written_again.Goals as goal

pub returns : goal.returns
returns c = written-parts-again
