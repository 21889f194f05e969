use Rattle.apollo_schema_laws.proofs.Types.{type-again, components-again}
use Rattle.apollo_schema_laws.proofs.write_out.written_types_are_written_again.Goals as goal

pub returns : goal.returns
returns c = record { same = type-again; components = components-again }
