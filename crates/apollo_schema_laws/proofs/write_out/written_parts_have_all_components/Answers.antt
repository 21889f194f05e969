use Rattle.apollo_schema_laws.proofs.Sections.{written-keeps}
use Rattle.apollo_schema_laws.proofs.write_out.written_parts_have_all_components.Goals as goal

pub returns : goal.returns
returns c = written-keeps
