use Rattle.apollo_schema_laws.proofs.Sections.{directives-in_order}
use Rattle.apollo_schema_laws.proofs.write_out.written_parts_keep_directives_in_order.Goals as goal

pub returns : goal.returns
returns c = directives-in_order
