use Rattle.apollo_schema_laws.proofs.Rearranged.Types.{schema-rearranged}
use Rattle.apollo_schema_laws.proofs.rearrangement.rearranged_schema_definitions_are_equal.Goals as goal

pub returns : goal.returns
returns c = schema-rearranged c.folded_schema_extensions.ensures
