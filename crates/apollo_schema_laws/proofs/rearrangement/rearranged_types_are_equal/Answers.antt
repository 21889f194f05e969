use Rattle.apollo_schema_laws.proofs.Rearranged.Types.{types-rearranged}
use Rattle.apollo_schema_laws.proofs.rearrangement.rearranged_types_are_equal.Goals as goal

pub returns : goal.returns
returns c = types-rearranged c.folded_extensions.ensures
