use Rattle.apollo_schema_laws.proofs.Rearranged.Found.{rearranged-append}
use Rattle.apollo_schema_laws.proofs.rearrangement.joined_lists_are_rearranged.Goals as goal

pub returns : goal.returns
returns c = rearranged-append
