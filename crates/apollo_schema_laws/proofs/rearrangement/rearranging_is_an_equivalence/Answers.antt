use Rattle.apollo_schema_laws.proofs.Rearranged.Found.{rearranged-refl, rearranged-sym}
use Rattle.apollo_schema_laws.proofs.Rearranged.Found.{rearranged-trans}
use Rattle.apollo_schema_laws.proofs.rearrangement.rearranging_is_an_equivalence.Goals as goal

pub returns : goal.returns
returns c = record { itself = rearranged-refl; back = rearranged-sym; twice = rearranged-trans }
