use Rattle.apollo_canonical.proofs.Schemas.WriteOut.{document-added, document-joined}
use Rattle.apollo_canonical.proofs.well_formed.documents_are_well_formed_by_their_definitions.Goals as goal

pub returns : goal.returns
returns c = record { added = document-added; joined = document-joined }
