use Rattle.apollo_canonical.proofs.Schemas.FromTexts.{builds, reads}
use Rattle.apollo_canonical.proofs.laws.canonical_text.Goals as goal

pub returns-clause-read : goal.returns-clause-read
returns-clause-read c = λ schema built some r handed is. reads c.schemas_below.ensures schema built some r is
    handed

pub returns-clause-builds : goal.returns-clause-builds
returns-clause-builds c = λ schema built some r is. builds c.schemas_below.ensures schema built some r is
