use Rattle.apollo_canonical.proofs.Documents.FromTexts.{builds, reads}
use Rattle.apollo_canonical.proofs.laws.canonical_document_text.Goals as goal

pub returns-clause-read : goal.returns-clause-read
returns-clause-read c = λ schema document built filled some r handed is. reads c.documents_below.ensures
    schema document built filled some r is handed

pub returns-clause-builds : goal.returns-clause-builds
returns-clause-builds c = λ schema document built filled some r is. builds c.documents_below.ensures schema
    document built filled some r is
