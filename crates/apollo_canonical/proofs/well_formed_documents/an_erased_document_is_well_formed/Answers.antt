use Rattle.apollo_executable.specs.Erasure.{erased_definitions}
use Rattle.apollo_canonical.proofs.Documents.FilledByParts.{document_fills}
use Rattle.apollo_canonical.proofs.Documents.KeptDefinitions.{document_erased}
use Rattle.apollo_canonical.proofs.well_formed_documents.an_erased_document_is_well_formed.Goals as goal

pub returns : goal.returns
returns c = record {
  each = document_erased;
  whole = λ schema xs document means executables filled some.
      c.documents_are_well_formed_by_their_definitions.ensures.joined (erased_definitions document) some
      (document_erased schema xs document means executables filled);
  needed = document_fills;
}
