use Rattle.apollo_canonical.proofs.Documents.KeptDefinitions.{executables, executables_of_document}
use Rattle.apollo_canonical.proofs.well_formed_documents.executables_are_well_formed_by_their_definitions.Goals as goal

pub returns : goal.returns
returns c = record { of_definitions = executables; of_document = executables_of_document }
