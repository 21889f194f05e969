-- The document without operations and fragments: GraphQL specification of October 2021, section 2.2.
use Rattle.std.specs.Prelude.{[]}
use Rattle.apollo_executable.specs.Operations.{no_operations}
use Rattle.apollo_executable.specs.declared.document.ExecutableDocument.{ExecutableDocument}

-- no operation, no fragment, no source file
abbrev pub empty_document : ExecutableDocument
empty_document = record { sources = []; operations = no_operations; fragments = [] }
