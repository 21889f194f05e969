-- What a command answers of the typed document that an input means: docs/NOTATION.md.
use Rattle.std.specs.Prelude.{◌≡◌, ◌&&◌, ◌==◌, ◌++◌, ℕ, Bool, not, List, length}
use Rattle.apollo_executable.specs.declared.document.ExecutableDocument.{ExecutableDocument}
use Rattle.apollo_meaning.specs.Faults.Collisions.{Fault}
use Rattle.apollo_schema.specs.declared.schema.Schema.{Schema}
use Rattle.apollo_document.specs.Typable.{Fault as DocumentFault}
use Rattle.gqltool_run.specs.DocumentBuilding.{IsBuiltDocument}
use Rattle.gqltool_run.specs.FaultLines.{AreFaultLines}

-- behind a text of which `Says` holds stand the lines of a schema's faults, and then those of a document's
pub record WithFaultLines (Says : List ℕ → Type 0) (schema_faults : List Fault) (faults : List DocumentFault)
    (text : List ℕ) : Type 0 where
  pub first : List ℕ
  pub says : Says first
  -- the lines of the schema's faults
  pub schema_lines : List ℕ
  pub schema_tells : AreFaultLines schema_faults schema_lines
  -- the lines of the document's faults
  pub lines : List ℕ
  pub tells : AreFaultLines faults lines
  pub prints : text ≡ first ++ (schema_lines ++ lines)

-- whether there is a fault
abbrev pub any_fault : List Fault → List DocumentFault → Bool
any_fault schema_faults faults = not ((length schema_faults == 0) && (length faults == 0))

-- the text says this of the typed document that the input means, over its schema, and then the faults of
-- both. Something is at fault unless there is no fault, and nothing of what else is counted
pub record IsDocumentAnswer (Says : Schema → ExecutableDocument → List ℕ → Type 0)
    (others : Schema → ExecutableDocument → ℕ) (input text : List ℕ) (has_faults : Bool) : Type 0 where
  pub schema : Schema
  pub document : ExecutableDocument
  pub schema_faults : List Fault
  pub faults : List DocumentFault
  pub means : IsBuiltDocument input schema document schema_faults faults
  pub says : WithFaultLines (Says schema document) schema_faults faults text
  pub any : has_faults
      ≡ not ((others schema document == 0) && ((length schema_faults == 0) && (length faults == 0)))
