-- What is built of an input, where it is known what the input is compiled to.
use Rattle.std.proofs.Common.{◌≡◌, ◌==◌, ◌&&◌, ◌++◌, ◌∙◌, ℕ, Bool, List, ap, append_assoc, length, not}
use Rattle.apollo_compiler.specs.declared.compile_options.CompileOptions.{CompileOptions}
use Rattle.apollo_compiler.specs.declared.compiled.Compiled.{Compiled}
use Rattle.apollo_document.specs.Typable.{Fault as DocumentFault}
use Rattle.apollo_executable.specs.declared.document.ExecutableDocument.{ExecutableDocument}
use Rattle.apollo_meaning.specs.Faults.Collisions.{Fault}
use Rattle.apollo_schema.specs.declared.schema.Schema.{Schema}
use Rattle.gqltool_run.specs.Building.{IsBuilt, IsCompiledInput}
use Rattle.gqltool_run.specs.DocumentAnswers.{IsDocumentAnswer, WithFaultLines}
use Rattle.gqltool_run.specs.DocumentBuilding.{IsBuiltDocument, IsCompiledDivided}
use Rattle.gqltool_run.specs.FaultLines.{AreFaultLines}

-- the schema, of an input without executable documents
pub built : (options : CompileOptions) (input : List ℕ) (compiled : Compiled)
    → IsCompiledInput options input compiled
    → IsBuilt options input compiled.schema compiled.schema_faults.items
built options input compiled (documents, (says, is)) = record {
  documents = documents;
  says = says;
  means = is.schema;
  sources = is.schema_sources;
  are = is.schema_faults;
}

-- the typed document and its schema, of an input that a line divides
pub built-document : (input : List ℕ) (compiled : Compiled) → IsCompiledDivided input compiled
    → IsBuiltDocument input compiled.schema compiled.document compiled.schema_faults.items
    compiled.document_faults.items
built-document input compiled (before, (behind, (says, is))) = record {
  schema_documents = before;
  executable_documents = behind;
  says = says;
  means = is.schema;
  schema_sources = is.schema_sources;
  schema_are = is.schema_faults;
  typed = is.document;
  document_sources = is.document_sources;
  are = is.document_faults;
}

module _ {Says : Schema → ExecutableDocument → List ℕ → Type 0} {others : Schema → ExecutableDocument → ℕ}
    (input : List ℕ) (compiled : Compiled) (is : IsCompiledDivided input compiled) where
  -- an answer of what an input is compiled to
  pub document-answer : (text : List ℕ) (has_faults : Bool)
      → WithFaultLines (Says compiled.schema compiled.document) compiled.schema_faults.items
      compiled.document_faults.items text
      → has_faults ≡ not ((others compiled.schema compiled.document == 0)
      && ((length compiled.schema_faults.items == 0) && (length compiled.document_faults.items == 0)))
      → IsDocumentAnswer Says others input text has_faults
  document-answer text has_faults says any = record {
    schema = compiled.schema;
    document = compiled.document;
    schema_faults = compiled.schema_faults.items;
    faults = compiled.document_faults.items;
    means = built-document input compiled is;
    says = says;
    any = any;
  }

-- the lines of faults that are added behind a text
pub with-fault-lines : {Says : List ℕ → Type 0} (fs : List Fault) (gs : List DocumentFault)
    (first second text : List ℕ) → Says first
    → ((lines : List ℕ) × ((second ≡ first ++ lines) × AreFaultLines fs lines))
    → ((lines : List ℕ) × ((text ≡ second ++ lines) × AreFaultLines gs lines))
    → WithFaultLines Says fs gs text
with-fault-lines fs gs first second text says schema document = record {
  first = first;
  says = says;
  schema_lines = schema.0;
  schema_tells = schema.1.1;
  lines = document.0;
  tells = document.1.1;
  prints = document.1.0 ∙ ap (λ l. l ++ document.0) schema.1.0 ∙ append_assoc first schema.0 document.0;
}
