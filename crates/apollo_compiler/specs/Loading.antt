-- Files that are loaded as documents: GraphQL specification of October 2021, section 2.2.
use Rattle.std.specs.Prelude.{◌≡◌, ◌≢◌, ℕ, suc, List, [], ◌∷◌, Option, None, Some, length, map, option_map}
use Rattle.std.specs.Borrow.{Bor}
use Rattle.std.specs.List.{AllZip, enumerate_from, filter_map}
use Rattle.graphql_nodes.specs.Sources.{Files, same_file}
use Rattle.graphql_nodes.specs.Tables.{insert_entry}
use Rattle.graphql_nodes.specs.declared.source.FileId.{FileId}
use Rattle.graphql_nodes.specs.declared.source.SourceFile.{SourceFile}
use Rattle.graphql_nodes.specs.declared.source.SourceSpan.{SourceSpan}
use Rattle.graphql_ast.specs.declared.definition.Definition.{Definition}
use Rattle.graphql_ast.specs.declared.document.Document.{Document}
use Rattle.graphql_grammar.specs.WordsOfText.{words_of}
use Rattle.graphql_productions.specs.Documents.{document, spells_document}
use Rattle.graphql_text.specs.Parses.{RefusedAt}
use Rattle.graphql_text.specs.declared.parse_error.ParseError.{ParseError}
use Rattle.graphql_text.specs.declared.parsing.ParseOptions.{ParseOptions}
use Rattle.program_io.specs.Files.{IsFileCause}
use Rattle.program_io.specs.declared.file_error.FileError.{FileError}
use Rattle.program_io.specs.declared.file_error.FileError.TheVariants as errors
use Rattle.apollo_compiler.specs.declared.file_refusal.FileRefusal.{FileRefusal}
use Rattle.apollo_compiler.specs.declared.file_refusal.FileRefusal.TheVariants as refusals
use Rattle.apollo_compiler.specs.declared.loading.LoadedDocuments.{LoadedDocuments}
use Rattle.apollo_compiler.specs.declared.reading.Reading.{Reading}
use Rattle.apollo_compiler.specs.declared.reading.Reading.TheVariants as readings
use Rattle.apollo_compiler.specs.SourceFiles.{file_of}

-- In all of this `held` says which bytes the file of a path may hold, and `may_fail` whether reading it may
-- fail.

-- the paths
abbrev pub paths_of : List (Bor (List ℕ)) → List (List ℕ)
paths_of paths = map (λ path. path.now) paths

-- the number of a file
abbrev pub numbered : ℕ → FileId
numbered number = record { 0 = number }

-- the text spells these definitions with these options, at locations in the file of this number
abbrev pub Spells : ParseOptions → FileId → List ℕ → List Definition → Type 0
Spells options number text definitions =
    spells_document number options.max_depth definitions (words_of options.max_tokens text)

-- the document is that of this file, under this number
pub record IsDocumentOfFile (options : ParseOptions) (number : FileId) (file : SourceFile)
    (document : Document) : Type 0 where
  pub sources : document.sources ≡ (number, file) ∷ []
  pub spelled : Spells options number file.text document.definitions

-- the text is no document, and the error says where it is none, and why
pub record IsNoDocument (options : ParseOptions) (number : FileId) (text : List ℕ) (error : ParseError)
    : Type 0 where
  pub none : (definitions : List Definition) → ¬ Spells options number text definitions
  pub why : RefusedAt (document number options.max_depth) (spells_document number options.max_depth)
      (document number (suc options.max_depth)).spells number (length text) (words_of options.max_tokens text)
      error

-- this becomes of a text, as that of the file of this path and number
abbrev pub IsReadingOfText : ParseOptions → FileId → List ℕ → List ℕ → Reading → Type 0
IsReadingOfText options number path text (readings.Unread named why) = ⊥
IsReadingOfText options number path text (readings.Refused file error) = (file ≡ file_of path text)
    × IsNoDocument options number text error
IsReadingOfText options number path text (readings.Read file document) = (file ≡ file_of path text)
    × IsDocumentOfFile options number file document

-- a file that may hold these bytes, and may fail for this, can't be read for this reason, which is none of
-- memory
abbrev pub IsUnread : (List ℕ → Type 0) → Type 0 → FileError → Type 0
IsUnread held may_fail why = IsFileCause held may_fail why × (why ≢ errors.Memory)

-- this may become of the file of this path, read under this number: it can't be read, or it is what becomes
-- of a text that the file may hold
abbrev pub IsReading : (List ℕ → List ℕ → Type 0) → (List ℕ → Type 0) → ParseOptions → FileId → List ℕ
    → Reading → Type 0
IsReading held may_fail options number path (readings.Unread named why) = (named ≡ path)
    × IsUnread (held path) (may_fail path) why
IsReading held may_fail options number path reading = (text : List ℕ)
    × (held path text × IsReadingOfText options number path text reading)

-- these may become of the files of these paths, in order, under numbers from this one on
abbrev pub AreReadings : (List ℕ → List ℕ → Type 0) → (List ℕ → Type 0) → ParseOptions → ℕ → List (List ℕ)
    → List Reading → Type 0
AreReadings held may_fail options first paths readings =
    AllZip (λ (it : ℕ × List ℕ) reading. IsReading held may_fail options (numbered it.0) it.1 reading)
    (enumerate_from first paths) readings

-- the document, if the file is one
abbrev pub document_of : Reading → Option Document
document_of (readings.Unread path why) = None
document_of (readings.Refused file error) = None
document_of (readings.Read file document) = Some document

-- why the file is refused, if it is
abbrev pub refusal_of : Reading → Option (Option SourceSpan × FileRefusal)
refusal_of (readings.Unread path why) = Some (None, refusals.Unread path why)
refusal_of (readings.Refused file error) = Some (Some error.location, refusals.Text error.kind)
refusal_of (readings.Read file document) = None

-- the file, if it could be read
abbrev pub source_of : Reading → Option SourceFile
source_of (readings.Unread path why) = None
source_of (readings.Refused file error) = Some file
source_of (readings.Read file document) = Some file

-- the file under its number, if it could be read
abbrev pub numbered_source : ℕ × Reading → Option (FileId × SourceFile)
numbered_source it = option_map (λ (file : SourceFile). (numbered it.0, file)) (source_of it.1)

-- the files that could be read, each under its number, which go from this one on
abbrev pub sources_from : ℕ → List Reading → Files
sources_from first readings = filter_map numbered_source (enumerate_from first readings)

-- the files with one more under this number, where there is one
abbrev pub with_source : FileId → Option SourceFile → Files → Files
with_source number None files = files
with_source number (Some file) files = insert_entry same_file files number file

-- the files of these paths are loaded, under numbers from this one on
pub record AreLoaded (held : List ℕ → List ℕ → Type 0) (may_fail : List ℕ → Type 0) (options : ParseOptions)
    (first : ℕ) (paths : List (List ℕ)) (loaded : LoadedDocuments) : Type 0 where
  -- what became of each file
  pub readings : List Reading
  pub are : AreReadings held may_fail options first paths readings
  pub documents : loaded.documents.items ≡ filter_map document_of readings
  pub refused : loaded.refused.items ≡ filter_map refusal_of readings
  pub sources : loaded.sources ≡ sources_from first readings
