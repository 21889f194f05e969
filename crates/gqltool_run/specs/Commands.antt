-- The commands of the program, docs/NOTATION.md: what each answers, and what is written of it.
use Rattle.std.specs.Prelude.{◌≡◌, ◌++◌, ℕ, Bool, List, [], All, Option}
use Rattle.std.specs.Io.KnownBytes.{Appends}
use Rattle.graphql_ast.specs.declared.definition.Definition.{Definition}
use Rattle.bench_notation.specs.Line.{IsLine, lines_of}
use Rattle.bench_notation.specs.Text.{printed_definitions}
use Rattle.apollo_executable.specs.declared.document.ExecutableDocument.{ExecutableDocument}
use Rattle.apollo_coordinate.specs.declared.lookup_answers.SchemaCoordinateLookup.{SchemaCoordinateLookup}
use Rattle.gqltool_run.specs.declared.failure.Failure.{Failure}
use Rattle.gqltool_run.specs.declared.task.Task.{Task}
use Rattle.gqltool_run.specs.declared.task.Task.TheVariants as tasks
use Rattle.apollo_compiler.specs.Lists.{no_options}
use Rattle.gqltool_run.specs.Building.{IsCause}
use Rattle.gqltool_run.specs.CoordCommand.{IsCoordAnswer, coordinate_line, found_line}
use Rattle.gqltool_run.specs.DocCommand.{IsDocAnswer}
use Rattle.gqltool_run.specs.DocumentBuilding.{IsDocumentCause}
use Rattle.gqltool_run.specs.LeafCommand.{IsLeafAnswer}
use Rattle.gqltool_run.specs.SchemaCommand.{IsAnswer}
use Rattle.gqltool_run.specs.Tasks.{Ask}
use Rattle.gqltool_run.specs.WalkCommand.{AreWalksText, IsWalkAnswer}

-- the text is the answer to what was asked and an input, with faults or without
abbrev pub IsAnswerOf : Task → List ℕ → List ℕ → Bool → Type 0
IsAnswerOf (tasks.Schema options) input text has_faults = IsAnswer options input text has_faults
IsAnswerOf (tasks.Coord coordinate) input text has_faults = IsCoordAnswer coordinate input text has_faults
IsAnswerOf tasks.Doc input text has_faults = IsDocAnswer input text has_faults
IsAnswerOf tasks.Walk input text has_faults = IsWalkAnswer input text has_faults
IsAnswerOf tasks.Leaf input text has_faults = IsLeafAnswer input text has_faults

-- the text is such as is answered where nothing is at fault. Of `schema` and `doc` it is the print of
-- definitions. Of `coord` it is the lines of the coordinate and of something found. Of `walk` it is the walks
-- over a document, and of `leaf` nothing
abbrev pub IsPrintOf : Task → List ℕ → Type 0
IsPrintOf (tasks.Schema options) text = (definitions : List Definition)
    × (text ≡ printed_definitions definitions)
IsPrintOf (tasks.Coord coordinate) text = (found : SchemaCoordinateLookup)
    × (text ≡ coordinate_line coordinate ++ found_line found)
IsPrintOf tasks.Doc text = (definitions : List Definition) × (text ≡ printed_definitions definitions)
IsPrintOf tasks.Walk text = (document : ExecutableDocument) × AreWalksText document text
IsPrintOf tasks.Leaf text = text ≡ []

-- why there is no answer to what was asked and an input
abbrev pub IsCauseOf : Task → List ℕ → Failure → Type 0
IsCauseOf (tasks.Schema options) input failure = IsCause options input failure
IsCauseOf (tasks.Coord coordinate) input failure = IsCause no_options input failure
IsCauseOf tasks.Doc input failure = IsDocumentCause input failure
IsCauseOf tasks.Walk input failure = IsDocumentCause input failure
IsCauseOf tasks.Leaf input failure = IsDocumentCause input failure

-- this input is made of lines of the notation, and the text is the answer to these words and it
abbrev pub IsAnswerTo : List (List ℕ) → List ℕ → List ℕ → Bool → Type 0
IsAnswerTo words input text has_faults = All IsLine (lines_of input)
    × ((task : Task) × (Ask words task × IsAnswerOf task input text has_faults))

-- the text is such as these words answer where nothing is at fault
abbrev pub IsPrintTo : List (List ℕ) → List ℕ → Type 0
IsPrintTo words text = (task : Task) × (Ask words task × IsPrintOf task text)

-- the text is a beginning of the answer to these words and this input
abbrev pub IsBeginning : List (List ℕ) → List ℕ → List ℕ → Type 0
IsBeginning words input text = (rest : List ℕ)
    × ((has_faults : Bool) × IsAnswerTo words input (text ++ rest) has_faults)

-- the answer to these words and this input is appended
abbrev pub AppendAnswer : List (List ℕ) → Bool → Option (List ℕ) → Option (List ℕ) → List ℕ → Type 0
AppendAnswer words has_faults old new input = (text : List ℕ)
    × (IsAnswerTo words input text has_faults × Appends old new text)

-- a beginning of the answer to these words and this input is appended
abbrev pub AppendBeginning : List (List ℕ) → Option (List ℕ) → Option (List ℕ) → List ℕ → Type 0
AppendBeginning words old new input = (text : List ℕ) × (IsBeginning words input text × Appends old new text)

-- what these words answer where nothing is at fault is appended
abbrev pub AppendPrint : List (List ℕ) → Option (List ℕ) → Option (List ℕ) → Type 0
AppendPrint words old new = (text : List ℕ) × (IsPrintTo words text × Appends old new text)
