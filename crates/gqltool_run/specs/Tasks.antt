-- What the words of the command line ask for: docs/NOTATION.md.
use Rattle.std.specs.Prelude.{◌≡◌, ◌⊎◌, ℕ, List, [], ◌∷◌, None, codes}
use Rattle.apollo_coordinate.specs.CoordinateText.{IsCoordinateText, SaysCoordinate}
use Rattle.apollo_coordinate.specs.Refusals.{without_at}
use Rattle.apollo_compiler.specs.declared.compile_error.CompileError.TheVariants as spent
use Rattle.apollo_compiler.specs.declared.compile_options.CompileOptions.{CompileOptions}
use Rattle.gqltool_run.specs.declared.failure.Failure.{Failure}
use Rattle.gqltool_run.specs.declared.failure.Failure.TheVariants as failures
use Rattle.gqltool_run.specs.declared.task.Task.{Task}
use Rattle.gqltool_run.specs.declared.task.Task.TheVariants as tasks
use Rattle.gqltool_run.specs.SchemaOptions.{AreSchemaWords}

-- these words are the command `coord` with this text
abbrev pub AreCoordWords : List (List ℕ) → List ℕ → Type 0
AreCoordWords words text = words ≡ codes "coord" ∷ text ∷ []

-- these words are the command `doc`
abbrev pub AreDocWords : List (List ℕ) → Type 0
AreDocWords words = words ≡ codes "doc" ∷ []

-- these words are the command `walk`
abbrev pub AreWalkWords : List (List ℕ) → Type 0
AreWalkWords words = words ≡ codes "walk" ∷ []

-- these words are the command `leaf`
abbrev pub AreLeafWords : List (List ℕ) → Type 0
AreLeafWords words = words ≡ codes "leaf" ∷ []

-- these words are neither `doc` nor `walk` nor `leaf`
pub record AreNoDocumentWords (words : List (List ℕ)) : Type 0 where
  pub no_doc : ¬ AreDocWords words
  pub no_walk : ¬ AreWalkWords words
  pub no_leaf : ¬ AreLeafWords words

-- these words ask for this
abbrev pub Ask : List (List ℕ) → Task → Type 0
Ask words (tasks.Schema options) = AreSchemaWords words options
Ask words (tasks.Coord coordinate) = (text : List ℕ)
    × (AreCoordWords words text × SaysCoordinate text coordinate)
Ask words tasks.Doc = AreDocWords words
Ask words tasks.Walk = AreWalkWords words
Ask words tasks.Leaf = AreLeafWords words

-- these words are no command
pub record AreNoCommand (words : List (List ℕ)) : Type 0 where
  pub no_schema : (options : CompileOptions) → ¬ AreSchemaWords words options
  pub no_coord : (text : List ℕ) → ¬ AreCoordWords words text
  pub no_document : AreNoDocumentWords words

-- these words are the command `coord` with a text of no coordinate
abbrev pub AskNoCoordinate : List (List ℕ) → Type 0
AskNoCoordinate words = (text : List ℕ) × (AreCoordWords words text × ¬ IsCoordinateText text)

-- why a text is not read. It is of no coordinate, and is reported without the `@` that it may begin with. Or
-- memory ran out
abbrev pub IsTextRefusal : List ℕ → Failure → Type 0
IsTextRefusal text (failures.NoCoordinate error) = ¬ IsCoordinateText text
    × (error ≡ record { name = without_at text; location = None })
IsTextRefusal text (failures.Exhausted spent.Memory) = Unit {0}
IsTextRefusal text _ = ⊥

-- why words are refused: they are no command, or the text of `coord` is refused
abbrev pub IsRefusalOf : List (List ℕ) → Failure → Type 0
IsRefusalOf words failure = (AreNoCommand words × (failure ≡ failures.Usage))
    ⊎ ((text : List ℕ) × (AreCoordWords words text × IsTextRefusal text failure))
