-- What is answered where nothing is at fault; that what is asked has no refused text, and is a command.
use Rattle.std.proofs.Common.{◌≡◌, ℕ, ◌==◌, ◌&&◌, Bool, true, false, not, List, [], ◌∷◌, ◌++◌, codes, length}
use Rattle.std.proofs.Common.{sym, ap, subst, ◌∙◌, arith}
use Rattle.std.proofs.lemmas.Bool.{eqb-true, true≢false}
use Rattle.std.proofs.lemmas.List.{append-nil, nil_from_length}
use Rattle.std.specs.List.{flat_map}
use Rattle.apollo_document.specs.Typable.{Fault as DocumentFault}
use Rattle.apollo_executable.specs.Erasure.{erased_definitions}
use Rattle.leafcheck.specs.LeafFaults.{leaf_faults}
use Rattle.apollo_coordinate.specs.CoordinateText.{IsCoordinateText, SaysCoordinate}
use Rattle.apollo_coordinate.specs.declared.schema_coordinate.SchemaCoordinate.{SchemaCoordinate}
use Rattle.apollo_coordinate.specs.declared.lookup_answers.SchemaCoordinateLookup.{SchemaCoordinateLookup}
use Rattle.apollo_meaning.specs.Faults.Collisions.{Fault}
use Rattle.apollo_schema.specs.declared.schema.Schema.{Schema}
use Rattle.apollo_schema.specs.SchemaWriteOut.{write_schema}
use Rattle.bench_notation.specs.Text.{printed_definitions}
use Rattle.gqltool_run.specs.declared.task.Task.{Task}
use Rattle.gqltool_run.specs.declared.task.Task.TheVariants as tasks
use Rattle.gqltool_run.specs.Commands.{IsAnswerOf, IsPrintOf}
use Rattle.gqltool_run.specs.CoordCommand.{IsFindingLine, coordinate_line, found_line}
use Rattle.gqltool_run.specs.DocumentAnswers.{WithFaultLines, any_fault}
use Rattle.gqltool_run.specs.FaultLines.{AreFaultLines}
use Rattle.gqltool_run.specs.LeafCommand.{leaf_line}
use Rattle.gqltool_run.specs.SchemaOptions.{AreSchemaWords}
use Rattle.gqltool_run.specs.Tasks.{AreNoCommand, Ask, AskNoCoordinate}
use Rattle.gqltool_run.proofs.FaultLineLemmas.{both-true, no-lines, not-false}

-- where something is found and nothing is at fault, there are two lines
found_print : (schema : Schema) (c : SchemaCoordinate) (found : Bool) (line lines text : List ℕ)
    (fs : List Fault) → IsFindingLine schema c found line → AreFaultLines fs lines
    → text ≡ coordinate_line c ++ (line ++ lines) → not (found && (length fs == 0)) ≡ false
    → (x : SchemaCoordinateLookup) × (text ≡ coordinate_line c ++ found_line x)
found_print schema c true line lines text fs finds tells prints none =
    let no : lines ≡ [] = no-lines fs lines (not-false _ none) tells in (
      finds.0,
      prints ∙ (λ i. coordinate_line c ++ (finds.1.1 i ++ no i))
          ∙ ap (λ l. coordinate_line c ++ l) (append-nil _),
    )
found_print schema c false line lines text fs finds tells prints none = absurd (true≢false none)

-- where there are no faults of a schema and of a document, nothing follows what is said first
pub faultless-first : {Says : List ℕ → Type 0} (fs : List Fault) (gs : List DocumentFault) (text : List ℕ)
    → WithFaultLines Says fs gs text → any_fault fs gs ≡ false → Says text
faultless-first {Says} fs gs text is none =
    let empty = both-true _ _ none in
    let first : is.schema_lines ≡ [] = no-lines fs is.schema_lines empty.0 is.schema_tells in
    let second : is.lines ≡ [] = no-lines gs is.lines empty.1 is.tells in
    subst Says (sym (is.prints ∙ (λ i. is.first ++ (first i ++ second i)) ∙ append-nil is.first)) is.says

-- an answer without faults is such as its command prints
pub faultless_print : (task : Task) (input text : List ℕ) (has_faults : Bool)
    → IsAnswerOf task input text has_faults → has_faults ≡ false → IsPrintOf task text
faultless_print (tasks.Schema options) input text has_faults is none =
    let no : is.lines ≡ [] = no-lines is.faults is.lines (not-false _ (sym is.any ∙ none)) is.tells in (
      write_schema is.schema,
      is.prints ∙ ap (λ l. printed_definitions (write_schema is.schema) ++ l) no ∙ append-nil _,
    )
faultless_print (tasks.Coord c) input text has_faults is none = found_print is.schema c is.is_found is.finding
    is.lines text is.faults is.finds is.tells is.prints (sym is.any ∙ none)
faultless_print tasks.Doc input text has_faults is none = (
  erased_definitions is.document,
  faultless-first is.schema_faults is.faults text is.says (sym is.any ∙ none),
)
faultless_print tasks.Walk input text has_faults is none =
    (is.document, faultless-first is.schema_faults is.faults text is.says (sym is.any ∙ none))
faultless_print tasks.Leaf input text has_faults is none =
    let leaves = leaf_faults is.schema is.document in
    let apart = both-true _ _ (sym is.any ∙ none) in
    let no : leaves ≡ [] = nil_from_length leaves (eqb-true _ 0 apart.0) in
    faultless-first is.schema_faults is.faults text is.says (ap not apart.1) ∙ ap (flat_map leaf_line) no

-- the words of the two commands begin with other letters
other_letters : ◌≡◌ {A = ℕ} 99 115 → ⊥
other_letters e = omega arith

-- words that ask for something have no refused text, since a text that says a coordinate is in the grammar
pub asked_apart : ((text : List ℕ) (c : SchemaCoordinate) → SaysCoordinate text c → IsCoordinateText text)
    → (words : List (List ℕ)) (task : Task) → Ask words task → AskNoCoordinate words → ⊥
asked_apart in_grammar words (tasks.Schema options) asked refused =
    let first : codes "coord" ≡ codes "schema" =
    (subst (λ (w : List (List ℕ)). AreSchemaWords w options) refused.1.0 asked).0 in
    let letter : ◌≡◌ {A = ℕ} 99 115 = cc in
    other_letters letter
asked_apart in_grammar words (tasks.Coord c) asked refused =
    let whole : codes "coord" ∷ asked.0 ∷ [] ≡ codes "coord" ∷ refused.0 ∷ [] = sym asked.1.0 ∙ refused.1.0 in
    let same : asked.0 ≡ refused.0 = cc in
    refused.1.1 (subst IsCoordinateText same (in_grammar asked.0 c asked.1.1))
asked_apart in_grammar words tasks.Doc asked refused = let same : codes "doc" ∷ [] ≡ codes "coord"
    ∷ refused.0 ∷ [] = sym asked ∙ refused.1.0 in cc
asked_apart in_grammar words tasks.Walk asked refused = let same : codes "walk" ∷ [] ≡ codes "coord"
    ∷ refused.0 ∷ [] = sym asked ∙ refused.1.0 in cc
asked_apart in_grammar words tasks.Leaf asked refused = let same : codes "leaf" ∷ [] ≡ codes "coord"
    ∷ refused.0 ∷ [] = sym asked ∙ refused.1.0 in cc

-- words that ask for something are a command
pub asked_command : (words : List (List ℕ)) (task : Task) → Ask words task → AreNoCommand words → ⊥
asked_command words (tasks.Schema options) asked none = none.no_schema options asked
asked_command words (tasks.Coord c) asked none = none.no_coord asked.0 asked.1.0
asked_command words tasks.Doc asked none = none.no_document.no_doc asked
asked_command words tasks.Walk asked none = none.no_document.no_walk asked
asked_command words tasks.Leaf asked none = none.no_document.no_leaf asked
