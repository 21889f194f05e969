-- What the command `doc` answers: docs/NOTATION.md, and GraphQL specification of October 2021, sections 2.2
-- to 2.8.
use Rattle.std.specs.Prelude.{◌≡◌, ℕ, Bool, List}
use Rattle.apollo_executable.specs.Erasure.{erased_document}
use Rattle.bench_notation.specs.Text.{printed_definitions}
use Rattle.gqltool_run.specs.DocumentAnswers.{IsDocumentAnswer}

-- the text is the print of the write-out of the typed document that the input means, and then of its schema's
-- faults and its own
abbrev pub IsDocAnswer : List ℕ → List ℕ → Bool → Type 0
IsDocAnswer = IsDocumentAnswer (λ _ document text. text
    ≡ printed_definitions (erased_document document).definitions) (λ _ _. 0)
