-- What was written, and what the rest then comes to, is the whole.
use Rattle.std.proofs.Common.{◌≡◌, List, ℕ, ◌++◌, drop}
use Rattle.std.specs.Fmt.{HasWritten, IsPlainFormatter}
use Rattle.graphql_printing.specs.Documents.{definitions_behind}
use Rattle.graphql_printing.proofs.documents.write_definitions_behind.Given as goal

abbrev pub invariant-loop-definition : goal.invariant-loop-definition
invariant-loop-definition g l = (done : List ℕ)
    × (done ++ definitions_behind l.braces (drop l.definition-index l.definitions)
    ≡ definitions_behind l.fn.first_braces l.definitions) × (IsPlainFormatter l.initial.f
    → HasWritten g.W.Write.write_str_gives l.initial.f done l.f)
