use Rattle.std.proofs.Common.{◌≡◌, string_bytes, take}
use Rattle.peglinden_run.specs.SchemaHints as spec
use Rattle.peglinden_run.proofs.schema_hints.schema_hints.Given as goal

abbrev pub invariant-loop-document : goal.invariant-loop-document
invariant-loop-document l = string_bytes l.hints ≡ spec.schema_hints (take l.document-index l.documents)
