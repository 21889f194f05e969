use Rattle.std.proofs.Common.{◌≡◌, string_bytes, take}
use Rattle.std.specs.List.{flat_map}
use Rattle.peglinden_run.specs.FormatCommand.{document_line}
use Rattle.peglinden_run.proofs.format_command.document_lines.Given as goal

abbrev pub invariant-loop-document : goal.invariant-loop-document
invariant-loop-document l = string_bytes l.lines ≡ flat_map document_line (take l.document-index l.documents)
