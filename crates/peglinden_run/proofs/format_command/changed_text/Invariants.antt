use Rattle.std.proofs.Common.{◌≡◌, string_bytes, take}
use Rattle.peglinden_run.specs.FormatCommand.{changed_text}
use Rattle.peglinden_run.specs.Layouts.{changed_bytes}
use Rattle.peglinden_run.proofs.format_command.changed_text.Given as goal

abbrev pub invariant-loop-file : goal.invariant-loop-file
invariant-loop-file l = string_bytes l.text ≡ changed_text l.form (changed_bytes (take l.file-index l.files))
