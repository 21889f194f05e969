use Rattle.std.proofs.Common.{◌≡◌}
use Rattle.peglinden_run.specs.FormatCommand.{all_definitions}
use Rattle.peglinden_run.proofs.format_command.all_definitions.Given as goal

abbrev pub invariant-loop-document : goal.invariant-loop-document
invariant-loop-document l = l.all ≡ all_definitions l.yielded
