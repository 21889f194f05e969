use Rattle.std.proofs.Common.{◌++◌, string_bytes}
use Rattle.std.proofs.lemmas.Result.{err_from_is_err_and}
use Rattle.gqltool_run.specs.WalkCommand.{turns_line}
use Rattle.program_io.proofs.WritingLemmas.{goes-nowhere}
use Rattle.gqltool_run.proofs.walk_command.say_turns.Goals as goal

pub returns-in_err-number-clause-begun : goal.returns-in_err-number-clause-begun
returns-in_err-number-clause-begun g c =
    let exit = err_from_is_err_and c.from_residual.result c.from_residual.ensures.1 in
    let text = string_bytes c.args.text.now ++ turns_line c.args.word.now c.args.turns in
    rw (exit.1) (text, goes-nowhere (g.O.Outlet.sent c.args.outlet.now) text)
