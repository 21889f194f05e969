use Rattle.std.proofs.Common.{◌++◌, codes, string_bytes}
use Rattle.std.proofs.lemmas.Result.{err_from_is_err_and}
use Rattle.program_io.proofs.WritingLemmas.{goes-nowhere}
use Rattle.gqltool_run.proofs.walk_command.say_line.Goals as goal

pub returns-in_err-push_line-clause-begun : goal.returns-in_err-push_line-clause-begun
returns-in_err-push_line-clause-begun g c =
    let exit = err_from_is_err_and c.from_residual.result c.from_residual.ensures.1 in
    let text = string_bytes c.args.text.now ++ (c.args.first.now ++ (c.args.second.now ++ codes "\n")) in
    rw (exit.1) (text, goes-nowhere (g.O.Outlet.sent c.args.outlet.now) text)
