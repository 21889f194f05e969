-- The first argument, the options of reports, and the other words.
use Rattle.std.proofs.lemmas.Result.{IfOk-weaker}
use Rattle.peglinden_words.proofs.CommandLemmas.{arg_added}
use Rattle.peglinden_words.proofs.commands.command_on_files.Goals as goal

pub returns : goal.returns
returns c =
    let first = arg_added c.args.first c.in_ok-command.ensures c.requires.first c.bare_command.ensures in
    let reporting = c.in_ok-with_reporting.ensures _ first in
    IfOk-weaker c.arg-2.result _ _
    (λ made adds. arg_added c.args.files {new = made} adds c.requires.files reporting) c.arg-2.ensures
