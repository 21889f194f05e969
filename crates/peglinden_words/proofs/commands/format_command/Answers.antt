-- Three flags, the options of reports, and the files.
use Rattle.std.proofs.lemmas.Result.{IfOk-weaker}
use Rattle.peglinden_words.proofs.CommandLemmas.{arg_added}
use Rattle.peglinden_words.proofs.commands.format_command.Goals as goal

pub returns : goal.returns
returns c =
    let check = rw c.flag.ensures.rule
    at (arg_added c.flag.result c.in_ok-arg.ensures c.flag.ensures.local c.bare_command.ensures) in
    let write = rw c.flag-2.ensures.rule
    at (arg_added c.flag-2.result c.in_ok-arg-2.ensures c.flag-2.ensures.local check) in
    let drops = rw c.flag-3.ensures.rule
    at (arg_added c.flag-3.result c.in_ok-command.ensures c.flag-3.ensures.local write) in
    let reporting = c.in_ok-with_reporting.ensures _ drops in
    IfOk-weaker c.arg-4.result _ _
    (λ made adds. rw c.files.ensures.rule at
    (arg_added c.files.result {new = made} adds c.files.ensures.local reporting))
    c.arg-4.ensures
