-- Two flags, the options of reports, and the files.
use Rattle.std.proofs.lemmas.Result.{IfOk-weaker}
use Rattle.peglinden_words.proofs.CommandLemmas.{arg_added}
use Rattle.peglinden_words.proofs.commands.schema_command.Goals as goal

pub returns : goal.returns
returns c =
    let adopt = rw c.flag.ensures.rule
    at (arg_added c.flag.result c.in_ok-arg.ensures c.flag.ensures.local c.bare_command.ensures) in
    let ignore = rw c.flag-2.ensures.rule
    at (arg_added c.flag-2.result c.in_ok-command.ensures c.flag-2.ensures.local adopt) in
    let reporting = c.in_ok-with_reporting.ensures _ ignore in
    IfOk-weaker c.arg-3.result _ _
    (λ made adds. rw c.files.ensures.rule at
    (arg_added c.files.result {new = made} adds c.files.ensures.local reporting))
    c.arg-3.ensures
