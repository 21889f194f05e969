-- Three arguments more, one after another.
use Rattle.std.proofs.lemmas.Result.{IfOk-weaker}
use Rattle.peglinden_words.proofs.CommandLemmas.{arg_added}
use Rattle.peglinden_words.proofs.commands.with_reporting.Goals as goal

pub returns : goal.returns
returns c = λ takes is.
    let json = rw c.json_flag.ensures.rule at
    (arg_added c.json_flag.result c.in_ok-arg.ensures c.json_flag.ensures.local is) in
    let github = rw c.github_flag.ensures.rule
    at (arg_added c.github_flag.result c.in_ok-arg-2.ensures c.github_flag.ensures.local json) in
    IfOk-weaker c.arg-3.result _ _
    (λ made adds. rw c.max_faults_option.ensures.rule
    at (arg_added c.max_faults_option.result {new = made} adds c.max_faults_option.ensures.local github))
    c.arg-3.ensures
