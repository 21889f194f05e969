use Rattle.std.proofs.Common.{string_bytes}
use Rattle.gqltool_run.specs.Prepared.{AreLinesOf}
use Rattle.gqltool_run.proofs.PieceLemmas.{said-kept}
use Rattle.gqltool_run.proofs.walk_command.whole_walk_answer.Goals as goal

pub returns-in-Ok-clause-text : goal.returns-in-Ok-clause-text
returns-in-Ok-clause-text c = said-kept {P = AreLinesOf c.args.compiled} (string_bytes c.in-Ok.answer.text)
    c.in-Ok.ensures.said
