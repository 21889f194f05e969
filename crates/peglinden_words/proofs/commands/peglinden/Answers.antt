-- The program is made of its commands in turn.
use Rattle.std.proofs.lemmas.Result.{IfOk-weaker}
use Rattle.peglinden_words.specs.Commands.{peglinden}
use Rattle.peglinden_words.proofs.CommandLemmas.{added}
use Rattle.peglinden_words.proofs.commands.peglinden.Goals as goal

pub returns : goal.returns
unfolding peglinden
returns c =
    let schema = added c.in_ok-subcommand.ensures c.in_ok-program.ensures c.in_ok-schema.ensures in
    let check = added c.in_ok-subcommand-2.ensures schema c.in_ok-check.ensures in
    let typed = added c.in_ok-subcommand-3.ensures check c.in_ok-typed.ensures in
    let fields = added c.in_ok-subcommand-4.ensures typed c.in_ok-fields.ensures in
    let lookup_is = rw (c.coordinate.ensures.rule, c.files.ensures.rule) at c.in_ok-lookup.ensures in
    let lookup = added c.in_ok-subcommand-5.ensures fields lookup_is in
    IfOk-weaker c.subcommand-6.result _ _ (λ command adds. added adds lookup c.in_ok-format.ensures)
    c.subcommand-6.ensures
