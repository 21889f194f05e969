-- What `clap` finds is a request or a refusal.
use Rattle.std.proofs.Common.{◌∙◌, ap, is_some, subst, sym}
use Rattle.clap.specs.Faults.{fault_of, is_simple_and_free}
use Rattle.clap.specs.Kinds.{HasKind}
use Rattle.clap.specs.Simple.{App}
use Rattle.clap.specs.Walk.{texts}
use Rattle.peglinden_words.proofs.CommandLemmas.{program_is_free, program_wants_command}
use Rattle.peglinden_words.proofs.ReadingLemmas.{asked_is, refused_is, contradicted_is, request_is}
use Rattle.peglinden_words.proofs.command_line.read_words.Goals as goal

pub unwrap-requires : goal.unwrap-requires
unwrap-requires c =
    let ok = c.in-Ok.ensures.ok in
    let parsed = ok.1 (ok.0.globals ∙ c.in_ok-command.ensures.local) in
    let wanted = parsed.checked.subcommand
    (ok.0.needs_subcommand ∙ ap (λ (a : App). a.top.subcommand_required) c.in_ok-command.ensures.app
    ∙ program_wants_command) in
    c.subcommand.ensures.variant ∙ wanted

pub returns-in-Err-clause-refused : goal.returns-in-Err-clause-refused
returns-in-Err-clause-refused c =
    let app = c.in_ok-command.ensures.app in
    let kinds = c.in-Err.ensures.kinds (ap is_simple_and_free app ∙ program_is_free) in
    refused_is (texts c.args.words.now) _ c.words_error.result
    (subst (λ (a : App). HasKind (fault_of a (texts c.args.words.now)) c.in-Err.refused) app kinds)
    c.words_error.ensures

pub returns-in-Some-clause-refused : goal.returns-in-Some-clause-refused
returns-in-Some-clause-refused c =
    let is = request_is c.in_ok-command.command
    (texts c.args.words.now) c.in-Ok.matches c.subcommand.result c.unwrap.result _
    c.in_ok-command.ensures.app
    c.in-Ok.ensures.kinds c.in-Ok.ensures.ok.2 c.subcommand.ensures.name c.subcommand.ensures.rows
    c.unwrap.ensures c.in_ok-task.ensures in
    contradicted_is _ _ _ c.words_error-in-Some.result is
    (sym c.contradiction.ensures ∙ ap is_some c.in-Some.is)
    c.in_ok-refused.ensures.kind c.words_error-in-Some.ensures

pub returns : goal.returns
returns c =
    let is = request_is c.in_ok-command.command
    (texts c.args.words.now) c.in-Ok.matches c.subcommand.result c.unwrap.result _
    c.in_ok-command.ensures.app
    c.in-Ok.ensures.kinds c.in-Ok.ensures.ok.2 c.subcommand.ensures.name c.subcommand.ensures.rows
    c.unwrap.ensures c.in_ok-task.ensures in
    record {
      asked = asked_is _ _ is (sym c.contradiction.ensures ∙ ap is_some c.in_default.is);
      refused = tt;
    }
