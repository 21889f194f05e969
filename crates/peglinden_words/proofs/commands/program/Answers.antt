-- What a parse reads of a new command, with the settings.
use Rattle.std.proofs.Common.{◌≡◌, ◌∙◌, ap, true}
use Rattle.std.proofs.lemmas.Result.{IfOk-weaker}
use Rattle.clap.specs.Simple.{app_of, app_of_fields, on_top}
use Rattle.clap.specs.declared.builder.command.Command.{Command}
use Rattle.clap.specs.declared.builder.command.Command.TheOpen.{Command-F}
use Rattle.peglinden_words.proofs.commands.program.Goals as goal

pub returns : goal.returns
returns c =
    let versioned : app_of c.version.result
    ≡ on_top (λ s. record s { has_version = true }) (app_of c.new.result) =
    ap app_of_fields c.version.ensures in
    let described : app_of c.about.result ≡ app_of c.version.result = ap app_of_fields c.about.ensures in
    let ended : app_of c.after_help.result ≡ app_of c.about.result = ap app_of_fields c.after_help.ensures in
    let unnamed : app_of c.no_binary_name.result
    ≡ on_top (λ s. record s { no_binary_name = true }) (app_of c.after_help.result) =
    ap app_of_fields c.no_binary_name.ensures in
    let commanded : app_of c.subcommand_required.result
    ≡ on_top (λ s. record s { subcommand_required = true }) (app_of c.no_binary_name.result) =
    ap app_of_fields c.subcommand_required.ensures in
    let helped : app_of c.arg_required_else_help-command.result
    ≡ on_top (λ s. record s { arg_required_else_help = true }) (app_of c.subcommand_required.result) =
    ap app_of_fields c.arg_required_else_help-command.ensures in
    let app = helped ∙ ap (on_top (λ s. record s { arg_required_else_help = true }))
    (commanded ∙ ap (on_top (λ s. record s { subcommand_required = true }))
    (unnamed ∙ ap (on_top (λ s. record s { no_binary_name = true }))
    (ended ∙ described ∙ versioned
    ∙ ap (on_top (λ s. record s { has_version = true })) c.new.ensures.app))) in
    let globals = λ (f : Command-F Command). f.has_globals in
    let local = ap globals c.arg_required_else_help-command.ensures ∙ ap globals c.subcommand_required.ensures
    ∙ ap globals c.no_binary_name.ensures ∙ ap globals c.after_help.ensures ∙ ap globals c.about.ensures
    ∙ ap globals c.version.ensures
    ∙ c.new.ensures.local in
    IfOk-weaker c.bin_name.result _ _
    (λ command named. record { app = ap app_of_fields named.0 ∙ app; local = ap globals named.0 ∙ local })
    c.bin_name.ensures
