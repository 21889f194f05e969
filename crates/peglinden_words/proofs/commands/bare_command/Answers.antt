-- What a parse reads of a new command, whose help has texts.
use Rattle.std.proofs.Common.{◌∙◌, ap}
use Rattle.clap.specs.Simple.{App, shape_of_fields}
use Rattle.clap.specs.declared.builder.command.Command.{Command}
use Rattle.clap.specs.declared.builder.command.Command.TheOpen.{Command-F}
use Rattle.peglinden_words.proofs.commands.bare_command.Goals as goal

pub returns : goal.returns
returns c =
    let globals = λ (f : Command-F Command). f.has_globals in
    record {
      shape = ap shape_of_fields c.after_help.ensures ∙ ap shape_of_fields c.about.ensures
          ∙ ap (λ (a : App). a.top) c.new.ensures.app;
      local = ap globals c.after_help.ensures ∙ ap globals c.about.ensures ∙ c.new.ensures.local;
    }
