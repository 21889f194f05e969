-- A program to which a command is added, and what it is in the end.
use Rattle.std.proofs.Common.{◌≡◌, ◌∙◌, ◌||◌, ◌++◌, ◌∷◌, [], true, false, ap, ap₂, refl}
use Rattle.clap.specs.Built.{AddsArg, AddsSubcommand}
use Rattle.clap.specs.Faults.{is_simple_and_free}
use Rattle.clap.specs.Simple.{App, Shape, is_simple, with_subcommand}
use Rattle.clap.specs.Walk.{rule_of}
use Rattle.clap.specs.declared.builder.arg.Arg.{Arg}
use Rattle.clap.specs.declared.builder.command.Command.{Command}
use Rattle.peglinden_words.specs.Commands.{IsCommand, IsProgram, peglinden}

-- a program with one command more
pub added : {old sub new : Command} {a : App} {s : Shape} → AddsSubcommand old sub new → IsProgram old a
    → IsCommand sub s → IsProgram new (with_subcommand a s)
added adds before below = record {
  app = adds.shape below.local ∙ ap₂ with_subcommand before.app below.shape;
  local = adds.globals ∙ ap₂ (λ x y. x || y) before.local below.local;
}

-- a command with one argument more, which is not global
pub arg_added : (arg : Arg) {old new : Command} {s : Shape} → AddsArg old arg new → arg.global ≡ false
    → IsCommand old s → IsCommand new (record s { rules = s.rules ++ rule_of arg ∷ [] })
arg_added arg adds local before = record {
  shape = ap (λ (a : App). a.top) (adds.shape local)
      ∙ ap (λ (t : Shape). record t { rules = t.rules ++ rule_of arg ∷ [] }) before.shape;
  local = adds.globals ∙ ap₂ (λ x y. x || y) before.local local;
}

-- what `clap` says exactly of simple commands holds of the program
pub program_is_simple : is_simple peglinden ≡ true
unfolding peglinden
program_is_simple = refl

pub program_is_free : is_simple_and_free peglinden ≡ true
unfolding peglinden
program_is_free = refl

pub program_wants_command : peglinden.top.subcommand_required ≡ true
unfolding peglinden
program_wants_command = refl
