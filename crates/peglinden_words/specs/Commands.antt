-- The program and its commands: what each takes, as `clap` reads it.
use Rattle.std.specs.Prelude.{◌≡◌, true, false, List, [], ◌∷◌, ◌++◌, Some, codes}
use Rattle.clap.specs.Lexer.{usize_max}
use Rattle.clap.specs.Walk.{Rule, Text}
use Rattle.clap.specs.Simple.{App, Shape, app_of, new_rule, new_shape, shape_of}
use Rattle.clap.specs.declared.builder.action.ArgAction.TheVariants.{Append, SetTrue}
use Rattle.clap.specs.declared.builder.value_parser.ValueParser.TheVariants as parsers
use Rattle.clap.specs.declared.builder.command.Command.{Command}
use Rattle.clap.specs.declared.builder.command.Command.TheViews.{out-Command as fields_of}

-- `--name`, at most once
abbrev pub flag : Text → Rule
flag name = record (new_rule name) { long = Some name; action = Some SetTrue }

-- `--name` with a value, at least once
abbrev pub repeated_option : Text → Rule
repeated_option name = record (new_rule name) {
  long = Some name;
  action = Some Append;
  value_names = 1;
  required = true;
}

-- `--name` with a number
abbrev pub number_option : Text → Rule
number_option name = record (new_rule name) {
  long = Some name;
  value_names = 1;
  parser = Some (parsers.Unsigned 0 usize_max);
}

-- the options that say how what is at fault is reported: `[--json] [--github] [--max-faults N]`, before
-- others
abbrev pub reporting_before : List Rule → List Rule
reporting_before others = flag (codes "json") ∷ flag (codes "github") ∷ number_option (codes "max-faults")
    ∷ others

-- the same, behind what a command takes
abbrev pub with_reporting : Shape → Shape
with_reporting takes = record takes {
  rules = takes.rules ++ flag (codes "json") ∷ [] ++ flag (codes "github") ∷ []
      ++ number_option (codes "max-faults") ∷ [];
}

-- the other words, at least one
abbrev pub other_words : Text → Rule
other_words name =
    record (new_rule name) { action = Some Append; value_names = 1; required = true }

-- the next other word
abbrev pub other_word : Text → Rule
other_word name = record (new_rule name) { value_names = 1; required = true }

-- a command and what it takes
abbrev pub command : Text → List Rule → Shape
command name rules = record (new_shape name) { rules = rules }

-- `schema [--adopt] [--ignore-builtin] [REPORTING] FILE..`
abbrev pub schema_command : Shape
schema_command = command (codes "schema")
    (flag (codes "adopt")
    ∷ flag (codes "ignore-builtin") ∷ reporting_before (other_words (codes "files") ∷ []))

-- a command on documents: `--schema FILE .. [REPORTING] DOCUMENT..`
abbrev pub document_command : Text → Shape
document_command name = command name
    (repeated_option (codes "schema") ∷ reporting_before (other_words (codes "documents") ∷ []))

-- `lookup COORDINATE [REPORTING] FILE..`
abbrev pub lookup_command : Shape
lookup_command =
    command (codes "lookup")
    (other_word (codes "coordinate") ∷ reporting_before (other_words (codes "files") ∷ []))

-- `format [--check] [--write] [--drop-comments] [REPORTING] FILE..`
abbrev pub format_command : Shape
format_command = command (codes "format")
    (flag (codes "check")
    ∷ flag (codes "write")
    ∷ flag (codes "drop-comments") ∷ reporting_before (other_words (codes "files") ∷ []))

-- the program without its commands: its words begin behind its name, it has a version, and a
-- command has to be named
abbrev pub program : Shape
program = record (new_shape (codes "peglinden")) {
  no_binary_name = true;
  has_version = true;
  subcommand_required = true;
  arg_required_else_help = true;
}

-- the program and its commands
unfoldable pub peglinden : App
peglinden = record {
  top = record program { is_leaf = false };
  subs = schema_command ∷ document_command (codes "check") ∷ document_command (codes "typed")
      ∷ document_command (codes "fields")
      ∷ lookup_command
      ∷ format_command
      ∷ [];
}

-- `clap` has a command that takes this, and nothing globally
pub record IsCommand (command : Command) (takes : Shape) : Type 0 where
  pub shape : shape_of command ≡ takes
  pub local : (fields_of command).has_globals ≡ false

-- the same, of a program and its commands
pub record IsProgram (command : Command) (takes : App) : Type 0 where
  pub app : app_of command ≡ takes
  pub local : (fields_of command).has_globals ≡ false
