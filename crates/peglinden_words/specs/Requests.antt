-- What the words behind the program's name ask for.
use Rattle.std.specs.Prelude.{◌≡◌, ◌&&◌, ◌||◌, ℕ, Bool, false, List, [], ◌∷◌, ◌++◌, Option, Some, None, codes}
use Rattle.std.specs.Prelude.{count_by, if◌then◌else◌, nat_lt, option_and_then, option_map}
use Rattle.std.specs.Prelude.{unwrap_or}
use Rattle.std.specs.Option.{option_map_or}
use Rattle.std.specs.Str.{bytes_eq}
use Rattle.std.specs.Str.Parse.{digits_value, without_leading_plus}
use Rattle.clap.specs.Faults.{fault_of}
use Rattle.clap.specs.Kinds.{Kinds}
use Rattle.clap.specs.Lexer.{usize_max}
use Rattle.clap.specs.Simple.{subcommand_of}
use Rattle.clap.specs.ValueTests.{is_unsigned_in}
use Rattle.clap.specs.Walk.{Row, Text, all_of, first_of, texts}
use Rattle.peglinden_words.specs.Commands.{peglinden}
use Rattle.peglinden_words.specs.declared.request.Reporting.{Reporting}
use Rattle.peglinden_words.specs.declared.request.Typing.{Typing}
use Rattle.peglinden_words.specs.declared.request.Request.{Request}
use Rattle.peglinden_words.specs.declared.request.Request.TheVariants as request
use Rattle.peglinden_words.specs.declared.task.Task.{Task}
use Rattle.peglinden_words.specs.declared.task.Task.TheVariants as task

-- these flags and this number of faults
abbrev pub forms : Bool → Bool → Option ℕ → Reporting
forms json github most = record { json = json; github = github; max_faults = most }

-- a task, with the texts of its words
pub data Asked : Type 0 where
  schema : Bool → Bool → Reporting → List Text → Asked
  check : Reporting → List Text → List Text → Asked
  typed : Reporting → List Text → List Text → Asked
  fields : Reporting → List Text → List Text → Asked
  lookup : Text → Reporting → List Text → Asked
  format : Bool → Reporting → List Text → Asked
  write : Bool → Bool → Reporting → List Text → Asked

-- what a request asks for
abbrev pub asked_of : Request → Asked
asked_of (request.Schema adopt ignore_builtin reporting files) =
    schema adopt ignore_builtin reporting (texts files.items)
asked_of (request.Check on) = check on.reporting (texts on.schema.items) (texts on.documents.items)
asked_of (request.Typed on) = typed on.reporting (texts on.schema.items) (texts on.documents.items)
asked_of (request.Fields on) = fields on.reporting (texts on.schema.items) (texts on.documents.items)
asked_of (request.Lookup coordinate reporting files) = lookup coordinate.now reporting (texts files.items)
asked_of (request.Format only_check reporting files) = format only_check reporting (texts files.items)

-- what a task asks for
abbrev pub asked_of_task : Task → Asked
asked_of_task (task.Answer request) = asked_of request
asked_of_task (task.Write writing) =
    write writing.check writing.drop_comments writing.reporting (texts writing.files.items)

-- the flag was given
abbrev pub is_set : Text → List Row → Bool
is_set name found = option_map_or (λ text. bytes_eq text (codes "true")) (first_of name found) false

-- the value of an argument, and the empty text where it has none
abbrev pub value_of : Text → List Row → Text
value_of name found = unwrap_or (first_of name found) []

-- the number that a text is in decimal digits, where it is one that `usize` can hold
abbrev pub read_number : Text → Option ℕ
read_number text = if is_unsigned_in 0 usize_max text then Some (digits_value 10 (without_leading_plus text))
    else None

-- the number that is the value of an argument, where it has one
abbrev pub number_of : Text → List Row → Option ℕ
number_of name found = option_and_then read_number (first_of name found)

-- how what is at fault is to be reported, by what the words give the arguments of a command
abbrev pub reporting_by : List Row → Reporting
reporting_by found = forms (is_set (codes "json") found) (is_set (codes "github") found)
    (number_of (codes "max-faults") found)

-- the values of an argument
abbrev pub values_of : Text → List Row → List Text
values_of name found = unwrap_or (all_of name found) []

-- these documents over this schema are to be typed, by what the words give the arguments of a command
pub record IsTyping (typing : Typing) (found : List Row) : Type 0 where
  pub reporting : typing.reporting ≡ reporting_by found
  pub schema : texts typing.schema.items ≡ values_of (codes "schema") found
  pub documents : texts typing.documents.items ≡ values_of (codes "documents") found

-- what a command that types documents asks for, with what the words give its arguments
abbrev pub of_typing : (Reporting → List Text → List Text → Asked) → List Row → Asked
of_typing asks found = asks (reporting_by found) (values_of (codes "schema") found)
    (values_of (codes "documents") found)

-- what `format` asks for, with what the words give its arguments
abbrev pub formats : List Row → Asked
formats found = if is_set (codes "write") found
    then write (is_set (codes "check") found) (is_set (codes "drop-comments") found) (reporting_by found)
    (values_of (codes "files") found)
    else format (is_set (codes "check") found) (reporting_by found) (values_of (codes "files") found)

-- what the command of this name asks for, with what the words give its arguments; the last one is
-- `format`
abbrev pub asked_by : Text → List Row → Asked
asked_by name found =
    if bytes_eq name (codes "schema")
    then schema (is_set (codes "adopt") found) (is_set (codes "ignore-builtin") found)
    (reporting_by found) (values_of (codes "files") found)
    else (if bytes_eq name (codes "check") then of_typing check found
    else (if bytes_eq name (codes "typed") then of_typing typed found
    else (if bytes_eq name (codes "fields") then of_typing fields found
    else (if bytes_eq name (codes "lookup")
    then lookup (value_of (codes "coordinate") found) (reporting_by found) (values_of (codes "files") found)
    else formats found))))

-- the files that are named
abbrev pub files_of : Asked → List Text
files_of (schema adopt ignore_builtin reporting files) = files
files_of (check reporting schema_files documents) = schema_files ++ documents
files_of (typed reporting schema_files documents) = schema_files ++ documents
files_of (fields reporting schema_files documents) = schema_files ++ documents
files_of (lookup coordinate reporting files) = files
files_of (format only_check reporting files) = files
files_of (write only_check drop_comments reporting files) = files

-- how what is at fault is to be reported
abbrev pub reporting_of : Asked → Reporting
reporting_of (schema adopt ignore_builtin reporting files) = reporting
reporting_of (check reporting schema_files documents) = reporting
reporting_of (typed reporting schema_files documents) = reporting
reporting_of (fields reporting schema_files documents) = reporting
reporting_of (lookup coordinate reporting files) = reporting
reporting_of (format only_check reporting files) = reporting
reporting_of (write only_check drop_comments reporting files) = reporting

-- two forms of reports are asked for
abbrev pub has_two_forms : Asked → Bool
has_two_forms wanted = (reporting_of wanted).json && (reporting_of wanted).github

-- how often files are named `-`, which is standard input
abbrev pub input_names : List Text → ℕ
input_names = count_by (λ file. bytes_eq file (codes "-"))

-- standard input is named more than once
abbrev pub names_input_again : Asked → Bool
names_input_again wanted = nat_lt 1 (input_names (files_of wanted))

-- files are to be written, and not to be; or standard input is
abbrev pub writes_what_it_cannot : Asked → Bool
writes_what_it_cannot (write only_check drop_comments reporting files) =
    only_check || nat_lt 0 (input_names files)
writes_what_it_cannot _ = false

-- what is asked for contradicts itself
abbrev pub is_contradictory : Asked → Bool
is_contradictory wanted = (names_input_again wanted || has_two_forms wanted) || writes_what_it_cannot wanted

-- what is asked for, where it doesn't contradict itself
abbrev pub if_consistent : Asked → Option Asked
if_consistent wanted = if is_contradictory wanted then None else Some wanted

-- what the command that the words name asks for
abbrev pub asked_below : List Text → Option Asked
asked_below words = option_map (λ p. asked_by p.0 p.1) (subcommand_of peglinden words)

-- what is asked for, where nothing is at fault
abbrev pub without_fault : Kinds → Option Asked → Option Asked
without_fault [] wanted = wanted
without_fault (found ∷ faults) wanted = None

-- what the words ask for, which may contradict itself
unfoldable pub asked_unchecked : List Text → Option Asked
asked_unchecked words = without_fault (fault_of peglinden words) (asked_below words)

-- what the words ask for, if anything
abbrev pub asked : List Text → Option Asked
asked words = option_and_then if_consistent (asked_unchecked words)
