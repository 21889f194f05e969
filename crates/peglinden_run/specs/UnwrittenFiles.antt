-- What is said of files that are not written.
use Rattle.std.specs.Prelude.{◌≡◌, ◌++◌, ℕ, List, Option, None, Some, codes}
use Rattle.graphql_nodes.specs.VisibleTexts.{visible}
use Rattle.graphql_nodes.specs.declared.line_column.LineColumn.{LineColumn}
use Rattle.apollo_reporting.specs.GithubCommands.{command_text}
use Rattle.peglinden_run.specs.declared.form.Form.{Form}
use Rattle.peglinden_run.specs.declared.form.Form.TheVariants as forms
use Rattle.peglinden_run.specs.declared.printed.Tally.{Tally}
use Rattle.peglinden_run.specs.Lines.{unwritten_line}

-- the report that the file of this path isn't written, with these words for why, as both are shown
abbrev pub unwritten_text : List ℕ → List ℕ → List ℕ
unwritten_text path why =
    codes "error: cannot write `" ++ (visible path ++ (codes "`: " ++ (visible why ++ codes "\n\n")))

-- the same in a sentence
abbrev pub unwritten_sentence : List ℕ → List ℕ → List ℕ
unwritten_sentence path why = codes "cannot write `" ++ (path ++ (codes "`: " ++ why))

-- the same as a workflow command, at a place of the file, on a line
abbrev pub unwritten_command : List ℕ → Option LineColumn → List ℕ → List ℕ
unwritten_command path at why = command_text (Some path) at (unwritten_sentence path why) ++ codes "\n"

-- what a form says of that: of which kind it is, where what keeps the file begins, if that is known, and why
abbrev pub unwritten_in : Form → List ℕ → List ℕ → Option LineColumn → List ℕ → List ℕ
unwritten_in forms.Words kind path at why = unwritten_text path why
unwritten_in forms.Json kind path at why = unwritten_line kind path at why
unwritten_in forms.Github kind path at why = unwritten_command path at why

-- the text is what a form says of a file of this path that can't be replaced, with some words for why
abbrev pub IsUnwrittenReport : Form → List ℕ → List ℕ → Type 0
IsUnwrittenReport form path report =
    (why : List ℕ) × (report ≡ unwritten_in form (codes "CannotWrite") path None why)

-- so many of so many files are not written, and each is said so
abbrev pub unwritten_tally : ℕ → ℕ → Tally
unwritten_tally count files = record { faults = count; shown = count; files = files }
