-- What a run prints.
use Rattle.std.specs.Prelude.{◌≡◌, ◌++◌, ◌==◌, if◌then◌else◌, ℕ, zero, suc, List, [], codes, decimal, string_bytes}
use Rattle.apollo_reporting.specs.Counts.{count_text}
use Rattle.peglinden_run.specs.declared.form.Form.{Form}
use Rattle.peglinden_run.specs.declared.form.Form.TheVariants as forms
use Rattle.peglinden_run.specs.declared.printed.Printed.{Printed}
use Rattle.peglinden_run.specs.declared.printed.Tally.{Tally}
use Rattle.peglinden_run.specs.Lines.{summary_line}

-- how many of the faults are shown, where that is not all
abbrev pub shown_note : Tally → List ℕ
shown_note tally = if tally.shown == tally.faults then []
    else codes ", " ++ decimal tally.shown ++ codes " shown"

-- so many faults, and a note of them, on a line, or nothing where there is none
abbrev pub count_line : ℕ → List ℕ → List ℕ
count_line zero note = []
count_line (suc n) note = count_text (suc n) ++ note ++ codes "\n"

-- how many faults there are, on a line, or nothing where there is none
abbrev pub tally_line : Tally → List ℕ
tally_line tally = count_line tally.faults (shown_note tally)

-- what is printed of the output of a command, and of what is said of its faults, which are so many. For
-- people it is the output, and on standard error what is said and how much that is. In JSON it is one behind
-- the other, and last a summary, on standard output alone. For GitHub it is on standard output what is said,
-- and how much that is on standard error
abbrev pub IsArranged : Form → Tally → List ℕ → List ℕ → Printed → Type 0
IsArranged forms.Words tally output said printed = (string_bytes printed.output ≡ output)
    × (string_bytes printed.errors ≡ said ++ tally_line tally)
IsArranged forms.Json tally output said printed =
    (string_bytes printed.output ≡ (said ++ output) ++ summary_line tally)
    × (string_bytes printed.errors ≡ [])
IsArranged forms.Github tally output said printed = (string_bytes printed.output ≡ said)
    × (string_bytes printed.errors ≡ tally_line tally)
