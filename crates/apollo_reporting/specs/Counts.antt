-- How many faults there are, in words.
use Rattle.std.specs.Prelude.{ℕ, List, ◌++◌, codes, decimal, if◌then◌else◌, ◌==◌}

-- `1 fault`, `3 faults`
abbrev pub count_text : ℕ → List ℕ
count_text count = if count == 1 then codes "1 fault" else decimal count ++ codes " faults"
