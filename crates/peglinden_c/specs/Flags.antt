-- The flags of calls.
use Rattle.std.specs.Prelude.{◌==◌, ◌&&◌, ◌^◌, ◌-◌, ℕ, Bool, Option, None, Some, bit_and, bit_or, not}
use Rattle.std.specs.Prelude.{if◌then◌else◌}
use Rattle.peglinden_words.specs.declared.request.Reporting.{Reporting}

-- the flag is among these
abbrev pub has : ℕ → ℕ → Bool
has flags flag = not (bit_and flags flag == 0)

-- these flags are all among those that are taken
abbrev pub are_among : ℕ → ℕ → Bool
are_among flags taken = bit_or flags taken == taken

-- two forms of reports are asked for: JSON, and workflow commands of GitHub
abbrev pub has_two_forms : ℕ → Bool
has_two_forms flags = has flags 1 && has flags 2

-- how many faults are reported at most; the greatest number says that there is no limit
abbrev pub limit_of : ℕ → Option ℕ
limit_of max_faults = if max_faults == 2 ^ 64 - 1 then None else Some max_faults

-- how what is at fault is to be reported
abbrev pub reporting_of : ℕ → ℕ → Reporting
reporting_of flags max_faults = record {
  json = has flags 1;
  github = has flags 2;
  max_faults = limit_of max_faults;
}
