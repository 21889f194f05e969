-- What was added is the lines of the locations so far.
use Rattle.std.proofs.Common.{◌≡◌, ◌++◌, string_bytes, take}
use Rattle.bench_notation.specs.Text.{locations_text}
use Rattle.bench_notation.proofs.printing.push_directive_body.Given as goal

abbrev pub invariant-loop-location : goal.invariant-loop-location
invariant-loop-location l = string_bytes l.text ≡ string_bytes l.initial.text
    ++ locations_text (take l.location-index l.location-items)
