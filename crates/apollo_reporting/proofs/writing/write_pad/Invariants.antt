-- What was written stands under the bytes so far.
use Rattle.std.proofs.Common.{take}
use Rattle.std.specs.Fmt.{HasWritten, IsPlainFormatter}
use Rattle.apollo_reporting.specs.Excerpts.{pad}
use Rattle.apollo_reporting.proofs.writing.write_pad.Given as goal

abbrev pub invariant-loop-byte : goal.invariant-loop-byte
invariant-loop-byte g l = IsPlainFormatter l.initial.f → HasWritten g.W.Write.write_str_gives l.initial.f
    (pad (take l.byte-index l.before)) l.f
