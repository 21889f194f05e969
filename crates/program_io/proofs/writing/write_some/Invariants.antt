use Rattle.std.specs.Io.KnownBytes.{Keeps}
use Rattle.program_io.proofs.writing.write_some.Given as goal

abbrev pub invariant-loop : goal.invariant-loop
invariant-loop g l = Keeps (g.O.Write.contents l.fn.output) (g.O.Write.contents l.output)
