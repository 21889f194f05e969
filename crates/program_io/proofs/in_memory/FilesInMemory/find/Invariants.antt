use Rattle.std.proofs.Common.{◌≡◌, drop}
use Rattle.program_io.specs.Files.{bytes_at}
use Rattle.program_io.proofs.in_memory.FilesInMemory.find.Given as goal

abbrev pub invariant-loop-file : goal.invariant-loop-file
invariant-loop-file l = bytes_at (drop l.file-index l.self.0.now) l.path ≡ bytes_at l.self.0.now l.path
