use Rattle.std.proofs.Common.{◌≡◌, drop}
use Rattle.program_io.specs.Entries.{named, names_in, with_names}
use Rattle.program_io.proofs.folders_in_memory.FilesInMemoryFolders.entries.Given as goal

abbrev pub invariant-loop-file : goal.invariant-loop-file
invariant-loop-file l =
    with_names l.prefix (drop l.file-index l.self.0.now) (named l.entries.items)
    ≡ names_in l.self.0.now l.prefix
