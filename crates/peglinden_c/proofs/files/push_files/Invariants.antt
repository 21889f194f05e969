use Rattle.std.proofs.Common.{◌≡◌, ◌++◌, take}
use Rattle.peglinden_run.specs.Documents.{texts_of}
use Rattle.peglinden_c.specs.Files.{AreTexts, handed, in_memory, paths_of}
use Rattle.peglinden_c.proofs.files.push_files.Given as goal

abbrev pub invariant-loop-file : goal.invariant-loop-file
invariant-loop-file l = record {
  files : in_memory l.pairs.items ≡ in_memory l.fn.pairs.items ++ handed (take l.file-index l.files);
  paths : texts_of l.paths.items ≡ texts_of l.fn.paths.items ++ paths_of (take l.file-index l.files);
  texts : AreTexts (paths_of (take l.file-index l.files));
}
