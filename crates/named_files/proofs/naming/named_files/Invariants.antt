use Rattle.std.proofs.Common.{[], take}
use Rattle.named_files.specs.Naming.{NamesWord}
use Rattle.named_files.specs.Walks.{Adds, FindsEach}
use Rattle.named_files.proofs.naming.named_files.Given as goal

abbrev pub invariant-loop-word : goal.invariant-loop-word
invariant-loop-word g l =
    Adds (FindsEach (λ word. NamesWord (g.F.Folders.stands l.folders) (g.F.Folders.lists l.folders)
    (g.F.Folders.may_hide l.folders) word.now) (take l.word-index l.words)) [] l.all.items
