use Rattle.std.proofs.Common.{suc, take}
use Rattle.apollo_compiler.specs.Loading.{AreLoaded, paths_of}
use Rattle.apollo_compiler.proofs.loading.load_numbered.Given as goal

abbrev pub invariant-loop-index : goal.invariant-loop-index
invariant-loop-index g l =
    AreLoaded (g.F.Files.holds l.files) (g.F.Files.may_fail l.files) l.options (suc l.others)
    (paths_of (take l.index l.paths)) l.loaded
