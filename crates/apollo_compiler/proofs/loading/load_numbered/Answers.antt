use Rattle.std.proofs.Common.{◌+◌, suc, arith}
use Rattle.apollo_compiler.proofs.LoadingLemmas.{next-file}
use Rattle.apollo_compiler.proofs.loading.load_numbered.Goals as goal

pub loop-index-preserved : goal.loop-index-preserved
loop-index-preserved g c = next-file (g.F.Files.holds c.args.files.now) (g.F.Files.may_fail c.args.files.now)
    c.args.options (suc c.args.others) c.args.paths.now c.loop-index.index _ (c.args.others
    + c.loop-index.index + 1) c.in_ok-read_file.field-0 c.loop-index.loaded c.push.new.self
    c.loop-index-test.true (omega arith) c.in_ok-read_file.ensures c.loop-index.invariant
    c.in_ok-push.ensures.documents c.in_ok-push.ensures.refused c.in_ok-push.ensures.sources
