use Rattle.named_files.proofs.RefusalLemmas.{unrefused}
use Rattle.named_files.proofs.with_refusals.WithRefusalsFiles.read.Goals as goal

pub returns-in-None-clause-causes : goal.returns-in-None-clause-causes
returns-in-None-clause-causes g c = unrefused _
    (g.F.Files.holds c.args.self.now.files.now c.args.path.now)
    (g.F.Files.may_fail c.args.self.now.files.now c.args.path.now) c.read.result c.in-None.ensures.value
    c.read.ensures.causes
