use Rattle.std.proofs.Common.{refl}
use Rattle.named_files.proofs.WalkLemmas.{one-added}
use Rattle.named_files.proofs.walks.add_one.Goals as goal

pub returns : goal.returns
returns c = one-added c.args.found.now.items c.push.new.self.items _ c.args.path.now c.args.refusal
    c.in_ok-push.ensures.items c.in_ok-path.ensures.ok refl
