use Rattle.named_files.specs.Wanted.{enters, takes}
use Rattle.named_files.proofs.NamingLemmas.{on_ok, some-added}
use Rattle.named_files.proofs.naming.add_some.Goals as goal

pub returns : goal.returns
returns g c = on_ok c.add_in_order.result
    (λ put. some-added (takes c.args.wanted.now) (enters c.args.wanted.now)
    (g.F.Folders.lists c.args.folders.now) (g.F.Folders.may_hide c.args.folders.now) c.args.word.now
    c.args.prefix.now c.new-found.result.items c.add_below.new.found.items c.args.all.now.items
    c.add_in_order.new.all.items c.new-found.ensures.items c.in_ok-add_below.ensures put)
    c.add_in_order.ensures
