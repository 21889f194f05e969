use Rattle.named_files.proofs.NamingLemmas.{tracks-more}
use Rattle.named_files.proofs.naming.add_first.Goals as goal

pub returns-in_ok-push-clause-tracks : goal.returns-in_ok-push-clause-tracks
returns-in_ok-push-clause-tracks c =
    tracks-more c.args.seen.now c.insert.new.self c.args.named.now.named.items
    c.push.new.self.items c.args.one c.in_ok-path.path c.in_ok-path.ensures.cases c.in_ok-push.ensures.items
    c.in_ok-insert.ensures.updates c.requires
