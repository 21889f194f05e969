use Rattle.apollo_executable.specs.Walks.Seen.{seen}
use Rattle.apollo_executable.proofs.walks.walk.Walk.turns.Goals as goal

pub returns-clause-few : goal.returns-clause-few
returns-clause-few c =
    let w = c.args.self.now in
    (c.walks_are_left_by_turn.ensures.whole w.lists.deep w.lists.document.now w.start.now).within
    (seen w).taken w.bounded
