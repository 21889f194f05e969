use Rattle.std.proofs.Common.{refl, arith}
use Rattle.apollo_executable.proofs.Walking.FlagLemmas.{opened_names-empty}
use Rattle.apollo_executable.proofs.walks.walk.Walk.new.Goals as goal

pub returns : goal.returns
returns c =
    let e = c.new.ensures in
    record {
      deep_is = e.deep;
      document_is = λ i. (e.document i).now;
      start_is = refl;
      coming = rw (e.opened, e.lists, e.deep, e.document)
          (c.walks_are_left_by_turn.ensures.whole c.args.deep c.args.document.now c.args.set.now).fields;
      opened = opened_names-empty c.new.result.document.now _ e.opened;
      goes_on = e.ended;
      taken = rw (e.opened, e.lists, e.deep, e.document) (omega arith);
    }
