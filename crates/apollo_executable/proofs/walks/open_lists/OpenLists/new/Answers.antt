use Rattle.std.proofs.Common.{◌∷◌}
use Rattle.apollo_executable.specs.Walks.Left.{waiting_lists}
use Rattle.apollo_executable.proofs.Walking.FlagLemmas.{marked_names-empty}
use Rattle.apollo_executable.proofs.walks.open_lists.OpenLists.new.Goals as goal

pub returns-clause-lists : goal.returns-clause-lists
unfolding waiting_lists
returns-clause-lists c = λ i. c.as_slice.ensures i ∷ waiting_lists (c.new.ensures.items i)

pub returns-clause-opened : goal.returns-clause-opened
returns-clause-opened c = marked_names-empty c.args.document.now c.new-2.result.items c.new-2.ensures.items
