use Rattle.apollo_executable.proofs.Walking.CallLemmas.{turns, whole}
use Rattle.apollo_executable.proofs.laws.calls_of_walks.walks_by_their_calls.Goals as goal

pub returns-clause-turns : goal.returns-clause-turns
returns-clause-turns c = turns

pub returns-clause-whole : goal.returns-clause-whole
returns-clause-whole c = whole
