use Rattle.apollo_component.specs.Extensions.{next_number}
use Rattle.apollo_component.proofs.DrawnLemmas.{drawn-distinct}
use Rattle.apollo_component.proofs.laws.drawn_identities_are_distinct.Goals as goal

pub returns : goal.returns
returns c = λ source locations. drawn-distinct (next_number source) locations
