use Rattle.apollo_executable.proofs.SelectionEquality.{selections, fields, fragment_spreads, inline_fragments}
use Rattle.apollo_executable.proofs.SelectionEquality.{selection_sets}
use Rattle.apollo_executable.proofs.laws.equality_of_selections.Goals as goal

pub returns : goal.returns
returns c = search (selections.at, fields.at, fragment_spreads.at, inline_fragments.at, selection_sets.at)
