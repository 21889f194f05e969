use Rattle.apollo_meaning.proofs.Types.NameLemmas.{type_names-first}
use Rattle.apollo_meaning.proofs.laws.type_names_are_the_first_of_each_text.Goals as goal

pub returns : goal.returns
returns c = type_names-first
