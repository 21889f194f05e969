use Rattle.apollo_component.proofs.LaterLemmas.{first_of_each-by_place, later-kept}
use Rattle.apollo_component.proofs.laws.each_is_first_or_later.Goals as goal

pub returns-clause-firsts : goal.returns-clause-firsts
returns-clause-firsts g c = λ same xs laws. first_of_each-by_place same laws xs

pub returns-clause-kept : goal.returns-clause-kept
returns-clause-kept g c = λ same xs laws. later-kept same laws xs
