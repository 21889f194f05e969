use Rattle.apollo_document.proofs.BuiltLemmas.{ElaboratedSetsLaw, document_of, is_document}
use Rattle.apollo_document.proofs.laws.every_list_means_a_document.Goals as goal

pub returns : goal.returns
returns c =
    let law = c.elaborated_sets.ensures in
    let sets : ElaboratedSetsLaw = record { kept = law.kept; typed = law.typed } in
    λ s xs. (document_of sets s xs, is_document sets s xs)
