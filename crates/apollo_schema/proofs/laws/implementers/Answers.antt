use Rattle.apollo_meaning.proofs.Prelude.{sym, ◌∙◌}
use Rattle.apollo_schema.proofs.SubtypeLemmas.{subtype-implementer}
use Rattle.apollo_schema.proofs.laws.implementers.Goals as goal

pub returns : goal.returns
returns c = λ types unique i t interface.
    let same = subtype-implementer types unique i t interface in
    (λ h. sym same ∙ h, λ h. same ∙ h)
