use Rattle.apollo_meaning.proofs.Prelude.{List, refl, Added, ◌⊎◌, inl, inr}
use Rattle.apollo_schema.specs.BuilderStands.{Building, HasFailed, IsFailed, IsOpenWith, StandsFor, Standing}
use Rattle.apollo_schema.specs.BuilderStands.{Open, Failed}
use Rattle.apollo_schema.proofs.laws.every_builder_stands_for_a_list_or_has_failed.Goals as goal

either : (standing : Standing) → ((xs : List Added) × IsOpenWith xs standing) ⊎ IsFailed standing
either (Open list files) = inl (list, refl)
either (Failed source) = inr tt

from_first : (b : Building) → ((xs : List Added) × IsOpenWith xs b.standing) ⊎ IsFailed b.standing
    → ((xs : List Added) × StandsFor b.start xs b) ⊎ HasFailed b
from_first b (inl stands) = inl (stands.0, (refl, stands.1))
from_first b (inr failed) = inr failed

pub returns : goal.returns
returns c = λ b. from_first b (either b.standing)
