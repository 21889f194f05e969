use Rattle.apollo_meaning.proofs.Prelude.{List, Added}
use Rattle.apollo_schema.specs.BuilderStands.{IsFailed, IsOpenWith, Standing, Open, Failed}
use Rattle.apollo_schema.proofs.laws.a_builder_that_stands_for_a_list_has_not_failed.Goals as goal

not_both : (xs : List Added) (standing : Standing) → IsOpenWith xs standing → IsFailed standing → ⊥
not_both xs (Open list files) stands failed = failed
not_both xs (Failed source) stands failed = stands

pub returns : goal.returns
returns c = λ start xs b stands. not_both xs b.standing stands.1
