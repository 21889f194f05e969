use Rattle.std.proofs.Common.{◌≡◌, ◌⊎◌, inl, inr, List, Option, refl}
use Rattle.apollo_schema.specs.declared.schema.Schema.{Schema}
use Rattle.apollo_document.specs.AddedDefinitions.{DocumentItem}
use Rattle.apollo_document.specs.BuilderStands.{IsFailed, IsOpenWith, Standing, Open, Failed}
use Rattle.apollo_document.proofs.laws.every_builder_stands_for_a_list_or_has_failed.Goals as goal

either : (schema : Option Schema) (standing : Standing)
    → ((xs : List DocumentItem) × ((schema ≡ schema) × IsOpenWith xs standing)) ⊎ IsFailed standing
either schema (Open list files) = inl (list, (refl, refl))
either schema Failed = inr tt

pub returns : goal.returns
returns c = λ b. either b.schema b.standing
