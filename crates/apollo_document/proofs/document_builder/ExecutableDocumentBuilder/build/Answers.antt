use Rattle.std.proofs.Common.{◌∙◌, List, Option, ap, sym, subst}
use Rattle.std.specs.Option.{option_copied}
use Rattle.apollo_schema.specs.declared.schema.Schema.{Schema}
use Rattle.apollo_document.specs.AddedDefinitions.{DocumentItem}
use Rattle.apollo_document.specs.BuilderStands.{Building, IsBuiltOf, IsBuiltOfList}
use Rattle.apollo_document.specs.Stands.{HoldsFor, standing_of}
use Rattle.apollo_document.specs.declared.state.State.{State}
use Rattle.apollo_document.proofs.BuiltLemmas.{ElaboratedSetsLaw, built_document}
use Rattle.apollo_document.proofs.document_builder.ExecutableDocumentBuilder.build.Goals as goal

-- what is seen of a builder that holds this
abbrev seen : Option Schema → List DocumentItem → State → Building
seen schema list held = record { schema = schema; standing = standing_of list held }

pub returns-in-Open-clause-built : goal.returns-in-Open-clause-built
returns-in-Open-clause-built c =
    let law = c.elaborated_sets.ensures in
    let sets : ElaboratedSetsLaw = record { kept = law.kept; typed = law.typed } in
    let schema = option_copied c.self.inside.schema in
    let list = c.self.inside.added.items in
    let held = c.in-Open.field-0 in
    let built = c.into_document.result in
    let stands = subst (HoldsFor schema list) c.in-Open.is c.self.invariant in
    let is : IsBuiltOfList schema list held.sources built.0 built.1.items = record {
      means = built_document sets schema list held.tables _ stands
          (ap (λ d. d.operations) c.into_document.ensures.document)
          (ap (λ d. d.fragments) c.into_document.ensures.document);
      its_sources = ap (λ d. d.sources) c.into_document.ensures.document;
      its_faults = c.into_document.ensures.faults ∙ stands.faults;
    } in
    subst (λ b. IsBuiltOf b built.0 built.1.items)
    (ap (seen schema list) (sym c.in-Open.is) ∙ c.self.view_is) is
