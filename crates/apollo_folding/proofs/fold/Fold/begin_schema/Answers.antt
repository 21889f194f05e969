use Rattle.apollo_meaning.proofs.Prelude.{[], ◌∷◌, ◌++◌, map, length, ap, ◌∙◌, append_assoc, next_number}
use Rattle.apollo_meaning.proofs.Prelude.{schema_definition_part, schema_extension_part, schema_faults}
use Rattle.apollo_meaning.proofs.Prelude.{schema_joining_faults, schema_begun}
use Rattle.apollo_component.specs.declared.extension.ComponentOrigin.TheVariants.{Definition}
use Rattle.apollo_folding.specs.Refusals.{after}
use Rattle.apollo_folding.specs.declared.fold.Fold.{Fold}
use Rattle.apollo_folding.proofs.fold.Fold.begin_schema.Goals as goal

pub returns-clause-made : goal.returns-clause-made
returns-clause-made c =
    let head = schema_definition_part c.args.node.now in
    let parts = map schema_extension_part c.args.extensions.now in
    c.in_ok-extend_schema_by_all.ensures.folded head ((Definition, head) ∷ []) c.in_ok-definition.ensures.made
    ∙ ap (λ (f : Fold). schema_begun (next_number f.ids) head parts) c.in_ok-definition.ensures.faults

pub returns-clause-folded : goal.returns-clause-folded
returns-clause-folded c =
    let head = schema_definition_part c.args.node.now in
    let joining = schema_joining_faults (head ∷ []) (map schema_extension_part c.args.extensions.now) in
    let joined = c.in_ok-extend_schema_by_all.ensures in
    let began = c.in_ok-definition.ensures in
    let faults = joined.faults head ((Definition, head) ∷ []) began.made
    ∙ ap (λ (f : Fold). f.faults ++ joining) began.faults
    ∙ append_assoc c.args.self.now.faults (schema_faults [] head) joining in
    joined.next ∙ (λ i. record (began.faults i) {
      ids = after (began.faults i).ids (length c.args.extensions.now);
      faults = faults i;
    })
