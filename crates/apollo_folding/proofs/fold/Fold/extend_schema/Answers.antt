use Rattle.apollo_meaning.proofs.Prelude.{◌≡◌, [], ◌∷◌, ◌++◌, ap, ◌∙◌, rules, NodeView, SchemaDefinition}
use Rattle.apollo_meaning.proofs.Prelude.{schema_extension_part, schema_definition_of, schema_from}
use Rattle.std.specs.Result.{IsOk}
use Rattle.apollo_component.specs.declared.extension.ComponentOrigin.TheVariants.{Extension}
use Rattle.apollo_folding.proofs.fold.Fold.extend_schema.Goals as goal

pub returns-clause-folded : goal.returns-clause-folded
returns-clause-folded c = λ head done was.
    let part = schema_extension_part c.args.extension.now in
    let directives : part.parts.directives ≡ c.as_slice.result.now = cc in
    let roots : part.parts.roots ≡ c.as_slice-2.result.now = cc in
    let ok : IsOk c.make_mut.result = search rules in
    let lent : c.make_mut.follows.lender c.fold_schema.new.definition
    ≡ record { value = c.fold_schema.new.definition; location = c.args.node.now.location } =
    c.make_mut.follows.holds c.fold_schema.new.definition ok in
    let value = c.in_ok-make_mut.ensures.value ∙ ap (λ (n : NodeView SchemaDefinition). n.value) was in
    let folded : c.fold_schema.new.definition
    ≡ schema_definition_of head (done ++ (Extension c.in_ok-id.id, part) ∷ []) =
    c.in_ok-fold_schema.ensures.folded head part done directives roots value in
    lent ∙ (λ i. record { value = folded i; location = (was i).location })
    ∙ ap (λ id. schema_from head (done ++ (Extension id, part) ∷ [])) c.in_ok-id.ensures.drawn.0

pub returns-clause-faults : goal.returns-clause-faults
returns-clause-faults c = λ head done was.
    let part = schema_extension_part c.args.extension.now in
    let roots : part.parts.roots ≡ c.as_slice-2.result.now = cc in
    c.in_ok-fold_schema.ensures.faults head part done roots (c.in_ok-make_mut.ensures.value
    ∙ ap (λ (n : NodeView SchemaDefinition). n.value) was)
