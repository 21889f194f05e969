use Rattle.apollo_meaning.proofs.Prelude.{[], ◌∷◌, ◌++◌, refl, sym, subst, ◌∙◌, SchemaDefined}
use Rattle.apollo_meaning.proofs.Prelude.{schema_definition_part}
use Rattle.apollo_meaning.specs.declared.build_error.BuildError.TheVariants as errors
use Rattle.apollo_folding.specs.Noting.{noting}
use Rattle.apollo_schema.specs.Stands.{Stands}
use Rattle.apollo_schema.specs.Takes.{with_schema}
use Rattle.apollo_folding.proofs.RefusalLemmas.{RefusedAs-through}
use Rattle.apollo_schema.proofs.Stands.SchemaStandsLemmas.{Stands-schema_again, Stands-schema_new}
use Rattle.apollo_schema.proofs.Stands.SchemaStandsLemmas.{schema_new-spent}
use Rattle.apollo_schema.proofs.tables.Tables.define_schema.Goals as goal

pub returns-in-Some-clause-stands : goal.returns-in-Some-clause-stands
returns-in-Some-clause-stands c =
    λ start xs was. Stands-schema_again was (schema_definition_part c.args.node.now) _ c.in-Some.previous
    c.in-Some.is refl refl (refl, (refl, refl)) (c.in_ok-note.ensures.noted
    ∙ (λ i. noting ((c.location-in-Some.ensures i, errors.SchemaDefinitionCollision (c.location.ensures i))
    ∷ []) c.args.self.now.fold))

pub returns-in_err-put_schema-clause-refused : goal.returns-in_err-put_schema-clause-refused
returns-in_err-put_schema-clause-refused c = RefusedAs-through c.from_residual-in_err-put_schema.result
    c.in_err-put_schema.field-0.0 c.from_residual-in_err-put_schema.ensures.1
    (λ full start xs was. schema_new-spent was (schema_definition_part c.args.node.now) c.in_default.is full)
    c.in_err-put_schema.ensures.refused

pub returns-clause-stands : goal.returns-clause-stands
returns-clause-stands c = λ start xs was.
    let s = schema_definition_part c.args.node.now in
    subst (Stands start (xs ++ SchemaDefined s ∷ [])) (sym c.in_ok-put_schema.ensures.put) (Stands-schema_new
    was s (with_schema c.args.self.now s) c.in_default.is refl refl (refl, (refl, refl)) refl)
