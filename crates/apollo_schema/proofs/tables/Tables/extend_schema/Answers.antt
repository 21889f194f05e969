use Rattle.apollo_meaning.proofs.Prelude.{refl, ap, rules, schema_extension_part}
use Rattle.apollo_folding.specs.declared.fold.Fold.{Fold}
use Rattle.apollo_folding.proofs.RefusalLemmas.{RefusedAs-through}
use Rattle.apollo_schema.proofs.Stands.SchemaStandsLemmas.{Stands-schema_early, Stands-schema_late}
use Rattle.apollo_schema.proofs.Stands.SchemaStandsLemmas.{schema_late-spent}
use Rattle.apollo_schema.proofs.tables.Tables.extend_schema.Goals as goal

pub returns-in_default-clause-stands : goal.returns-in_default-clause-stands
returns-in_default-clause-stands c = λ start xs was. Stands-schema_early was c.args.node.now _ c.in_default.is
    refl (search rules) (refl, (refl, refl)) refl

pub returns-in_err-extend_schema-clause-refused : goal.returns-in_err-extend_schema-clause-refused
returns-in_err-extend_schema-clause-refused c = RefusedAs-through c.from_residual-in_err-extend_schema.result
    c.in_err-extend_schema.field-0.0 c.from_residual-in_err-extend_schema.ensures.1
    (λ full start xs was. schema_late-spent was (schema_extension_part c.args.node.now) c.in-Some.definition
    c.in-Some.is full) c.in_err-extend_schema.ensures.refused

pub returns-clause-stands : goal.returns-clause-stands
returns-clause-stands c = λ start xs was. Stands-schema_late was (schema_extension_part c.args.node.now) _
    c.in-Some.definition c.extend_schema.new.node c.in-Some.is refl refl (refl, (refl, refl))
    c.in_ok-extend_schema.ensures.folded c.in_ok-extend_schema.ensures.faults
    (ap (λ (f : Fold). f.ids) c.in_ok-extend_schema.ensures.next)
