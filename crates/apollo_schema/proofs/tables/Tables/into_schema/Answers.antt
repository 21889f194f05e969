use Rattle.apollo_meaning.proofs.Prelude.{◌≡◌, ℕ, ◌==◌, Bool, List, length, sym, ap, subst, ◌∙◌, true≢false}
use Rattle.apollo_meaning.proofs.Prelude.{unwrap_or, Folding, Added, added_items, AreTypesOf}
use Rattle.apollo_meaning.proofs.Prelude.{directive_definitions, AreDirectivesOf, folded, whole}
use Rattle.std.proofs.lemmas.Bool.{eqb-true}
use Rattle.std.proofs.lemmas.List.{nil_from_length}
use Rattle.apollo_schema.specs.declared.schema.Schema.{Schema}
use Rattle.apollo_schema.specs.declared.tables.Tables.{Tables}
use Rattle.apollo_schema.specs.MeantSchema.{AreOf, MeansSchema}
use Rattle.apollo_meaning.specs.Schema.Definition.{no_schema}
use Rattle.apollo_schema.specs.Stands.{Completes}
use Rattle.apollo_meaning.proofs.Order.MomentLemmas.{folding_order-forget}
use Rattle.apollo_schema.proofs.tables.Tables.into_schema.Goals as goal

-- the schema of tables that hold all that a list means is the one that the list means
means : (start : ℕ) (adopts : Bool) (xs : List Added) (t : Tables) → Completes start adopts (added_items xs) t
    → (schema : Schema) → schema.schema_definition ≡ unwrap_or t.schema_definition no_schema
    → schema.types ≡ t.types → schema.directive_definitions ≡ t.directive_definitions
    → MeansSchema start adopts xs schema
means start adopts xs t all schema definition types directives =
    subst (λ (l : List Folding). AreOf start l (whole adopts xs) schema)
    (sym (folding_order-forget (whole adopts xs))) (record {
      definition = definition ∙ ap (λ o. unwrap_or o no_schema) all.definition;
      types = subst (AreTypesOf start (folded (whole adopts xs)) (whole adopts xs)) (sym types) all.types;
      directives = subst (AreDirectivesOf (directive_definitions (whole adopts xs))) (sym directives)
          all.directives;
    })

pub returns-then-is_empty-clause-built : goal.returns-then-is_empty-clause-built
returns-then-is_empty-clause-built c =
    let e = c.in-Ok-from_parts.ensures in
    λ start adopts xs all. means start adopts xs c.args.self all c.in-Ok-from_parts.schema
    (ap (λ s. s.schema_definition) e ∙ c.in-Ok.ensures) (ap (λ s. s.types) e)
    (ap (λ s. s.directive_definitions) e)

pub returns-then-is_empty-clause-faultless : goal.returns-then-is_empty-clause-faultless
returns-then-is_empty-clause-faultless c = λ start adopts xs all. sym all.faults
    ∙ nil_from_length c.args.self.fold.faults (eqb-true (length c.args.self.fold.faults) 0
    (sym c.is_empty.ensures ∙ c.if-is_empty.true))

pub returns-clause-faults : goal.returns-clause-faults
returns-clause-faults c =
    let e = c.in-Ok-from_parts.ensures in
    λ start adopts xs all. (
      means start adopts xs c.args.self all c.in-Ok-from_parts.schema (ap (λ s. s.schema_definition) e
          ∙ c.in-Ok.ensures) (ap (λ s. s.types) e) (ap (λ s. s.directive_definitions) e),
      (
        (
          c.into_vec.ensures ∙ all.faults,
          λ none. true≢false
              (sym (ap (λ l. length l == 0) (sym c.into_vec.ensures ∙ none)) ∙ sym c.is_empty.ensures
              ∙ c.if-is_empty.false),
        ),
        ap (λ s. s.sources) e,
      ),
    )
