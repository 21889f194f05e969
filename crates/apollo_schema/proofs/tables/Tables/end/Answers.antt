use Rattle.apollo_meaning.proofs.Prelude.{◌≡◌, ◌+◌, ◌^◌, ◌≤◌, [], ◌∷◌, length, map, Option, Some, refl, sym}
use Rattle.apollo_meaning.proofs.Prelude.{ap, subst, ◌∙◌, option_map_or, NodeView, next_number, SchemaDefined}
use Rattle.apollo_meaning.proofs.Prelude.{schema_definition_part, schema_extension_part, schema_orphan}
use Rattle.apollo_meaning.proofs.Prelude.{schema_begun, schema_begun_faults, implied_schema}
use Rattle.graphql_ast.specs.declared.type_system.SchemaDefinition.{SchemaDefinition}
use Rattle.apollo_schema.specs.declared.tables.Tables.{Tables}
use Rattle.apollo_folding.specs.Noting.{noting, having_folded}
use Rattle.apollo_folding.specs.declared.fold.Fold.{Fold}
use Rattle.apollo_schema.specs.Stands.{Ends}
use Rattle.apollo_schema.specs.Takes.{with_schema}
use Rattle.apollo_folding.proofs.RefusalLemmas.{RefusedAs-through}
use Rattle.apollo_schema.proofs.Ends.EndLemmas.{Ends-none, Ends-some, implied-absent, implied-spent}
use Rattle.apollo_schema.proofs.tables.Tables.end.Goals as goal

pub returns-in_default-clause-ends : goal.returns-in_default-clause-ends
returns-in_default-clause-ends c = λ start xs was.
    let t = c.args.self.now in
    let these : implied_schema c.args.adopts xs ≡ [] = sym (c.in_ok-implied.ensures start xs was)
    ∙ ap (λ (o : Option (NodeView SchemaDefinition)). option_map_or
    (λ node. SchemaDefined (schema_definition_part node) ∷ []) o []) c.in_default.is in
    let ended : Tables = record t { fold = c.note_schema_orphans.new.self } in
    subst (λ l. Ends start l xs ended) (sym these) (Ends-none was ended refl refl refl
    (c.in_ok-note_schema_orphans.ensures.noted
    ∙ (λ i. noting (map schema_orphan (map schema_extension_part (c.as_slice.ensures i)))
    (c.in_ok-note_orphans.ensures.noted i))))

pub returns-in_err-put_schema-clause-refused : goal.returns-in_err-put_schema-clause-refused
returns-in_err-put_schema-clause-refused c =
    let implied : Option (NodeView SchemaDefinition) = c.in_ok-implied.implied in
    RefusedAs-through c.from_residual-in_err-put_schema.result c.in_err-put_schema.field-0.0
    c.from_residual-in_err-put_schema.ensures.1 (λ full start xs was.
    let these = sym (c.in_ok-implied.ensures start xs was) ∙ ap (λ (o : Option (NodeView SchemaDefinition)).
    option_map_or (λ node. SchemaDefined (schema_definition_part node) ∷ []) o []) c.in-Some.is in
    let spent : 2 ^ 64 ≤ next_number c.args.self.now.fold.ids + length c.args.self.now.schema_extensions =
    subst (λ (f : Fold). 2 ^ 64 ≤ next_number f.ids + length c.args.self.now.schema_extensions)
    c.in_ok-note_orphans.ensures.noted full in
    implied-spent was c.args.adopts (schema_definition_part c.in-Some.node) these spent)
    c.in_err-put_schema.ensures.refused

pub returns-clause-ends : goal.returns-clause-ends
returns-clause-ends c = λ start xs was.
    let t = c.args.self.now in
    let s = schema_definition_part c.in-Some.node in
    let these : implied_schema c.args.adopts xs ≡ SchemaDefined s ∷ [] =
    sym (c.in_ok-implied.ensures start xs was) ∙ ap (λ (o : Option (NodeView SchemaDefinition)).
    option_map_or (λ node. SchemaDefined (schema_definition_part node) ∷ []) o []) c.in-Some.is in
    let waiting = map schema_extension_part t.schema_extensions in
    let noted : Tables = record t { fold = c.note_orphans.new.self } in
    let folded = having_folded (length t.schema_extensions) (schema_begun_faults s waiting) in
    subst (λ l. Ends start l xs c.put_schema.new.self) (sym these)
    (subst (Ends start (SchemaDefined s ∷ []) xs) (sym c.in_ok-put_schema.ensures.put)
    (Ends-some was s (with_schema noted s) (implied-absent was c.args.adopts (SchemaDefined s) these)
    (ap (λ (f : Fold). Some (schema_begun (next_number f.ids) s waiting))
    c.in_ok-note_orphans.ensures.noted) refl refl (ap folded c.in_ok-note_orphans.ensures.noted)))
