use Rattle.apollo_meaning.proofs.Prelude.{◌++◌, map, sym, ap, ◌∙◌, flat_map, SchemaDefinition, component}
use Rattle.apollo_meaning.proofs.Prelude.{SourcedSchema}
use Rattle.apollo_meaning.specs.Schema.Definition.{schema_directives_of, roots_of}
use Rattle.apollo_folding.specs.RootTables.{root_with_origin, with_roots, held_faults}
use Rattle.apollo_folding.proofs.RootLemmas.{schema-push, held-schema_faults}
use Rattle.apollo_folding.proofs.from_ast.schema_definition.fold_schema.Goals as goal

pub returns-clause-folded : goal.returns-clause-folded
returns-clause-folded c = λ head part done directives roots was.
    let o = c.args.origin in
    let s : SourcedSchema = (o, part) in
    let base : SchemaDefinition = record c.args.definition.now { directives = c.fold_directives.new.list } in
    let first = flat_map roots_of done in
    let folded = c.in_ok-fold_directives.ensures ∙ ap (λ l. l ++ map (component o) c.args.directives.now)
    (ap (λ (d : SchemaDefinition). d.directives.0) was) ∙ ap (λ l. flat_map schema_directives_of done
    ++ map (component o) l) (sym directives) in
    c.in_ok-fold_roots.ensures.named base first
    (λ i. record (was i) { description = base.description; directives = base.directives })
    ∙ ap (λ l. with_roots base (first ++ map (root_with_origin o) l)) (sym roots)
    ∙ schema-push base head done s (ap (λ (d : SchemaDefinition). d.description) was) folded

pub returns-clause-faults : goal.returns-clause-faults
returns-clause-faults c = λ head part done roots was.
    let o = c.args.origin in
    let base : SchemaDefinition = record c.args.definition.now { directives = c.fold_directives.new.list } in
    let before = c.args.faults.now in
    c.in_ok-fold_roots.ensures.faults base (flat_map roots_of done)
    (λ i. record (was i) { description = base.description; directives = base.directives })
    ∙ ap (λ l. before ++ held_faults (flat_map roots_of done) o l) (sym roots)
    ∙ ap (λ l. before ++ l) (held-schema_faults done o part)
