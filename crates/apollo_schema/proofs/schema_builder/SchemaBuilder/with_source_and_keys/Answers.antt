use Rattle.apollo_meaning.proofs.Prelude.{◌≡◌, false, List, [], sym, ap, subst, ◌∙◌, append-nil, next_number}
use Rattle.apollo_meaning.proofs.Prelude.{Added, added, added_items}
use Rattle.apollo_meaning.specs.BuiltInTable.{built_in_definitions}
use Rattle.apollo_schema.specs.BuilderStands.{Open, with_built_ins}
use Rattle.apollo_schema.specs.Stands.{Stands}
use Rattle.apollo_schema.proofs.schema_builder.SchemaBuilder.with_source_and_keys.Goals as goal

-- nothing behind the built-in definitions
none_more : (more : List Added) → more ≡ [] → with_built_ins more ≡ added false built_in_definitions
none_more more none = ap with_built_ins none ∙ append-nil (added false built_in_definitions)

pub invariant_of-result : goal.invariant_of-result
invariant_of-result c =
    let tables = c.in_ok-tables.tables in
    subst (λ n. Stands n (added_items (with_built_ins c.none.result.items)) tables)
    (sym c.next_number-first_number.ensures)
    (subst (λ (l : List Added). Stands (next_number c.args.source) (added_items l) tables)
    (sym (none_more c.none.result.items c.none.ensures)) c.in_ok-tables.ensures)

pub returns : goal.returns
returns c = λ i. record {
  start = c.next_number-first_number.ensures i;
  adopts = false;
  ignores = false;
  standing = Open (none_more c.none.result.items c.none.ensures i) (c.with_keys-sources.ensures i);
}
