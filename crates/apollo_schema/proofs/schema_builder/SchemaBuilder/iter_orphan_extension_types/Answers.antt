use Rattle.apollo_meaning.proofs.Prelude.{ap, ◌∙◌, added_items}
use Rattle.apollo_meaning.specs.Completion.OrphanNames.{orphan_names}
use Rattle.apollo_schema.specs.BuilderStands.{list_of}
use Rattle.apollo_schema.proofs.BuilderLemmas.{holds-as, seen-as, whole_list}
use Rattle.apollo_schema.proofs.schema_builder.SchemaBuilder.iter_orphan_extension_types.Goals as goal

pub returns-in-Open : goal.returns-in-Open
returns-in-Open c =
    let b = c.self.inside in
    c.orphan_names.ensures b.first_number (added_items (whole_list b))
    (holds-as b c.in-Open.is c.self.invariant) ∙ ap (λ b. orphan_names (added_items (list_of b)))
    (seen-as b c.in-Open.is c.self.view_is)

pub returns-in-Failed : goal.returns-in-Failed
returns-in-Failed c =
    let b = c.self.inside in
    c.none.ensures ∙ ap (λ b. orphan_names (added_items (list_of b)))
    (seen-as b c.in-Failed.is c.self.view_is)
