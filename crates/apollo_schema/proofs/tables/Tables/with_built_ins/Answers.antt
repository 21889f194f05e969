use Rattle.apollo_meaning.proofs.Prelude.{false, List, [], ap, ◌∙◌, subst, Definition, next_number, added}
use Rattle.apollo_meaning.proofs.Prelude.{added_items}
use Rattle.apollo_folding.specs.declared.fold.Fold.{Fold}
use Rattle.apollo_schema.specs.Stands.{Stands}
use Rattle.apollo_schema.proofs.tables.Tables.with_built_ins.Goals as goal

pub returns-in-Ok : goal.returns-in-Ok
returns-in-Ok c =
    let start = next_number c.args.ids in
    let begun = subst (λ (f : Fold). Stands (next_number f.ids) [] c.new-tables.result) c.new.ensures
    (c.new-tables.ensures.stands (ap (λ (f : Fold). f.faults) c.new.ensures)) in
    subst (λ (l : List Definition). Stands start (added_items (added false l)) c.take.new.self)
    (c.as_slice.ensures ∙ c.in_ok-definitions.ensures) (c.in-Ok.ensures.stands start [] begun)
