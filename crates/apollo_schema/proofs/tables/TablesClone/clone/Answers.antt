use Rattle.apollo_meaning.proofs.Prelude.{◌≡◌, ◌∙◌, rules}
use Rattle.apollo_schema.proofs.tables.TablesClone.clone.Goals as goal

pub returns : goal.returns
returns c =
    let t = c.args.self.now in
    let fold : c.new-copy.result.fold ≡ t.fold = search rules in
    record { cases = c.in_ok-copy_from.ensures ∙ (λ i. record t { fold = fold i }) }
