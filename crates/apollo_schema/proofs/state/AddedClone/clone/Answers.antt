use Rattle.apollo_meaning.proofs.Prelude.{◌≡◌}
use Rattle.apollo_schema.proofs.state.AddedClone.clone.Goals as goal

pub returns : goal.returns
returns c =
    let held = c.args.self.now in
    let tables : c.in_ok-tables.tables ≡ held.tables = c.in_ok-tables.ensures.cases in
    let sources : c.in_ok-sources.sources ≡ held.sources = c.in_ok-sources.ensures.cases.1 (λ x y e. e)
    (λ x y e. e) in
    record { cases = λ i. record { tables = tables i; sources = sources i } }
