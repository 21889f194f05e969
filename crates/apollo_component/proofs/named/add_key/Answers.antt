use Rattle.std.proofs.Common.{arith}
use Rattle.apollo_component.proofs.FirstOfEachLemmas.{list_any-first_of_each}
use Rattle.apollo_component.proofs.Tabled.{first_of_each-insert}
use Rattle.apollo_component.proofs.named.add_key.Goals as goal

pub returns-clause-added : goal.returns-clause-added
returns-clause-added g c = λ ks was.
    let eq = g.T.PartialEq.eq in
    let laws = g.met.T.Eq.laws in (
      grind (arith, c.in_ok-added.ensures.keys, was, first_of_each-insert eq laws ks c.args.key),
      grind (arith, c.in_ok-added.ensures.added, was, list_any-first_of_each eq laws c.args.key ks),
    )
