use Rattle.std.proofs.Common.{◌∷◌, ap, ◌∙◌}
use Rattle.apollo_field_usage.specs.Left.{lists_of, innermost_first}
use Rattle.apollo_field_usage.proofs.OpenLemmas.{innermost-push}
use Rattle.apollo_field_usage.proofs.open_sets.OpenSets.open.Goals as goal

pub returns-clause-lists : goal.returns-clause-lists
returns-clause-lists c = ap innermost_first c.in_ok-push.ensures.items
    ∙ innermost-push c.args.self.now.open.items _ ∙ (λ i. (c.args.set.now.ty, c.as_slice.ensures i)
    ∷ lists_of c.args.self.now)
