use Rattle.std.proofs.Common.{◌≡◌, ◌∙◌}
use Rattle.leafcheck.specs.PathOrder.{begins_with}
use Rattle.leafcheck.proofs.PathOrderLemmas.{begins_with-Begins}
use Rattle.leafcheck.proofs.leaf_fault.begins_with.Goals as goal

pub returns : goal.returns
returns c =
    let path = c.args.path.now in
    let outer = c.args.outer.now in
    let same : c.begins_with.result ≡ begins_with path outer = c.begins_with.ensures
    ∙ (λ i. begins_with (c.of.ensures i) (c.of-2.ensures i)) in
    rw same (begins_with-Begins path outer)
