use Rattle.std.proofs.Common.{ap, arith, length}
use Rattle.std.specs.Slice.Iter.{iter_rest}
use Rattle.std.proofs.lemmas.Slice.Zip.{length-zip}
use Rattle.graphql_nodes.proofs.collections.table.iter.IterExactSizeIterator.len.Goals as goal

pub returns-clause-value : goal.returns-clause-value
returns-clause-value g c = omega (
  arith,
  c.len.ensures.value,
  length-zip (iter_rest c.self.inside.keys) (iter_rest c.self.inside.values),
  ap length c.self.view_is,
  c.self.invariant,
)
