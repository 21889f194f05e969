use Rattle.std.proofs.Common.{length, ap, arith}
use Rattle.graphql_nodes.proofs.collections.key_set.few_keys.put_each.Goals as goal

pub unwrap-requires : goal.unwrap-requires
unwrap-requires g c = c.insert.ensures.succeeds (omega (
  arith,
  c.loop-key.invariant.3,
  ap length c.in-Some.ensures.steps.0,
))
