use Rattle.graphql_nodes.proofs.FewEntryLemmas.{no_columns}
use Rattle.graphql_nodes.proofs.collections.table.few_entries.FewEntries.with_capacity.Goals as goal

pub invariant_of-result : goal.invariant_of-result
invariant_of-result g c = no_columns _ _ _ c.in_ok-keys.ensures.items c.in_ok-values.ensures.items
