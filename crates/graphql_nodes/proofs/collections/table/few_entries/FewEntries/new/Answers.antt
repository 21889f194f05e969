use Rattle.graphql_nodes.proofs.FewEntryLemmas.{no_columns}
use Rattle.graphql_nodes.proofs.collections.table.few_entries.FewEntries.new.Goals as goal

pub invariant_of-result : goal.invariant_of-result
invariant_of-result g c = no_columns g.K.PartialEq.eq _ _ c.new.ensures.items c.new-2.ensures.items
