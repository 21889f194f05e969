use Rattle.graphql_nodes.proofs.TableLemmas.{key_finds}
use Rattle.graphql_nodes.proofs.collections.table.few_entries.FewEntries.get_index.Goals as goal

pub returns-clause-value : goal.returns-clause-value
returns-clause-value g c =
    key_finds g.met.K.Eq.laws c.args.self.now c.args.place _ c.len-len.ensures.unique c.pair_at.ensures
