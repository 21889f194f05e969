use Rattle.graphql_nodes.proofs.Comparisons.{Compares}
use Rattle.graphql_nodes.proofs.TableEquality.{tables, tables_of_names, sets, sets_of_names}
use Rattle.graphql_nodes.proofs.laws.equality_of_tables_and_sets.Goals as goal

pub returns-clause-table : goal.returns-clause-table
returns-clause-table g c = λ f t. let w : Compares g.V.PartialEq.eq f =
    record { at = t } in (tables g.met.K.Eq.laws w).at

pub returns-clause-table_of_names : goal.returns-clause-table_of_names
returns-clause-table_of_names g c = λ f t. let w : Compares g.V.PartialEq.eq f =
    record { at = t } in (tables_of_names w).at

pub returns-clause-key_set : goal.returns-clause-key_set
returns-clause-key_set g c = (sets g.met.K.Eq.laws).at

pub returns-clause-key_set_of_names : goal.returns-clause-key_set_of_names
returns-clause-key_set_of_names g c = sets_of_names.at
