use Rattle.std.proofs.Common.{sym, subst}
use Rattle.graphql_nodes.specs.Tables.{HasUniqueKeys}
use Rattle.graphql_nodes.proofs.collections.table.Table.insert.Goals as goal

pub returns-then-is_err-clause-unique : goal.returns-then-is_err-clause-unique
returns-then-is_err-clause-unique g c =
    subst (HasUniqueKeys g.K.PartialEq.eq) (sym c.hold_many.ensures) c.is_full_of_few.ensures.unique
