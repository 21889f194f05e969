use Rattle.graphql_ast.proofs.TypeCompatibility as steps
use Rattle.graphql_ast.proofs.laws.compatibility_of_types.Goals as goal

pub returns-clause-nullable_at_non_null : goal.returns-clause-nullable_at_non_null
returns-clause-nullable_at_non_null c = steps.nullable_at_non_null

pub returns-clause-both_non_null : goal.returns-clause-both_non_null
returns-clause-both_non_null c = steps.both_non_null

pub returns-clause-non_null_at_nullable : goal.returns-clause-non_null_at_nullable
returns-clause-non_null_at_nullable c = steps.non_null_at_nullable

pub returns-clause-lists : goal.returns-clause-lists
returns-clause-lists c = steps.lists

pub returns-clause-one_list : goal.returns-clause-one_list
returns-clause-one_list c = steps.one_list

pub returns-clause-names : goal.returns-clause-names
returns-clause-names c = steps.names
