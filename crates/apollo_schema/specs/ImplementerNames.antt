-- The names that an iterator over implementers still gives: GraphQL specification of October 2021, sections
-- 3.6 and 3.7.
use Rattle.std.specs.Prelude.{List, ◌++◌}
use Rattle.graphql_nodes.specs.NameView.{NameView}
use Rattle.apollo_schema.specs.declared.implementers.ImplementersIter.{ImplementersIter}

-- the names of object types that are left, and then those of interface types
abbrev pub names_left : ImplementersIter → List NameView
names_left names = names.objects ++ names.interfaces
