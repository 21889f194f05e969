-- Where the selections of a field set stand: as those of an anonymous query. GraphQL specification of October
-- 2021, section 2.4.
use Rattle.std.specs.Prelude.{[]}
use Rattle.graphql_nodes.specs.declared.operation_type.OperationType.TheVariants.{Query}
use Rattle.apollo_document.specs.declared.selection_path.ExecutableDefinitionName.TheVariants.{AnonymousOperation}
use Rattle.apollo_document.specs.declared.selection_path.SelectionPath.{SelectionPath}

-- the path that the selections of a field set begin with
abbrev pub field_set_path : SelectionPath
field_set_path = record { root = AnonymousOperation Query; nested_fields = [] }
