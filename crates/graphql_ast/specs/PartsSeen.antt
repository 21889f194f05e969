-- The parts that borrowed ones show: GraphQL specification of October 2021, sections 3.3 and 3.5 to 3.10.
use Rattle.graphql_ast.specs.declared.parts.Parts.{Parts}
use Rattle.graphql_ast.specs.declared.parts.PartsRef.{PartsRef}

-- the parts that are seen
abbrev pub parts_seen : PartsRef → Parts
parts_seen seen = record {
  directives = seen.directives.now;
  names = seen.names.now;
  fields = seen.fields.now;
  values = seen.values.now;
  input_fields = seen.input_fields.now;
  roots = seen.roots.now;
}
