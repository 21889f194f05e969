use Rattle.apollo_meaning.proofs.Prelude.{◌≡◌, ◌++◌, map, flat_map}
use Rattle.graphql_nodes.specs.Tables.{values_of}
use Rattle.apollo_schema.specs.SchemaWriteOut.{write_directives, write_held_schema_definition}
use Rattle.apollo_schema.specs.SchemaWriteOut.{write_held_type}
use Rattle.apollo_schema.proofs.schema.Schema.to_ast.Given as goal

abbrev pub invariant-loop-ty : goal.invariant-loop-ty
invariant-loop-ty l = l.written.items ≡ write_held_schema_definition l.self
    ++ write_directives (values_of l.self.directive_definitions) ++ flat_map write_held_type
    (map (λ t. t.now) l.yielded)
