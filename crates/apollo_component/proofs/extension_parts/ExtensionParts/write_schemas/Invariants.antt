use Rattle.std.proofs.Common.{◌≡◌, ◌++◌, map}
use Rattle.graphql_ast.specs.Declarations.{schema_extension}
use Rattle.apollo_component.specs.Extensions.{extension_location}
use Rattle.apollo_component.proofs.extension_parts.ExtensionParts.write_schemas.Given as goal

abbrev pub invariant-loop-id : goal.invariant-loop-id
invariant-loop-id l = l.written.items ++ map (λ e. schema_extension e.1 (extension_location e.0))
    l.id-iterator ≡ l.fn.written.items ++ map (λ e. schema_extension e.1 (extension_location e.0)) l.fn.self
