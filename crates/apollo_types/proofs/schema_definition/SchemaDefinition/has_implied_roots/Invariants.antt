use Rattle.std.proofs.Common.{◌≡◌, true, take}
use Rattle.std.specs.List.{list_all}
use Rattle.apollo_types.specs.SchemaDefinitionWriteOut.{has_implied_root}
use Rattle.apollo_types.proofs.schema_definition.SchemaDefinition.has_implied_roots.Given as goal

abbrev pub invariant-loop-operation_type : goal.invariant-loop-operation_type
invariant-loop-operation_type l = list_all (has_implied_root l.types l.self) (take l.operation_type-index
    l.operation_type-items) ≡ true
