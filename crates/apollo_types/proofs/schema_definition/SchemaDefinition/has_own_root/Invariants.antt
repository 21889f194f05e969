use Rattle.std.proofs.Common.{◌≡◌}
use Rattle.std.specs.List.{list_any}
use Rattle.apollo_component.specs.Extensions.{same_origin}
use Rattle.apollo_component.specs.declared.extension.ComponentOrigin.TheVariants as origins
use Rattle.apollo_types.specs.SchemaDefinitionWriteOut.{has_own_root}
use Rattle.apollo_types.proofs.schema_definition.SchemaDefinition.has_own_root.Given as goal

abbrev pub invariant-loop-root : goal.invariant-loop-root
invariant-loop-root l = has_own_root l.self ≡ list_any (λ r. same_origin origins.Definition r.1.origin)
    l.root-iterator
