use Rattle.std.proofs.Common.{◌≡◌, List, ◌++◌, map, ap, ◌∙◌}
use Rattle.graphql_ast.specs.Declarations.{schema_extension}
use Rattle.graphql_ast.specs.declared.parts.Parts.{Parts}
use Rattle.apollo_component.specs.Extensions.{extension_location}
use Rattle.apollo_component.specs.declared.extension.ExtensionId.{ExtensionId}
use Rattle.apollo_component.proofs.extension_parts.ExtensionParts.write_schemas.Goals as goal

pub loop-id-init : goal.loop-id-init
loop-id-init c =
    let left : ◌≡◌ {A = List (ExtensionId × Parts)} c.into_iter-id-iterator.result c.args.self =
    c.into_iter-id-iterator.ensures.into_iter_gives.0 ∙ c.in_ok-items.ensures
    ∙ c.in_ok-into_table.ensures ∙ c.self.view_is in
    ap (λ l. c.args.written.now.items ++ map (λ e. schema_extension e.1 (extension_location e.0)) l) left
