-- The parts of extensions, by first appearance: GraphQL specification of October 2021, sections 3.3.2 and
-- 3.4.3.
use Rattle.std.specs.Prelude.{List, [], ◌∷◌, unwrap_or}
use Rattle.graphql_nodes.specs.Tables.{lookup, insert_entry}
use Rattle.graphql_ast.specs.Parts.{no_parts, with_part}
use Rattle.graphql_ast.specs.declared.parts.Part.{Part}
use Rattle.graphql_ast.specs.declared.parts.Parts.{Parts}
use Rattle.apollo_component.specs.Extensions.{same_id}
use Rattle.apollo_component.specs.declared.extension.ExtensionId.{ExtensionId}
use Rattle.apollo_component.specs.declared.extension_parts.HeldParts.{HeldParts}
use Rattle.apollo_component.specs.declared.extension_parts.HeldParts.TheVariants.{Nothing, One, Many}

-- what is held: nothing, one extension or a table of them
abbrev pub entries_held : HeldParts → List (ExtensionId × Parts)
entries_held Nothing = []
entries_held (One id parts) = (id, parts) ∷ []
entries_held (Many table) = table

-- one part more of the extension of this identity, which is new or has parts
abbrev pub with_extension_part : ExtensionId → Part → List (ExtensionId × Parts) → List (ExtensionId × Parts)
with_extension_part id part extensions =
    insert_entry same_id extensions id (with_part part (unwrap_or (lookup (same_id id) extensions) no_parts))
