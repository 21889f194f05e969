-- What is wrong with the definitions and extensions of the schema: GraphQL specification of October 2021,
-- sections 3.3.1 and 3.3.2.
--
-- **Repeated root.** `root_fault`: a root is at fault if one of the same operation is before it. That one is
-- in the same part of the schema or in an earlier one. The order of parts is that which collisions have.
-- `DuplicateRootOperation`, at the root's node, with the text of the operation (as `query`) and the location
-- of the kept name.
--
-- **Further schema definition.** `further_schema`: a schema definition that isn't the first one.
-- `SchemaDefinitionCollision`, at its node, with the location of the first one's node. Its directives
-- and roots are not looked at.
--
-- **Orphan of the schema.** `schema_orphan`: an extension of the schema where neither a schema
-- definition was handed in nor one is implied. `OrphanSchemaExtension`, at its node. With adoption there
-- is none.
use Rattle.std.specs.Prelude.{Bool, List, [], ◌∷◌}
use Rattle.std.specs.Option.{option_map_or}
use Rattle.std.specs.List.{find}
use Rattle.graphql_nodes.specs.OperationTexts.{operation_text}
use Rattle.apollo_component.specs.EachAfter.{each_after}
use Rattle.apollo_component.specs.FirstOfEach.{kept_for}
use Rattle.apollo_meaning.specs.Items.Parts.{SchemaPart, Root, roots_in}
use Rattle.apollo_meaning.specs.Faults.Collisions.{Fault}
use Rattle.apollo_meaning.specs.Schema.Definition.{same_operation}
use Rattle.apollo_meaning.specs.declared.build_error.BuildError.TheVariants as errors

-- what is wrong with a root with these before it: it is dropped where one of them is named for its operation
abbrev pub root_fault : List Root → Root → List Fault
root_fault before r = option_map_or
    (λ kept. (r.location, errors.DuplicateRootOperation kept.value.1.location (operation_text r.value.0))
    ∷ [])
    (find (λ k. same_operation r.value.0 k.value.0) before) []

-- the faults of roots with these before them, in order
abbrev pub root_faults : List Root → List Root → List Fault
root_faults = each_after root_fault

-- roots are the same by their operations
abbrev pub same_root : Root → Root → Bool
same_root a b = same_operation a.value.0 b.value.0

-- the fault of a root that is dropped where these are kept: at the root, with the location of the kept one
abbrev pub dropped_root : List Root → Root → Fault
dropped_root kept r = (
  r.location,
  errors.DuplicateRootOperation (kept_for same_root kept r).value.1.location (operation_text r.value.0),
)

-- the roots that are dropped where a part joins these parts
abbrev pub schema_faults : List SchemaPart → SchemaPart → List Fault
schema_faults parts s = root_faults (roots_in parts) s.parts.roots

-- the fault of a further definition of the schema, with this first one
abbrev pub further_schema : SchemaPart → SchemaPart → Fault
further_schema s t = (t.location, errors.SchemaDefinitionCollision s.location)

-- the fault of an extension of a schema without a definition
abbrev pub schema_orphan : SchemaPart → Fault
schema_orphan e = (e.location, errors.OrphanSchemaExtension)
