-- What the definition of a schema is written out as: GraphQL specification of October 2021, section 3.3.
--
-- **Write-out of a schema definition.** `write_schema_definition` goes likewise. A root stands where its
-- name does. The definition alone is left out, never an extension, where
--
-- - no root is of the origin "definition", whatever else the definition holds; or
-- - it would be implied: there is no description, no directive and no extension. And each operation has just
--   the root that it would have without a schema definition. That is the type of the default name where the
--   schema has an object type of this name, and else none.
use Rattle.std.specs.Prelude.{ℕ, List, ◌++◌, map, length, Option, None, Some, option_map, is_none, nat_eq}
use Rattle.std.specs.Prelude.{Bool, false, not, ◌&&◌, ◌==◌, if◌then◌else◌}
use Rattle.std.specs.List.{list_any, list_all}
use Rattle.std.specs.Option.{option_eq}
use Rattle.std.specs.Cmp.Lexicographic.{pointwise}
use Rattle.graphql_nodes.specs.NameView.{NameView}
use Rattle.graphql_nodes.specs.OperationTexts.{default_type_text}
use Rattle.graphql_nodes.specs.Tables.{lookup}
use Rattle.graphql_nodes.specs.SameText.{same_text}
use Rattle.graphql_nodes.specs.declared.source.SourceSpan.{SourceSpan}
use Rattle.graphql_nodes.specs.declared.operation_type.OperationType.{OperationType}
use Rattle.graphql_ast.specs.declared.definition.Definition.{Definition}
use Rattle.apollo_component.specs.Extensions.{same_origin}
use Rattle.apollo_component.specs.WriteOut.{SourcedPart, origins_in, identities, by_origin, written_schema}
use Rattle.apollo_component.specs.declared.extension.ComponentOrigin.TheVariants as origins
use Rattle.apollo_types.specs.Components.{of_directive, of_root}
use Rattle.apollo_types.specs.SchemaRoots.{operation_types, root_of, named_roots}
use Rattle.apollo_types.specs.TypeKinds.{is_object}
use Rattle.apollo_types.specs.declared.extended_type.ExtendedType.{ExtendedType}
use Rattle.apollo_types.specs.declared.schema_definition.SchemaDefinition.{SchemaDefinition}

-- the components of a schema definition: directives, roots
abbrev pub schema_components : SchemaDefinition → List SourcedPart
schema_components s = map of_directive s.directives.0 ++ map of_root (named_roots s)

-- a root comes from the definition itself, not from an extension
abbrev pub has_own_root : SchemaDefinition → Bool
has_own_root s = list_any (λ r. same_origin origins.Definition r.1.origin) (named_roots s)

-- the name that an operation type's root has where no schema definition names one
abbrev pub default_name : OperationType → NameView
default_name op = record { text = default_type_text op; location = None }

-- there is a type, and it is an object type
abbrev pub is_some_object : Option ExtendedType → Bool
is_some_object None = false
is_some_object (Some t) = is_object t

-- the text of that default name, where an object type stands under it
abbrev pub implied_name : List (NameView × ExtendedType) → OperationType → Option (List ℕ)
implied_name types op = if is_some_object (lookup (same_text (default_name op)) types)
    then Some (default_type_text op) else None

-- the root of the operation type is just the one that no schema definition would have to name
abbrev pub has_implied_root : List (NameView × ExtendedType) → SchemaDefinition → OperationType → Bool
has_implied_root types s op =
    option_eq (pointwise nat_eq) (option_map (λ n. n.name.text) (root_of s op)) (implied_name types op)

-- there is nothing but roots of the definition, and they are those that no schema definition would have to
-- name
abbrev pub is_implied : List (NameView × ExtendedType) → SchemaDefinition → Bool
is_implied types s = is_none s.description && (length s.directives.0 == 0)
    && (length (identities (origins_in (schema_components s))) == 0)
    && list_all (has_implied_root types s) operation_types

-- the definition is written: it has a root of its own, and says more than is implied
abbrev pub is_written : List (NameView × ExtendedType) → SchemaDefinition → Bool
is_written types s = has_own_root s && not (is_implied types s)

-- the definition, if it is written, then an extension for each identity
abbrev pub write_schema_definition : SchemaDefinition → Option SourceSpan → List (NameView × ExtendedType)
    → List Definition
write_schema_definition s location types =
    written_schema (is_written types s) s.description (by_origin (schema_components s)) location
