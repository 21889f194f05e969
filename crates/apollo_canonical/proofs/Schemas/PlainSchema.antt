-- The schema definition that a plain list means, and what it is written out as.
use Rattle.apollo_canonical.proofs as canonical
use canonical.Prelude.{Bool, Component, ComponentName, ExtendedType, Folding, List, ListItem, Mutation}
use canonical.Prelude.{NameView, NodeView, None, OperationType, Option, PartsByOrigin, Query}
use canonical.Prelude.{SchemaDefinition, SchemaPart, Some, SourcedSchema, Subscription, [], ap, arith}
use canonical.Prelude.{bare_definition, bare_name, bare_node, by_origin, default_name, find, find-made}
use canonical.Prelude.{first_schema, first_schema-unplaced, flat_map, flat_map-map, folding_order}
use canonical.Prelude.{has_implied_root, has_own_root, identities, is_some_object, is_written, length}
use canonical.Prelude.{length-map, list_all, lookup, map, map-append, map-flat_map, map-map, mark}
use canonical.Prelude.{named_roots, no_schema, not, operation_types, option_map, origins_in, refl, root_in}
use canonical.Prelude.{roots_of, same_operation, same_text, schema_components, schema_directives_of}
use canonical.Prelude.{schema_extension, schema_from, schema_of, schema_parts, schema_sourced, true}
use canonical.Prelude.{unwrap_or, write_schema_definition, written_schema, ℕ, ◌&&◌, ◌+◌, ◌==◌, ◌∙◌, ◌∷◌, ◌≡◌}
use canonical.Schemas.Plain.{folding_order-plain, plain_folding, plain_list, plain_schema_part}
use canonical.Schemas.PlainParts.{by_origin-plain, extensions-plain, identities-plain, nowhere}
use canonical.Schemas.PlainParts.{plain_by_origin, plain_id, plain_origin, plain_part_of}
use Rattle.std.specs.Prelude.{is_none}
use Rattle.graphql_ast.specs.Bare.{bare_directive}
use Rattle.graphql_ast.specs.declared.directive.Directive.{Directive}
use Rattle.apollo_component.specs.declared.extension.ComponentOrigin.TheVariants as origins

-- a component, and a name that is one
abbrev plain_component : Component Directive → Component Directive
plain_component c = record { origin = plain_origin c.origin; node = bare_node bare_directive c.node }

abbrev plain_component_name : ComponentName → ComponentName
plain_component_name c = record { origin = plain_origin c.origin; name = bare_name c.name }

-- a schema definition
abbrev plain_definition : SchemaDefinition → SchemaDefinition
plain_definition s = record {
  description = option_map bare_name s.description;
  directives = record { 0 = map plain_component s.directives.0 };
  query = option_map plain_component_name s.query;
  mutation = option_map plain_component_name s.mutation;
  subscription = option_map plain_component_name s.subscription;
}

abbrev pub plain_node : NodeView SchemaDefinition → NodeView SchemaDefinition
plain_node n = record { value = plain_definition n.value; location = mark n.location }

-- ---- of parts

-- a part with its origin, and a root
abbrev plain_sourced : SourcedSchema → SourcedSchema
plain_sourced s = (plain_origin s.0, plain_schema_part s.1)

abbrev plain_root : OperationType × ComponentName → OperationType × ComponentName
plain_root r = (r.0, plain_component_name r.1)

directives : (ps : List SourcedSchema)
    → flat_map schema_directives_of (map plain_sourced ps)
    ≡ map plain_component (flat_map schema_directives_of ps)
directives ps = simp (flat_map-map, map-flat_map, map-map)

roots : (ps : List SourcedSchema)
    → flat_map roots_of (map plain_sourced ps) ≡ map plain_root (flat_map roots_of ps)
roots ps = simp (flat_map-map, map-flat_map, map-map)

root : (op : OperationType) (ps : List SourcedSchema)
    → root_in op (map plain_sourced ps) ≡ option_map plain_component_name (root_in op ps)
root op ps = ap (λ rs. option_map (λ r. r.1) (find (λ r. same_operation op r.0) rs)) (roots ps)
    ∙ ap (option_map (λ r. r.1)) (find-made _ plain_root (flat_map roots_of ps)) ∙ grind arith

from-plain : (head : SchemaPart) (ps : List SourcedSchema)
    → schema_from (plain_schema_part head) (map plain_sourced ps) ≡ plain_node (schema_from head ps)
from-plain head ps = λ i. record {
  value = record {
    description = option_map bare_name head.description;
    directives = record { 0 = directives ps i };
    query = root Query ps i;
    mutation = root Mutation ps i;
    subscription = root Subscription ps i;
  };
  location = mark head.location;
}

-- the extensions that are folded, with their numbers
sourced-plain : (start : ℕ) (fs : List Folding)
    → schema_sourced start (map plain_folding fs) ≡ map plain_sourced (schema_sourced start fs)
sourced-plain start [] = refl
sourced-plain start (f ∷ fs) = grind (arith, sourced-plain (start + 1) fs)

pub schema_of-plain : (start : ℕ) (xs : List ListItem)
    → unwrap_or (schema_of start (folding_order (plain_list xs)) (plain_list xs)) no_schema
    ≡ plain_node (unwrap_or (schema_of start (folding_order xs) xs) no_schema)
schema_of-plain start xs =
    (λ i. unwrap_or (option_map (λ s. schema_from s ((origins.Definition, s)
    ∷ (ap (schema_sourced start) (folding_order-plain xs) ∙ sourced-plain start (folding_order xs)) i))
    (first_schema-unplaced true xs i)) no_schema) ∙ by (first_schema xs)
  where
    by : (o : Option SchemaPart)
        → unwrap_or (option_map (λ s. schema_from s ((origins.Definition, s)
        ∷ map plain_sourced (schema_sourced start (folding_order xs)))) (option_map plain_schema_part o))
        no_schema ≡ plain_node (unwrap_or
        (option_map (λ s. schema_from s (schema_parts start (folding_order xs) s)) o) no_schema)
    by None = refl
    by (Some s) = from-plain s (schema_parts start (folding_order xs) s)

-- ---- written out

-- the roots that are there, and all components
roots-plain : (s : SchemaDefinition) → named_roots (plain_definition s) ≡ map plain_root (named_roots s)
roots-plain s = grind arith

components-plain : (s : SchemaDefinition)
    → schema_components (plain_definition s) ≡ map plain_part_of (schema_components s)
components-plain s = simp (map-append, map-map, roots-plain)

own-plain : (s : SchemaDefinition) → has_own_root (plain_definition s) ≡ has_own_root s
own-plain s = grind arith

-- with types of which those of the default names are alike
module _ (us ts : List (NameView × ExtendedType)) (objects : (op : OperationType)
    → is_some_object (lookup (same_text (default_name op)) us)
    ≡ is_some_object (lookup (same_text (default_name op)) ts)) where
  implied-plain : (s : SchemaDefinition) (op : OperationType)
      → has_implied_root us (plain_definition s) op ≡ has_implied_root ts s op
  implied-plain s op = grind (arith, objects op)

  -- it is written where the definition is
  written-plain : (s : SchemaDefinition) → is_written us (plain_definition s) ≡ is_written ts s
  written-plain s = λ i. own-plain s i && not (
      description s.description i
      && (length-map s.directives.0 plain_component i == 0)
      && ((ap (λ cs. length (identities (origins_in cs))) (components-plain s)
      ∙ ap length (identities-plain (schema_components s))
      ∙ length-map _ plain_id) i == 0)
      && list_all (λ op. implied-plain s op i) operation_types)
    where
      description : (o : Option NameView) → is_none (option_map bare_name o) ≡ is_none o
      description o = grind arith

  -- so it is written out plain
  pub definition-plain : (n : NodeView SchemaDefinition)
      → map nowhere (write_schema_definition (plain_definition n.value) (mark n.location) us)
      ≡ map bare_definition (write_schema_definition n.value n.location ts)
  definition-plain n = grind (
    arith,
    written-plain n.value,
    components-plain n.value,
    by_origin-plain (schema_components n.value),
    by (is_written ts n.value) (by_origin (schema_components n.value)),
  )
    where
      by : (b : Bool) (ps : PartsByOrigin)
          → map nowhere (written_schema b (option_map bare_name n.value.description) (plain_by_origin ps)
          (mark n.location)) ≡ map bare_definition (written_schema b n.value.description ps n.location)
      by b ps =
          let all = extensions-plain schema_extension schema_extension (λ qs at other. refl) ps.extensions in
          grind (arith, all)
