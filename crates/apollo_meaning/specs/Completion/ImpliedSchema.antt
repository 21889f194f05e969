-- The definition of the schema that is implied where none stands: GraphQL specification of October 2021,
-- section 3.3.1.
--
-- **Implicit roots.** There may be one for query, mutation and subscription, in this order. It is the root of
-- the default name (`Query`, `Mutation`, `Subscription`), if this name means an object type. An adopted type
-- counts. Such a root has no location.
--
-- **Implied schema definition.** None, if the list has a schema definition. Else it has no location, no
-- description and no directives, and
--
-- - without adoption it is there only if there is an implicit root, and has the implicit roots;
-- - with adoption it is there always. If an extension of the schema names a root it has none of its own,
--   and else it has the implicit roots.
--
-- So the extensions of the schema are folded in after the roots of the implied definition. Where none is
-- implied they are left without a definition.
use Rattle.std.specs.Prelude.{ℕ, Bool, false, List, [], ◌∷◌, ◌++◌, None, if◌then◌else◌}
use Rattle.std.specs.List.{flat_map}
use Rattle.std.specs.Option.{option_map_or}
use Rattle.graphql_nodes.specs.OperationTexts.{default_type_text}
use Rattle.graphql_nodes.specs.declared.operation_type.OperationType.{OperationType}
use Rattle.graphql_nodes.specs.declared.operation_type.OperationType.TheVariants.{Query, Mutation}
use Rattle.graphql_nodes.specs.declared.operation_type.OperationType.TheVariants.{Subscription}
use Rattle.graphql_ast.specs.Parts.{no_parts}
use Rattle.apollo_types.specs.SchemaDefinitionWriteOut.{default_name}
use Rattle.apollo_meaning.specs.Items.Parts.{SchemaPart, kind_of, same_kind, Root, roots_in}
use Rattle.apollo_meaning.specs.Items.ListItems.{ListItem, SchemaDefined}
use Rattle.apollo_meaning.specs.Items.Named.{first, first_schema, schema_extensions}
use Rattle.apollo_meaning.specs.Completion.Adoption.{with_adopted}
use Rattle.graphql_nodes.specs.declared.type_kind.TypeKind.TheVariants as kinds

-- whether the type of a name is an object type
abbrev pub is_object_name : List ListItem → List ℕ → Bool
is_object_name xs n = option_map_or (λ p. same_kind kinds.Object (kind_of p)) (first xs n) false

-- a root with the operation's default name
abbrev pub default_root : OperationType → Root
default_root op = record { value = (op, default_name op); location = None }

-- the root that stands where no schema definition names one: the object type with the operation's default
-- name
abbrev pub implicit_root : List ListItem → OperationType → List Root
implicit_root xs op = if is_object_name xs (default_type_text op) then default_root op ∷ [] else []

-- the implicit roots: of query, of mutation and of subscription, in this order
abbrev pub implicit_roots : List ListItem → List Root
implicit_roots xs = flat_map (implicit_root xs) (Query ∷ Mutation ∷ Subscription ∷ [])

-- a schema definition of roots alone
abbrev pub schema_of_roots : List Root → SchemaPart
schema_of_roots roots = record {
  location = None;
  description = None;
  parts = record no_parts { roots = roots };
}

-- the implied definition with adoption: it is always there, and has the implicit roots only if no extension
-- of the schema names a root
abbrev pub adopting_schema : List Root → List Root → List ListItem
adopting_schema [] implicit = SchemaDefined (schema_of_roots implicit) ∷ []
adopting_schema (r ∷ rs) implicit = SchemaDefined (schema_of_roots []) ∷ []

-- the implied definition without adoption: it is there only if there is an implicit root
abbrev pub rooted_schema : List Root → List ListItem
rooted_schema [] = []
rooted_schema (r ∷ rs) = SchemaDefined (schema_of_roots (r ∷ rs)) ∷ []

-- the implied definition, with adoption or without, from the roots that extensions name and implicit ones
abbrev pub schema_for : Bool → List Root → List Root → List ListItem
schema_for adopts named implicit = if adopts then adopting_schema named implicit else rooted_schema implicit

-- the schema definition that is implied where none stands
abbrev pub implied_schema : Bool → List ListItem → List ListItem
implied_schema adopts xs = option_map_or (λ _. []) (first_schema xs)
    (schema_for adopts (roots_in (schema_extensions xs)) (implicit_roots xs))

-- the list with all that it is completed with
abbrev pub completed : Bool → List ListItem → List ListItem
completed adopts xs = with_adopted adopts xs ++ implied_schema adopts (with_adopted adopts xs)
