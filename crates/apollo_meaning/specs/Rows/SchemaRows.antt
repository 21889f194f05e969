-- Lists with definitions and extensions of the schema, with what they mean, computed. GraphQL specification
-- of October 2021, sections 3.3.1 and 3.3.2.
--
-- **Example `schema_extensions_that_wait`.**
--
--     ext-schema               line 1
--     root query Q             line 2
--     ext-schema               line 3
--     root subscription S      line 4
--     schema                   line 5
--     root mutation M          line 6
--     root query A             line 7
--
-- With the first number 0 there are three roots. Query `A` and mutation `M` are of the definition.
-- Subscription `S` is of the extension of line 3, which has the number 1. `Q` is dropped: its extension was
-- there first, but the definition's roots are taken first. The fault is `DuplicateRootOperation` at line 2,
-- kept: line 7. The law of the same name computes it.
--
-- **Example `extensions_alone`.**
--
--     ext-schema               line 1
--     @ d                      line 2
--     root query A             line 3
--     ext-schema               line 4
--     root query B             line 5
--     ext interface B          line 6
--     field x Int              line 7
--     ext object A             line 8
--     field y Int              line 9
--
-- With adoption the types are `B` and `A`. The extensions are folded in the order of the lines 6, 8, 1, 4.
-- The schema definition has no location, the directive `d` and the query root `A`. The directive and the root
-- are both of the extension of line 1 with the number 2. The second query root, at line 5, is the only fault.
-- Without adoption there is neither of the types and no schema definition. Then each extension is a fault, in
-- the order of the lines 6, 8, 1, 4. The laws `extensions_alone_adopted` and `extensions_alone_orphaned`
-- compute this.
--
-- **Example `query_type_alone`.** The object type `Query` alone is the query root of an implied
-- definition: the law `query_type_alone`.
use Rattle.std.specs.Prelude.{ℕ, List, [], ◌∷◌, None, Option, Some, codes}
use Rattle.graphql_nodes.specs.declared.operation_type.OperationType.{OperationType}
use Rattle.graphql_nodes.specs.declared.operation_type.OperationType.TheVariants.{Query, Mutation}
use Rattle.graphql_nodes.specs.declared.operation_type.OperationType.TheVariants.{Subscription}
use Rattle.graphql_nodes.specs.NodeView.{NodeView}
use Rattle.graphql_ast.specs.declared.definition.Definition.{Definition}
use Rattle.graphql_ast.specs.declared.directive.Directive.{Directive}
use Rattle.apollo_component.specs.Extensions.{extension_id}
use Rattle.apollo_component.specs.declared.component.ComponentName.{ComponentName}
use Rattle.apollo_types.specs.declared.schema_definition.SchemaDefinition.{SchemaDefinition}
use Rattle.apollo_meaning.specs.BuiltInNodes.{scalar}
use Rattle.apollo_meaning.specs.Items.ListItems.{ListItem, Defined, SchemaDefined, Other, Extended}
use Rattle.apollo_meaning.specs.Items.ListItems.{SchemaExtended}
use Rattle.apollo_meaning.specs.Items.Parts.{key_of, Root}
use Rattle.apollo_meaning.specs.Faults.Collisions.{Fault}
use Rattle.apollo_meaning.specs.Rows.TypeRows.{line, name_on_line, field_on_line, definition_on_line}
use Rattle.apollo_meaning.specs.Rows.TypeRows.{extension_on_line}
use Rattle.apollo_component.specs.declared.extension.ComponentOrigin.TheVariants as origins
use Rattle.apollo_meaning.specs.declared.build_error.BuildError.TheVariants as errors
use Rattle.graphql_ast.specs.declared.definition.Definition.TheVariants as ast

-- a root that stands on a line: the operation type and its type's name
abbrev pub root_on_line : OperationType → List ℕ → ℕ → Root
root_on_line op text n = record { value = (op, name_on_line text n); location = line n }

-- an applied directive that stands on a line, without arguments
abbrev pub directive_on_line : List ℕ → ℕ → NodeView Directive
directive_on_line text n =
    record { value = record { name = name_on_line text n; arguments = [] }; location = line n }

-- a schema definition that stands on a line, with these roots
abbrev pub schema_on_line : ℕ → List Root → Definition
schema_on_line n roots = ast.SchemaDefinition (record {
  value = record { description = None; directives = record { 0 = [] }; root_operations = roots };
  location = line n;
})

-- a schema extension that stands on a line, with these directives and roots
abbrev pub schema_extension_on_line : ℕ → List (NodeView Directive) → List Root → Definition
schema_extension_on_line n directives roots = ast.SchemaExtension (record {
  value = record { directives = record { 0 = directives }; root_operations = roots };
  location = line n;
})

-- the name of a type that is defined or extended
abbrev pub type_name_of : ListItem → Option (List ℕ)
type_name_of (Defined p) = Some (key_of p)
type_name_of (Extended p) = Some (key_of p)
type_name_of (SchemaDefined s) = None
type_name_of (SchemaExtended s) = None
type_name_of (Other d) = None

-- the root of a name that the schema definition has on a line
abbrev pub own_root : List ℕ → ℕ → Option ComponentName
own_root text n = Some (record { origin = origins.Definition; name = name_on_line text n })

-- the root that the schema extension with a number and a line names on a line of its own
abbrev pub extension_root : ℕ → ℕ → List ℕ → ℕ → Option ComponentName
extension_root number from text n =
    Some (record { origin = origins.Extension (extension_id number (line from)); name = name_on_line text n })

-- extensions alone: of the schema, twice, of an interface and of an object type
abbrev pub extensions_alone : List Definition
extensions_alone =
    schema_extension_on_line 1 (directive_on_line (codes "d") 2 ∷ []) (root_on_line Query (codes "A") 3 ∷ [])
    ∷ schema_extension_on_line 4 [] (root_on_line Query (codes "B") 5 ∷ [])
    ∷ ast.InterfaceTypeExtension (record {
      value = record {
        name = name_on_line (codes "B") 6;
        implements_interfaces = [];
        directives = record { 0 = [] };
        fields = field_on_line (codes "x") 7 ∷ [];
      };
      location = line 6;
    })
    ∷ extension_on_line 8 (name_on_line (codes "A") 8) [] (field_on_line (codes "y") 9 ∷ [])
    ∷ []

-- the schema definition where they are adopted. It is at no location, and all of it comes of its extensions,
-- which are folded after those of types
abbrev pub adopted_schema : NodeView SchemaDefinition
adopted_schema = record {
  value = record {
    description = None;
    directives =
        record {
          0 = record {
            origin = origins.Extension (extension_id 2 (line 1));
            node = directive_on_line (codes "d") 2;
          } ∷ [];
        };
    query = extension_root 2 1 (codes "A") 3;
    mutation = None;
    subscription = None;
  };
  location = None;
}

-- the fault of these extensions where they are adopted: a second root for queries
abbrev pub adopted_faults : List Fault
adopted_faults = (line 5, errors.DuplicateRootOperation (line 3) (codes "query")) ∷ []

-- the faults of these extensions where they are not adopted: none has a definition
abbrev pub orphan_faults : List Fault
orphan_faults =
    (line 6, errors.OrphanTypeExtension (name_on_line (codes "B") 6))
    ∷ (line 8, errors.OrphanTypeExtension (name_on_line (codes "A") 8))
    ∷ (line 1, errors.OrphanSchemaExtension)
    ∷ (line 4, errors.OrphanSchemaExtension)
    ∷ []

-- an object type with the default name of the query root, and no schema definition
abbrev pub query_type_alone : List Definition
query_type_alone = definition_on_line 1 (codes "Query") [] [] ∷ []

-- the schema definition that it implies
abbrev pub implied_query : NodeView SchemaDefinition
implied_query = record {
  value = record {
    description = None;
    directives = record { 0 = [] };
    query = Some (record {
      origin = origins.Definition;
      name = record { text = codes "Query"; location = None };
    });
    mutation = None;
    subscription = None;
  };
  location = None;
}

-- extensions of the schema that wait for its definition, which names a root that the first of them names too
abbrev pub schema_extensions_that_wait : List Definition
schema_extensions_that_wait =
    schema_extension_on_line 1 [] (root_on_line Query (codes "Q") 2 ∷ [])
    ∷ schema_extension_on_line 3 [] (root_on_line Subscription (codes "S") 4 ∷ [])
    ∷ schema_on_line 5 (root_on_line Mutation (codes "M") 6 ∷ root_on_line Query (codes "A") 7 ∷ [])
    ∷ []

-- the schema definition with both of them
abbrev pub waited_for_schema : NodeView SchemaDefinition
waited_for_schema = record {
  value = record {
    description = None;
    directives = record { 0 = [] };
    query = own_root (codes "A") 7;
    mutation = own_root (codes "M") 6;
    subscription = extension_root 1 3 (codes "S") 4;
  };
  location = line 5;
}

-- the fault of the root that is dropped
abbrev pub dropped_root_fault : List Fault
dropped_root_fault = (line 2, errors.DuplicateRootOperation (line 7) (codes "query")) ∷ []

-- a built-in scalar type
abbrev pub built_in_int : List Definition
built_in_int = scalar (codes "Int") ∷ []

-- a further definition of it
abbrev pub int_again : List Definition
int_again = ast.ScalarTypeDefinition
    (record {
      value = record {
        description = None;
        name = name_on_line (codes "Int") 1;
        directives = record { 0 = [] };
      };
      location = line 1;
    }) ∷ []

-- the fault of that further definition
abbrev pub redefinition_fault : List Fault
redefinition_fault = (line 1, errors.BuiltInScalarTypeRedefinition) ∷ []
