-- Equality of schemas.
use Rattle.apollo_meaning.proofs.Prelude.{refl, NodeView, Compares, DirectiveDefinition}
use Rattle.graphql_nodes.proofs.Comparisons.{of_part, and_then, made}
use Rattle.graphql_nodes.proofs.TableEquality.{tables_of_names}
use Rattle.graphql_ast.proofs.TypeSystemEquality.{directive_definitions}
use Rattle.apollo_types.proofs.TypeEquality.{extended_types, schema_definitions}
use Rattle.apollo_schema.specs.EqualSchemas.{bare_schema}
use Rattle.apollo_schema.specs.declared.schema.Schema.{Schema}
use Rattle.apollo_schema.specs.contracts.schema.SchemaPartialEq.TheImpl as schema

pub schemas : Compares schema.ghosts.eq bare_schema
schemas = made (λ p. record { definition = p.0; directive_definitions = p.1.0; types = p.1.1 })
    (λ s. (s.definition, (s.directive_definitions, s.types))) (λ _. refl)
    (and_then (of_part (λ (s : Schema). s.schema_definition.value) schema_definitions)
    (and_then (of_part (λ (s : Schema). s.directive_definitions)
    (tables_of_names (of_part (λ (d : NodeView DirectiveDefinition). d.value) directive_definitions)))
    (of_part (λ (s : Schema). s.types) (tables_of_names extended_types))))
