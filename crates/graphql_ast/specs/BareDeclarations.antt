-- Declarations without their locations: GraphQL specification of October 2021, sections 2.2, 3.3 and 3.5 to
-- 3.10.
use Rattle.std.specs.Prelude.{None, map, option_map}
use Rattle.graphql_nodes.specs.Comparing.{bare_name, bare_node}
use Rattle.graphql_ast.specs.Bare.{bare_directive}
use Rattle.graphql_ast.specs.BareDocuments.{bare_operation_definition, bare_fragment_definition}
use Rattle.graphql_ast.specs.BareTypeSystem.{bare_field_definition, bare_enum_value_definition}
use Rattle.graphql_ast.specs.BareTypeSystem.{bare_input_value_definition, bare_root_operation}
use Rattle.graphql_ast.specs.BareTypeSystem.{bare_directive_definition}
use Rattle.graphql_ast.specs.Declarations.{Declaration, OfType, OfSchema, OfDirective, OfOperation}
use Rattle.graphql_ast.specs.Declarations.{OfFragment}
use Rattle.graphql_ast.specs.Parts.{Sort, Directives, Names, Fields, Values, InputFields, Roots, Item, listed}
use Rattle.graphql_ast.specs.Parts.{with_lists}
use Rattle.graphql_ast.specs.declared.parts.Parts.{Parts}

-- one of this sort without locations
abbrev pub bare_item : (s : Sort) → Item s → Item s
bare_item Directives = bare_node bare_directive
bare_item Names = bare_name
bare_item Fields = bare_node bare_field_definition
bare_item Values = bare_node bare_enum_value_definition
bare_item InputFields = bare_node bare_input_value_definition
bare_item Roots = bare_node bare_root_operation

-- parts without locations
abbrev pub bare_parts : Parts → Parts
bare_parts parts = with_lists (λ s. map (bare_item s) (listed parts s))

-- what a definition says, without locations
abbrev pub bare_declaration : Declaration → Declaration
bare_declaration (OfType t) = OfType (record t {
  name = bare_name t.name;
  description = option_map bare_name t.description;
  location = None;
  parts = bare_parts t.parts;
})
bare_declaration (OfSchema s) = OfSchema (record s {
  description = option_map bare_name s.description;
  location = None;
  parts = bare_parts s.parts;
})
bare_declaration (OfDirective n) = OfDirective (bare_node bare_directive_definition n)
bare_declaration (OfOperation n) = OfOperation (bare_node bare_operation_definition n)
bare_declaration (OfFragment n) = OfFragment (bare_node bare_fragment_definition n)
