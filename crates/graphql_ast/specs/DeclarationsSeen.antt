-- The declarations that borrowed ones show: GraphQL specification of October 2021, sections 2.2, 3.3 and
-- 3.5 to 3.10.
use Rattle.std.specs.Option.{option_copied}
use Rattle.graphql_ast.specs.Declarations.{Declaration, OfType, OfSchema, OfDirective, OfOperation}
use Rattle.graphql_ast.specs.Declarations.{OfFragment}
use Rattle.graphql_ast.specs.PartsSeen.{parts_seen}
use Rattle.graphql_ast.specs.declared.declaration.SchemaDeclaration.{SchemaDeclaration}
use Rattle.graphql_ast.specs.declared.declaration.TypeDeclaration.{TypeDeclaration}
use Rattle.graphql_ast.specs.declared.declaration_ref.DeclarationRef.{DeclarationRef}
use Rattle.graphql_ast.specs.declared.declaration_ref.DeclarationRef.TheVariants as seen
use Rattle.graphql_ast.specs.declared.declaration_ref.SchemaDeclarationRef.{SchemaDeclarationRef}
use Rattle.graphql_ast.specs.declared.declaration_ref.TypeDeclarationRef.{TypeDeclarationRef}

-- the definition or extension of a type that is seen
abbrev pub type_seen : TypeDeclarationRef → TypeDeclaration
type_seen t = record {
  kind = t.kind;
  name = t.name.now;
  is_extension = t.is_extension;
  description = option_copied t.description;
  location = t.location;
  parts = parts_seen t.parts;
}

-- the definition or extension of the schema that is seen
abbrev pub schema_seen : SchemaDeclarationRef → SchemaDeclaration
schema_seen s = record {
  is_extension = s.is_extension;
  description = option_copied s.description;
  location = s.location;
  parts = parts_seen s.parts;
}

-- what a definition says, as it is seen
abbrev pub declaration_seen : DeclarationRef → Declaration
declaration_seen (seen.Type t) = OfType (type_seen t)
declaration_seen (seen.Schema s) = OfSchema (schema_seen s)
declaration_seen (seen.Directive n) = OfDirective n.now
declaration_seen (seen.Operation n) = OfOperation n.now
declaration_seen (seen.Fragment n) = OfFragment n.now
