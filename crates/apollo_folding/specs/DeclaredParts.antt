-- What declarations that are seen say of types and of the schema: GraphQL specification of October 2021,
-- sections 3, 3.3, 3.4, and 3.5 to 3.10.
use Rattle.std.specs.Prelude.{Bool}
use Rattle.graphql_nodes.specs.declared.type_kind.TypeKind.{TypeKind}
use Rattle.graphql_ast.specs.DeclarationsSeen.{type_seen, declaration_seen}
use Rattle.graphql_ast.specs.declared.declaration_ref.DeclarationRef.{DeclarationRef}
use Rattle.graphql_ast.specs.declared.declaration_ref.TypeDeclarationRef.{TypeDeclarationRef}
use Rattle.apollo_meaning.specs.Items.Parts.{TypePart, type_part}
use Rattle.apollo_meaning.specs.Items.ListItems.{ListItem, Defined, item_from}

-- what the declaration that is seen says of types and of the schema
abbrev pub item_seen : DeclarationRef → ListItem
item_seen v = item_from (declaration_seen v)

-- what the declaration that is seen says of a type
abbrev pub part_seen : TypeDeclarationRef → TypePart
part_seen t = type_part (type_seen t)

-- what the declaration that is seen says of a type, read as one of this kind
abbrev pub part_as : TypeKind → TypeDeclarationRef → TypePart
part_as kind t = record (part_seen t) { kind = kind }

-- a definition that is passed over without a fault, if this is set, where its name's first one is built in
abbrev pub definition_seen : Bool → TypeDeclarationRef → ListItem
definition_seen ignores t = Defined (record (part_seen t) { ignorable = ignores })
