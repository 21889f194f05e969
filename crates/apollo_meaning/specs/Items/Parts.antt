-- A definition or extension of a type, whatever its kind, and of the schema: GraphQL specification of October
-- 2021, sections 3.3, 3.4, and 3.5 to 3.10.
--
-- **Part.** The part of a type that one definition or extension holds. It has kind, name, location,
-- description (none for an extension), directives, and what belongs to its kind. That is interfaces and
-- fields of an object or interface type, members of a union type, and values of an enum type. It is fields of
-- an input object type, and nothing more of a scalar type. A part of the schema holds location, description
-- (none for an extension), directives and roots.
use Rattle.std.specs.Prelude.{ℕ, Bool, false, List, None, Option, true}
use Rattle.std.specs.List.{flat_map}
use Rattle.graphql_nodes.specs.declared.operation_type.OperationType.{OperationType}
use Rattle.graphql_nodes.specs.NameView.{NameView}
use Rattle.graphql_nodes.specs.declared.source.SourceSpan.{SourceSpan}
use Rattle.graphql_nodes.specs.declared.type_kind.TypeKind.{TypeKind}
use Rattle.graphql_nodes.specs.declared.type_kind.TypeKind.TheVariants.{Scalar, Object, Interface, Union}
use Rattle.graphql_nodes.specs.declared.type_kind.TypeKind.TheVariants.{Enum, InputObject}
use Rattle.graphql_nodes.specs.NodeView.{NodeView}
use Rattle.graphql_ast.specs.Parts.{directed, of_type}
use Rattle.graphql_ast.specs.declared.declaration.SchemaDeclaration.{SchemaDeclaration}
use Rattle.graphql_ast.specs.declared.declaration.TypeDeclaration.{TypeDeclaration}
use Rattle.graphql_ast.specs.declared.directive.DirectiveList.{DirectiveList}
use Rattle.graphql_ast.specs.declared.parts.Parts.{Parts}
use Rattle.graphql_ast.specs.declared.type_system.SchemaDefinition.{SchemaDefinition}
use Rattle.graphql_ast.specs.declared.type_system.SchemaExtension.{SchemaExtension}

-- whether two kinds are one
abbrev pub same_kind : TypeKind → TypeKind → Bool
same_kind Scalar Scalar = true
same_kind Object Object = true
same_kind Interface Interface = true
same_kind Union Union = true
same_kind Enum Enum = true
same_kind InputObject InputObject = true
same_kind _ _ = false

-- a root, where it stands: an operation type and the name of its type
abbrev pub Root : Type 0
Root = NodeView (OperationType × NameView)

-- a definition or extension of the schema
pub record SchemaPart : Type 0 where
  pub location : Option SourceSpan
  pub description : Option NameView
  -- what it holds
  pub parts : Parts

-- these directives and roots
abbrev pub rooted : DirectiveList → List Root → Parts
rooted directives roots = record (directed directives) { roots = roots }

-- the roots of these parts, joined
abbrev pub roots_in : List SchemaPart → List Root
roots_in = flat_map (λ s. s.parts.roots)

-- a definition or extension of a type
pub record TypePart : Type 0 where
  pub kind : TypeKind
  pub name : NameView
  pub location : Option SourceSpan
  pub description : Option NameView
  -- what it holds
  pub parts : Parts
  -- a definition that is passed over without a fault where its name's first one is built in
  pub ignorable : Bool

-- what a part holds, of what its kind has
abbrev pub held_parts : TypePart → Parts
held_parts p = of_type p.kind p.parts

-- what a declaration says of a type
abbrev pub type_part : TypeDeclaration → TypePart
type_part t = record {
  kind = t.kind;
  name = t.name;
  location = t.location;
  description = t.description;
  parts = t.parts;
  ignorable = false;
}

-- what a declaration says of the schema
abbrev pub schema_part : SchemaDeclaration → SchemaPart
schema_part s = record { location = s.location; description = s.description; parts = s.parts }

-- what a schema definition says of the schema: description, directives, roots
abbrev pub schema_definition_part : NodeView SchemaDefinition → SchemaPart
schema_definition_part n = record {
  location = n.location;
  description = n.value.description;
  parts = rooted n.value.directives n.value.root_operations;
}

-- what a schema extension says of the schema: directives, roots
abbrev pub schema_extension_part : NodeView SchemaExtension → SchemaPart
schema_extension_part n = record {
  location = n.location;
  description = None;
  parts = rooted n.value.directives n.value.root_operations;
}

-- the kind of type that a part defines or extends
abbrev pub kind_of : TypePart → TypeKind
kind_of p = p.kind

-- the text of the name
abbrev pub key_of : TypePart → List ℕ
key_of p = p.name.text
