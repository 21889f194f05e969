-- Definitions and extensions of types and of the schema as what they say, whatever their kind: read from a
-- definition, and made into one. GraphQL specification of October 2021, sections 2.2, 3.3 and 3.5 to 3.10.
use Rattle.std.specs.Prelude.{Bool, true, false, Option, None, if◌then◌else◌}
use Rattle.graphql_nodes.specs.NameView.{NameView}
use Rattle.graphql_nodes.specs.NodeView.{NodeView}
use Rattle.graphql_nodes.specs.declared.source.SourceSpan.{SourceSpan}
use Rattle.graphql_nodes.specs.declared.type_kind.TypeKind.{TypeKind}
use Rattle.graphql_nodes.specs.declared.type_kind.TypeKind.TheVariants as k
use Rattle.graphql_ast.specs.Parts.{directed, directive_list, fielded, of_type, of_schema}
use Rattle.graphql_ast.specs.TypeSystem.{enum_extension_of, enum_type_of, input_object_extension_of}
use Rattle.graphql_ast.specs.TypeSystem.{input_object_type_of, interface_extension_of, interface_type_of}
use Rattle.graphql_ast.specs.TypeSystem.{object_extension_of, object_type_of, scalar_extension_of}
use Rattle.graphql_ast.specs.TypeSystem.{scalar_type_of, schema_extension_of, schema_of, union_extension_of}
use Rattle.graphql_ast.specs.TypeSystem.{union_type_of}
use Rattle.graphql_ast.specs.declared.declaration.SchemaDeclaration.{SchemaDeclaration}
use Rattle.graphql_ast.specs.declared.declaration.TypeDeclaration.{TypeDeclaration}
use Rattle.graphql_ast.specs.declared.definition.Definition.{Definition}
use Rattle.graphql_ast.specs.declared.definition.Definition.TheVariants as d
use Rattle.graphql_ast.specs.declared.operation.FragmentDefinition.{FragmentDefinition}
use Rattle.graphql_ast.specs.declared.operation.OperationDefinition.{OperationDefinition}
use Rattle.graphql_ast.specs.declared.parts.Parts.{Parts}
use Rattle.graphql_ast.specs.declared.type_system.DirectiveDefinition.{DirectiveDefinition}

-- what a definition of a document says
pub data Declaration : Type 0 where
  -- the definition or extension of a type
  OfType : TypeDeclaration → Declaration
  -- the definition or extension of the schema
  OfSchema : SchemaDeclaration → Declaration
  -- the definition of a directive
  OfDirective : NodeView DirectiveDefinition → Declaration
  -- an operation
  OfOperation : NodeView OperationDefinition → Declaration
  -- a fragment
  OfFragment : NodeView FragmentDefinition → Declaration

-- the definition of a type of this kind and name, at this location
abbrev pub defined : TypeKind → NameView → Option NameView → Option SourceSpan → Parts → Declaration
defined kind name description location parts = OfType (record {
  kind = kind;
  name = name;
  is_extension = false;
  description = description;
  location = location;
  parts = parts;
})

-- the extension of a type of this kind and name, at this location
abbrev pub extended : TypeKind → NameView → Option SourceSpan → Parts → Declaration
extended kind name location parts = OfType (record {
  kind = kind;
  name = name;
  is_extension = true;
  description = None;
  location = location;
  parts = parts;
})

-- what a definition says
abbrev pub declaration_of : Definition → Declaration
declaration_of (d.OperationDefinition n) = OfOperation n
declaration_of (d.FragmentDefinition n) = OfFragment n
declaration_of (d.DirectiveDefinition n) = OfDirective n
declaration_of (d.SchemaDefinition n) = OfSchema (record {
  is_extension = false;
  description = n.value.description;
  location = n.location;
  parts = record (directed n.value.directives) { roots = n.value.root_operations };
})
declaration_of (d.ScalarTypeDefinition n) =
    defined k.Scalar n.value.name n.value.description n.location
    (directed n.value.directives)
declaration_of (d.ObjectTypeDefinition n) =
    defined k.Object n.value.name n.value.description n.location
    (fielded n.value.implements_interfaces n.value.directives n.value.fields)
declaration_of (d.InterfaceTypeDefinition n) =
    defined k.Interface n.value.name n.value.description n.location
    (fielded n.value.implements_interfaces n.value.directives n.value.fields)
declaration_of (d.UnionTypeDefinition n) =
    defined k.Union n.value.name n.value.description n.location
    (record (directed n.value.directives) { names = n.value.members })
declaration_of (d.EnumTypeDefinition n) =
    defined k.Enum n.value.name n.value.description n.location
    (record (directed n.value.directives) { values = n.value.values })
declaration_of (d.InputObjectTypeDefinition n) =
    defined k.InputObject n.value.name n.value.description n.location
    (record (directed n.value.directives) { input_fields = n.value.fields })
declaration_of (d.SchemaExtension n) = OfSchema (record {
  is_extension = true;
  description = None;
  location = n.location;
  parts = record (directed n.value.directives) { roots = n.value.root_operations };
})
declaration_of (d.ScalarTypeExtension n) =
    extended k.Scalar n.value.name n.location
    (directed n.value.directives)
declaration_of (d.ObjectTypeExtension n) =
    extended k.Object n.value.name n.location
    (fielded n.value.implements_interfaces n.value.directives n.value.fields)
declaration_of (d.InterfaceTypeExtension n) =
    extended k.Interface n.value.name n.location
    (fielded n.value.implements_interfaces n.value.directives n.value.fields)
declaration_of (d.UnionTypeExtension n) =
    extended k.Union n.value.name n.location
    (record (directed n.value.directives) { names = n.value.members })
declaration_of (d.EnumTypeExtension n) =
    extended k.Enum n.value.name n.location
    (record (directed n.value.directives) { values = n.value.values })
declaration_of (d.InputObjectTypeExtension n) =
    extended k.InputObject n.value.name n.location
    (record (directed n.value.directives) { input_fields = n.value.fields })

-- what stands at this location, if one is given
abbrev pub placed : {A : Type 0} → Option SourceSpan → A → NodeView A
placed location value = record { value = value; location = location }

-- the definition of a type of this kind
abbrev pub type_definition : TypeKind → Option NameView → NameView → Parts → Option SourceSpan → Definition
type_definition k.Scalar description name parts location =
    d.ScalarTypeDefinition (placed location (scalar_type_of description name (directive_list parts)))
type_definition k.Object description name parts location =
    d.ObjectTypeDefinition (placed location (object_type_of description name parts.names
    (directive_list parts) parts.fields))
type_definition k.Interface description name parts location =
    d.InterfaceTypeDefinition (placed location (interface_type_of description name parts.names
    (directive_list parts) parts.fields))
type_definition k.Union description name parts location =
    d.UnionTypeDefinition (placed location (union_type_of description name (directive_list parts)
    parts.names))
type_definition k.Enum description name parts location =
    d.EnumTypeDefinition (placed location (enum_type_of description name (directive_list parts) parts.values))
type_definition k.InputObject description name parts location =
    d.InputObjectTypeDefinition (placed location (input_object_type_of description name (directive_list parts)
    parts.input_fields))

-- the extension of a type of this kind
abbrev pub type_extension : TypeKind → NameView → Parts → Option SourceSpan → Definition
type_extension k.Scalar name parts location =
    d.ScalarTypeExtension (placed location (scalar_extension_of name (directive_list parts)))
type_extension k.Object name parts location =
    d.ObjectTypeExtension (placed location (object_extension_of name parts.names (directive_list parts)
    parts.fields))
type_extension k.Interface name parts location =
    d.InterfaceTypeExtension (placed location (interface_extension_of name parts.names (directive_list parts)
    parts.fields))
type_extension k.Union name parts location =
    d.UnionTypeExtension (placed location (union_extension_of name (directive_list parts) parts.names))
type_extension k.Enum name parts location =
    d.EnumTypeExtension (placed location (enum_extension_of name (directive_list parts) parts.values))
type_extension k.InputObject name parts location =
    d.InputObjectTypeExtension (placed location (input_object_extension_of name (directive_list parts)
    parts.input_fields))

-- the definition of the schema
abbrev pub schema_definition : Option NameView → Parts → Option SourceSpan → Definition
schema_definition description parts location =
    d.SchemaDefinition (placed location (schema_of description (directive_list parts) parts.roots))

-- an extension of the schema
abbrev pub schema_extension : Parts → Option SourceSpan → Definition
schema_extension parts location =
    d.SchemaExtension (placed location (schema_extension_of (directive_list parts) parts.roots))

-- the definition or extension of a type that says this. An extension has no description
abbrev pub made_type : TypeDeclaration → Definition
made_type t =
    if t.is_extension
    then type_extension t.kind t.name t.parts t.location
    else type_definition t.kind t.description t.name t.parts t.location

-- the definition or extension of the schema that says this. An extension has no description
abbrev pub made_schema : SchemaDeclaration → Definition
made_schema s =
    if s.is_extension
    then schema_extension s.parts s.location
    else schema_definition s.description s.parts s.location

-- the definition that says this
abbrev pub made : Declaration → Definition
made (OfType t) = made_type t
made (OfSchema s) = made_schema s
made (OfDirective n) = d.DirectiveDefinition n
made (OfOperation n) = d.OperationDefinition n
made (OfFragment n) = d.FragmentDefinition n

-- this description, unless it is an extension's
abbrev pub definition_description : Bool → Option NameView → Option NameView
definition_description is_extension description = if is_extension then None else description

-- what a definition can say of this: parts that the kind has, and of an extension no description
abbrev pub sayable : Declaration → Declaration
sayable (OfType t) = OfType (record t {
  description = definition_description t.is_extension t.description;
  parts = of_type t.kind t.parts;
})
sayable (OfSchema s) = OfSchema (record s {
  description = definition_description s.is_extension s.description;
  parts = of_schema s.parts;
})
sayable (OfDirective n) = OfDirective n
sayable (OfOperation n) = OfOperation n
sayable (OfFragment n) = OfFragment n
