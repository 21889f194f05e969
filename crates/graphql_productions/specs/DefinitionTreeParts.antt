-- The parts of definitions and extensions: GraphQL specification of October 2021, sections 2.2, 2.3, 2.8,
-- 2.10 and 3.
use Rattle.std.specs.Prelude.{Bool, true, false, not, ◌&&◌, List, [], ◌∷◌, ◌++◌, Option, if◌then◌else◌}
use Rattle.std.specs.List.{flat_map}
use Rattle.graphql_nodes.specs.declared.operation_type.OperationType.{OperationType}
use Rattle.graphql_nodes.specs.declared.type_kind.TypeKind.{TypeKind}
use Rattle.graphql_nodes.specs.declared.type_kind.TypeKind.TheVariants as t
use Rattle.graphql_nodes.specs.NameView.{NameView}
use Rattle.graphql_nodes.specs.NodeView.{NodeView}
use Rattle.graphql_ast.specs.Declarations.{Declaration, OfType, OfSchema, OfDirective, OfOperation}
use Rattle.graphql_ast.specs.Declarations.{OfFragment, declaration_of}
use Rattle.graphql_ast.specs.Parts.{directive_list}
use Rattle.graphql_ast.specs.declared.definition.Definition.{Definition}
use Rattle.graphql_ast.specs.declared.operation.FragmentDefinition.{FragmentDefinition}
use Rattle.graphql_ast.specs.declared.operation.OperationDefinition.{OperationDefinition}
use Rattle.graphql_ast.specs.declared.operation.VariableDefinition.{VariableDefinition}
use Rattle.graphql_ast.specs.declared.parts.Parts.{Parts}
use Rattle.graphql_ast.specs.declared.type_system.EnumValueDefinition.{EnumValueDefinition}
use Rattle.graphql_ast.specs.declared.type_system.FieldDefinition.{FieldDefinition}
use Rattle.graphql_ast.specs.declared.type_system.InputValueDefinition.{InputValueDefinition}
use Rattle.graphql_productions.specs.SelectionParts.{selection_parts}
use Rattle.graphql_productions.specs.TreeParts.{Description, EnumName, FragmentName, Name, Node, TreePart}
use Rattle.graphql_productions.specs.TreeParts.{Wanted, directives_parts, name_parts, node_parts}
use Rattle.graphql_productions.specs.TreeParts.{option_parts, type_parts, value_parts, wanted_parts}
use Rattle.graphql_productions.specs.TypeSystem.{is_none}

-- the definition of a variable: section 2.10
abbrev pub variable_parts : VariableDefinition → List TreePart
variable_parts v =
    Name v.name ∷ (node_parts type_parts v.ty
    ++ (option_parts (node_parts (value_parts true)) v.default_value ++ directives_parts true v.directives))

-- an operation: section 2.3
abbrev pub operation_parts : OperationDefinition → List TreePart
operation_parts o =
    option_parts name_parts o.name
    ++ (flat_map (node_parts variable_parts) o.variables
    ++ (directives_parts false o.directives ++ wanted_parts selection_parts o.selection_set))

-- the definition of a fragment: section 2.8
abbrev pub fragment_parts : FragmentDefinition → List TreePart
fragment_parts f =
    FragmentName f.name
    ∷ (Name f.type_condition
    ∷ (directives_parts false f.directives ++ wanted_parts selection_parts f.selection_set))

-- a description, if there is one: section 3.2
abbrev pub description_parts : Option NameView → List TreePart
description_parts text = option_parts (λ t. Description t ∷ []) text

-- an argument or input field that is defined: sections 3.6.1 and 3.10
abbrev pub input_value_parts : InputValueDefinition → List TreePart
input_value_parts v =
    description_parts v.description
    ++ (Name v.name
    ∷ (node_parts type_parts v.ty
    ++ (option_parts (node_parts (value_parts true)) v.default_value
    ++ directives_parts true v.directives)))

-- arguments or input fields, in order
abbrev pub input_values_parts : List (NodeView InputValueDefinition) → List TreePart
input_values_parts values = flat_map (node_parts input_value_parts) values

-- a field that is defined: section 3.6
abbrev pub field_parts : FieldDefinition → List TreePart
field_parts f =
    description_parts f.description
    ++ (Name f.name
    ∷ (input_values_parts f.arguments ++ (type_parts f.ty ++ directives_parts true f.directives)))

-- fields, in order
abbrev pub fields_parts : List (NodeView FieldDefinition) → List TreePart
fields_parts fields = flat_map (node_parts field_parts) fields

-- an enum value that is defined: section 3.9
abbrev pub enum_value_parts : EnumValueDefinition → List TreePart
enum_value_parts v =
    description_parts v.description ++ (EnumName v.value ∷ directives_parts true v.directives)

-- enum values, in order
abbrev pub enum_values_parts : List (NodeView EnumValueDefinition) → List TreePart
enum_values_parts values = flat_map (node_parts enum_value_parts) values

-- a root of the schema: section 3.3
abbrev pub root_parts : OperationType × NameView → List TreePart
root_parts root = name_parts root.1

-- interfaces and members: sections 3.6 to 3.8
abbrev pub names_parts : List NameView → List TreePart
names_parts names = flat_map name_parts names

-- what stands behind the name of a type of this kind: sections 3.5 to 3.10
abbrev pub body_parts : TypeKind → Parts → List TreePart
body_parts t.Scalar p = directives_parts true (directive_list p)
body_parts t.Object p =
    names_parts p.names ++ (directives_parts true (directive_list p) ++ fields_parts p.fields)
body_parts t.Interface p =
    names_parts p.names ++ (directives_parts true (directive_list p) ++ fields_parts p.fields)
body_parts t.Union p = directives_parts true (directive_list p) ++ names_parts p.names
body_parts t.Enum p = directives_parts true (directive_list p) ++ enum_values_parts p.values
body_parts t.InputObject p = directives_parts true (directive_list p) ++ input_values_parts p.input_fields

-- whether it is directives at most
abbrev pub is_directives : TypeKind → Parts → Bool
is_directives t.Scalar p = true
is_directives t.Object p = is_none p.names && is_none p.fields
is_directives t.Interface p = is_none p.names && is_none p.fields
is_directives t.Union p = is_none p.names
is_directives t.Enum p = is_none p.values
is_directives t.InputObject p = is_none p.input_fields

-- what stands in front: a description, or of an extension whether it adds one part at least
abbrev pub front_parts : Bool → Option NameView → Bool → List TreePart
front_parts is_extension description adds =
    if is_extension then Wanted adds ∷ [] else description_parts description

-- the roots of the schema: its definition has one at least. Section 3.3
abbrev pub roots_parts : Bool → List (NodeView (OperationType × NameView)) → List TreePart
roots_parts is_extension roots =
    if is_extension
    then flat_map (node_parts root_parts) roots
    else wanted_parts (node_parts root_parts) roots

-- what says this: section 2.2
abbrev pub declaration_parts : Declaration → List TreePart
declaration_parts (OfOperation n) = node_parts operation_parts n
declaration_parts (OfFragment n) = node_parts fragment_parts n
declaration_parts (OfDirective n) =
    Node n.location
    ∷ (description_parts n.value.description
    ++ (Name n.value.name
    ∷ (input_values_parts n.value.arguments ++ (Wanted (not (is_none n.value.locations)) ∷ []))))
declaration_parts (OfSchema s) =
    Node s.location
    ∷ (front_parts s.is_extension s.description (not (is_none s.parts.directives && is_none s.parts.roots))
    ++ (directives_parts true (directive_list s.parts) ++ roots_parts s.is_extension s.parts.roots))
declaration_parts (OfType t) =
    Node t.location
    ∷ (front_parts t.is_extension t.description
    (not (is_none t.parts.directives && is_directives t.kind t.parts))
    ++ (Name t.name ∷ body_parts t.kind t.parts))

-- a definition or extension of any sort: section 2.2
abbrev pub definition_parts : Definition → List TreePart
definition_parts x = declaration_parts (declaration_of x)

-- a document: one definition at least, section 2.2
abbrev pub document_parts : List Definition → List TreePart
document_parts xs = wanted_parts definition_parts xs
