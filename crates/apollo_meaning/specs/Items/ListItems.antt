-- What a list of definitions says of types and of the schema: GraphQL specification of October 2021, sections
-- 3, 3.3 and 3.4.
--
-- **The list.** The built-in definitions, and after them the definitions of all documents, in the order
-- in which these were added. Where one document ends and the next begins makes no difference. Each
-- definition is in the list with the setting under which it was added (`Added`): whether further
-- definitions of built-in types were ignored then. The built-in ones are added without it.
--
-- **Item.** Each definition of the list is one item. A type is defined (`Defined`) or extended (`Extended`).
-- Or the schema is defined (`SchemaDefined`) or extended (`SchemaExtended`). Or something else stands there
-- (`Other`): a directive definition, an operation, a fragment. Each has its place; every definition counts.
use Rattle.std.specs.Prelude.{Bool, List, [], None, map, Option, Some, ℕ, ◌∷◌, if◌then◌else◌}
use Rattle.std.specs.List.{filter_map}
use Rattle.std.specs.Option.{option_map_or}
use Rattle.graphql_nodes.specs.SameText.{by_text}
use Rattle.graphql_nodes.specs.Tables.{lookup}
use Rattle.graphql_nodes.specs.NameView.{NameView}
use Rattle.graphql_nodes.specs.NodeView.{NodeView}
use Rattle.graphql_ast.specs.Declarations.{Declaration, declaration_of}
use Rattle.graphql_ast.specs.Declarations as declares
use Rattle.graphql_ast.specs.declared.definition.Definition.{Definition}
use Rattle.graphql_ast.specs.declared.definition.Definition.TheVariants as ast
use Rattle.graphql_ast.specs.declared.type_system.SchemaDefinition.{SchemaDefinition}
use Rattle.apollo_meaning.specs.Items.Parts.{TypePart, SchemaPart, type_part, schema_part}
use Rattle.apollo_meaning.specs.Items.Parts.{schema_definition_part}

-- one entry of the list: a type or the schema is defined, or extended, or something else stands there
pub data ListItem : Type 0 where
  -- the definition of a type
  Defined : TypePart → ListItem
  -- the extension of a type
  Extended : TypePart → ListItem
  -- the definition of the schema
  SchemaDefined : SchemaPart → ListItem
  -- the extension of the schema
  SchemaExtended : SchemaPart → ListItem
  -- a directive definition, an operation or a fragment
  Other : Definition → ListItem

-- what a declaration says of types and of the schema
abbrev pub item_from : Declaration → ListItem
item_from (declares.OfType t) = if t.is_extension then Extended (type_part t) else Defined (type_part t)
item_from (declares.OfSchema s) =
    if s.is_extension then SchemaExtended (schema_part s) else SchemaDefined (schema_part s)
item_from (declares.OfDirective n) = Other (ast.DirectiveDefinition n)
item_from (declares.OfOperation n) = Other (ast.OperationDefinition n)
item_from (declares.OfFragment n) = Other (ast.FragmentDefinition n)

-- what a definition of a document says of types and of the schema
abbrev pub item_of : Definition → ListItem
item_of d = item_from (declaration_of d)

-- what a list of definitions says of types and of the schema, in order
abbrev pub items_of : List Definition → List ListItem
items_of xs = map item_of xs

-- what is held under a name: nothing where there is no list
abbrev pub items_held : Option (List Definition) → List ListItem
items_held None = []
items_held (Some xs) = items_of xs

-- the definition of a type, if the item is one
abbrev pub defined_part : ListItem → Option TypePart
defined_part (Defined p) = Some p
defined_part _ = None

-- the extension of a type, if the item is one
abbrev pub extended_part : ListItem → Option TypePart
extended_part (Extended p) = Some p
extended_part _ = None

-- the definition of the schema, if the item is one
abbrev pub defined_schema : ListItem → Option SchemaPart
defined_schema (SchemaDefined s) = Some s
defined_schema _ = None

-- the extension of the schema, if the item is one
abbrev pub extended_schema : ListItem → Option SchemaPart
extended_schema (SchemaExtended s) = Some s
extended_schema _ = None

-- an extension that is folded in: of a type, or of the schema
pub data Folding : Type 0 where
  OfType : TypePart → Folding
  OfSchema : SchemaPart → Folding

-- an item as it is added: a definition of a type may be ignorable
abbrev pub ignorable_if : Bool → ListItem → ListItem
ignorable_if b (Defined p) = Defined (record p { ignorable = b })
ignorable_if b x = x

-- a definition, and whether redefinitions of built-in types were ignored when it was added
abbrev pub Added : Type 0
Added = Bool × Definition

-- definitions that were all added with redefinitions of built-in types ignored, or all without
abbrev pub added : Bool → List Definition → List Added
added ignores ds = map (λ d. (ignores, d)) ds

-- what a definition that was added says of types and of the schema
abbrev pub added_item : Added → ListItem
added_item a = ignorable_if a.0 (item_of a.1)

-- what a list that was added says of types and of the schema, in order
abbrev pub added_items : List Added → List ListItem
added_items xs = map added_item xs

-- the extensions of types among definitions
abbrev pub extended_parts : List Definition → List TypePart
extended_parts xs = filter_map extended_part (items_of xs)

-- what is held under the name of this text
abbrev pub held_under : List ℕ → List (NameView × List Definition) → List ListItem
held_under n waiting = items_held (lookup (by_text n) waiting)

-- a definition of the schema, if there is one
abbrev pub schema_item : Option (NodeView SchemaDefinition) → List ListItem
schema_item definition =
    option_map_or (λ node. SchemaDefined (schema_definition_part node) ∷ []) definition []
