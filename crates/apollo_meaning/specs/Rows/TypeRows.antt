-- Lists of definitions with what they mean, computed. GraphQL specification of October 2021, sections 3.4.3
-- and 3.6.
--
-- **Example `extensions_that_wait`.** With the first number 0, and places counted from the first line
-- (the built-in definitions have no extensions, so they change no number). The law of the same name
-- computes the folding order:
--
--     ext object A        place 0
--     field x Int
--     ext object B        place 1
--     field y Int
--     def object B        place 2
--     ext object B        place 3
--     field z Int
--     def object A        place 4
--     ext object C        place 5
--     field u Int
--     ext object A        place 6
--     field w Int
--
-- | extension | moment | number |
-- |---|---|---|
-- | of B, place 1 | 2 (its definition) | 0 |
-- | of B, place 3 | 3 (itself) | 1 |
-- | of A, place 0 | 4 (its definition) | 2 |
-- | of A, place 6 | 6 (itself) | 3 |
-- | of C, place 5 | not folded | none |
--
-- **Example `extensions_around`.**
--
--     ext object Q        line 1
--     field b Int         line 2
--     def object Q        line 3
--     field a Int         line 4
--     ext object Q        line 5
--     implements N        line 6
--     field a Int         line 7
--
-- The extensions have the numbers 0 and 1. The type has the interface `N` (1) and the fields `a` (definition)
-- and `b` (0). The field `a` of line 7 is a later one of a kept name. Identities by first appearance:
-- interfaces come first, so 1, and then 0. The write-out, which the law `extensions_around` computes, is
-- `written_around`:
--
--     def object Q
--     field a Int
--     ext object Q
--     implements N
--     ext object Q
--     field b Int
use Rattle.std.specs.Prelude.{ℕ, List, [], ◌∷◌, None, Option, Some, codes}
use Rattle.graphql_nodes.specs.NameView.{NameView}
use Rattle.graphql_nodes.specs.declared.source.SourceSpan.{SourceSpan}
use Rattle.graphql_nodes.specs.NodeView.{NodeView}
use Rattle.graphql_ast.specs.declared.definition.Definition.{Definition}
use Rattle.graphql_ast.specs.declared.type_system.FieldDefinition.{FieldDefinition}
use Rattle.graphql_ast.specs.declared.definition.Definition.TheVariants.{ScalarTypeExtension}
use Rattle.graphql_ast.specs.declared.definition.Definition.TheVariants.{ObjectTypeDefinition}
use Rattle.graphql_ast.specs.declared.definition.Definition.TheVariants.{ObjectTypeExtension}
use Rattle.graphql_ast.specs.declared.type_reference.Type.{Named}
use Rattle.apollo_meaning.specs.Items.ListItems.{Folding, OfType, OfSchema}

-- the location of a line
abbrev pub line : ℕ → Option SourceSpan
line n = Some (record { file = record { 0 = 1 }; start = n; end = n })

-- where an extension that is folded stands
abbrev pub folding_location : Folding → Option SourceSpan
folding_location (OfType p) = p.location
folding_location (OfSchema s) = s.location

-- a name that stands on a line
abbrev pub name_on_line : List ℕ → ℕ → NameView
name_on_line text n = record { text = text; location = line n }

-- a field of type `Int`
abbrev pub field_on_line : List ℕ → ℕ → NodeView FieldDefinition
field_on_line text n = record {
  value = record {
    description = None;
    name = name_on_line text n;
    arguments = [];
    ty = Named (name_on_line (codes "Int") n);
    directives = record { 0 = [] };
  };
  location = line n;
}

-- an object type definition that stands on a line, with these interfaces and fields
abbrev pub definition_on_line : ℕ → List ℕ → List NameView → List (NodeView FieldDefinition) → Definition
definition_on_line n text interfaces fields = ObjectTypeDefinition (record {
  value = record {
    description = None;
    name = name_on_line text n;
    implements_interfaces = interfaces;
    directives = record { 0 = [] };
    fields = fields;
  };
  location = line n;
})

-- an object type extension that stands on a line, with these interfaces and fields
abbrev pub extension_on_line : ℕ → NameView → List NameView → List (NodeView FieldDefinition) → Definition
extension_on_line n name interfaces fields = ObjectTypeExtension (record {
  value = record {
    name = name;
    implements_interfaces = interfaces;
    directives = record { 0 = [] };
    fields = fields;
  };
  location = line n;
})

-- an extension before its definition, and one after it, which repeats a field
abbrev pub extensions_around : List Definition
extensions_around =
    extension_on_line 1 (name_on_line (codes "Q") 1) [] (field_on_line (codes "b") 2 ∷ [])
    ∷ definition_on_line 3 (codes "Q") [] (field_on_line (codes "a") 4 ∷ [])
    ∷ extension_on_line 5 (name_on_line (codes "Q") 5) (name_on_line (codes "N") 6 ∷ [])
    (field_on_line (codes "a") 7 ∷ [])
    ∷ []

-- how they are written again. The repeated field is dropped, interfaces come before fields, and each
-- extension stands where it stood. The name is the type's, which its definition wrote
abbrev pub written_around : List Definition
written_around =
    definition_on_line 3 (codes "Q") [] (field_on_line (codes "a") 4 ∷ [])
    ∷ extension_on_line 5 (name_on_line (codes "Q") 3) (name_on_line (codes "N") 6 ∷ []) []
    ∷ extension_on_line 1 (name_on_line (codes "Q") 3) [] (field_on_line (codes "b") 2 ∷ [])
    ∷ []

-- extensions of two names, some of which wait for their definitions, and of a name that is never defined
abbrev pub extensions_that_wait : List Definition
extensions_that_wait =
    extension_on_line 1 (name_on_line (codes "A") 1) [] (field_on_line (codes "x") 2 ∷ [])
    ∷ extension_on_line 3 (name_on_line (codes "B") 3) [] (field_on_line (codes "y") 4 ∷ [])
    ∷ definition_on_line 5 (codes "B") [] []
    ∷ extension_on_line 6 (name_on_line (codes "B") 6) [] (field_on_line (codes "z") 7 ∷ [])
    ∷ definition_on_line 8 (codes "A") [] []
    ∷ extension_on_line 9 (name_on_line (codes "C") 9) [] (field_on_line (codes "u") 10 ∷ [])
    ∷ extension_on_line 11 (name_on_line (codes "A") 11) [] (field_on_line (codes "w") 12 ∷ [])
    ∷ []

-- an extension of another kind than the definition's
abbrev pub extension_of_another_kind : List Definition
extension_of_another_kind =
    definition_on_line 1 (codes "Q") [] (field_on_line (codes "a") 2 ∷ [])
    ∷ ScalarTypeExtension
    (record {
      value = record { name = name_on_line (codes "Q") 3; directives = record { 0 = [] } };
      location = line 3;
    })
    ∷ []
