-- Schema coordinates as texts: the grammar of the Schema Coordinates RFC of GraphQL, `T`, `T.a`, `T.f(a:)`,
-- `@d` and `@d(a:)`. Each part is a Name of the GraphQL specification of October 2021, section 2.1.9.
--
-- **Coordinate text.** `T`, `T.a`, `T.f(a:)`, `@d` or `@d(a:)`, each letter a *name*, with nothing
-- before, between or after. The **text** of a coordinate (`text`) has the texts of its names there. No
-- text is that of two forms, since a name has no `.`, `(`, `:` or `@`.
use Rattle.std.specs.Prelude.{◌≡◌, ◌⊎◌, ◌++◌, ℕ, List, [], ◌∷◌, None, codes}
use Rattle.std.specs.List.{AllByRecursion}
use Rattle.graphql_nodes.specs.Comparing.{bare_name}
use Rattle.graphql_nodes.specs.NameSyntax.{IsName}
use Rattle.graphql_nodes.specs.NameView.{NameView}
use Rattle.apollo_coordinate.specs.declared.type_coordinate.TypeCoordinate.{TypeCoordinate}
use Rattle.apollo_coordinate.specs.declared.type_attribute_coordinate.TypeAttributeCoordinate.{TypeAttributeCoordinate}
use Rattle.apollo_coordinate.specs.declared.field_argument_coordinate.FieldArgumentCoordinate.{FieldArgumentCoordinate}
use Rattle.apollo_coordinate.specs.declared.directive_coordinate.DirectiveCoordinate.{DirectiveCoordinate}
use Rattle.apollo_coordinate.specs.declared.directive_argument_coordinate.DirectiveArgumentCoordinate.{DirectiveArgumentCoordinate}
use Rattle.apollo_coordinate.specs.declared.schema_coordinate.SchemaCoordinate.{SchemaCoordinate}
use Rattle.apollo_coordinate.specs.declared.schema_coordinate.SchemaCoordinate.TheVariants.{Ty, TypeAttribute}
use Rattle.apollo_coordinate.specs.declared.schema_coordinate.SchemaCoordinate.TheVariants.{FieldArgument}
use Rattle.apollo_coordinate.specs.declared.schema_coordinate.SchemaCoordinate.TheVariants.{Directive}
use Rattle.apollo_coordinate.specs.declared.schema_coordinate.SchemaCoordinate.TheVariants.{DirectiveArgument}

-- `T`
abbrev pub IsTypeText : List ℕ → Type 0
IsTypeText t = IsName t

-- `T.a`
abbrev pub IsAttributeText : List ℕ → Type 0
IsAttributeText t = (ty a : List ℕ) × (t ≡ ty ++ (codes "." ++ a)) × IsName ty × IsName a

-- a head of this form with an argument
abbrev pub IsArgumentText : (List ℕ → Type 0) → List ℕ → Type 0
IsArgumentText IsHead t =
    (head a : List ℕ) × (t ≡ head ++ (codes "(" ++ (a ++ codes ":)"))) × IsHead head × IsName a

-- `T.f(a:)`
abbrev pub IsFieldArgumentText : List ℕ → Type 0
IsFieldArgumentText = IsArgumentText IsAttributeText

-- `@d`
abbrev pub IsDirectiveText : List ℕ → Type 0
IsDirectiveText t = (d : List ℕ) × (t ≡ codes "@" ++ d) × IsName d

-- `@d(a:)`
abbrev pub IsDirectiveArgumentText : List ℕ → Type 0
IsDirectiveArgumentText = IsArgumentText IsDirectiveText

-- the text of a coordinate of any form
abbrev pub IsCoordinateText : List ℕ → Type 0
IsCoordinateText t =
    IsTypeText t ⊎ IsAttributeText t ⊎ IsFieldArgumentText t ⊎ IsDirectiveText t ⊎ IsDirectiveArgumentText t

-- the text of a type's coordinate: `T`
abbrev pub type_coordinate_text : TypeCoordinate → List ℕ
type_coordinate_text c = c.ty.text

-- the text of an attribute's coordinate: `T.a`
abbrev pub attribute_coordinate_text : TypeAttributeCoordinate → List ℕ
attribute_coordinate_text c = c.ty.text ++ (codes "." ++ c.attribute.text)

-- the text of the coordinate of a field's argument: `T.f(a:)`
abbrev pub field_argument_coordinate_text : FieldArgumentCoordinate → List ℕ
field_argument_coordinate_text c =
    c.ty.text ++ (codes "." ++ (c.field.text ++ (codes "(" ++ (c.argument.text ++ codes ":)"))))

-- the text of a directive's coordinate: `@d`
abbrev pub directive_coordinate_text : DirectiveCoordinate → List ℕ
directive_coordinate_text c = codes "@" ++ c.directive.text

-- the text of the coordinate of a directive's argument: `@d(a:)`
abbrev pub directive_argument_coordinate_text : DirectiveArgumentCoordinate → List ℕ
directive_argument_coordinate_text c =
    codes "@" ++ (c.directive.text ++ (codes "(" ++ (c.argument.text ++ codes ":)")))

-- the text of a coordinate of any form
abbrev pub coordinate_text : SchemaCoordinate → List ℕ
coordinate_text (Ty c) = type_coordinate_text c
coordinate_text (TypeAttribute c) = attribute_coordinate_text c
coordinate_text (FieldArgument c) = field_argument_coordinate_text c
coordinate_text (Directive c) = directive_coordinate_text c
coordinate_text (DirectiveArgument c) = directive_argument_coordinate_text c

-- the parts of a coordinate, from the left
abbrev pub coordinate_parts : SchemaCoordinate → List NameView
coordinate_parts (Ty c) = c.ty ∷ []
coordinate_parts (TypeAttribute c) = c.ty ∷ c.attribute ∷ []
coordinate_parts (FieldArgument c) = c.ty ∷ c.field ∷ c.argument ∷ []
coordinate_parts (Directive c) = c.directive ∷ []
coordinate_parts (DirectiveArgument c) = c.directive ∷ c.argument ∷ []

-- each part is a name by the grammar
abbrev pub HasNames : SchemaCoordinate → Type 0
HasNames c = AllByRecursion (λ n. IsName n.text) (coordinate_parts c)

-- a text says a coordinate: it is its text, and each part is a name, at no location
abbrev pub SaysCoordinate : List ℕ → SchemaCoordinate → Type 0
SaysCoordinate t c =
    (coordinate_text c ≡ t) × AllByRecursion (λ n. IsName n.text × (n.location ≡ None)) (coordinate_parts c)

-- a type's coordinate without the location of its name
abbrev pub bare_type_coordinate : TypeCoordinate → TypeCoordinate
bare_type_coordinate c = record { ty = bare_name c.ty }

-- an attribute's coordinate without the locations of its names
abbrev pub bare_attribute_coordinate : TypeAttributeCoordinate → TypeAttributeCoordinate
bare_attribute_coordinate c = record { ty = bare_name c.ty; attribute = bare_name c.attribute }

-- the coordinate of a field's argument without the locations of its names
abbrev pub bare_field_argument_coordinate : FieldArgumentCoordinate → FieldArgumentCoordinate
bare_field_argument_coordinate c =
    record { ty = bare_name c.ty; field = bare_name c.field; argument = bare_name c.argument }

-- a directive's coordinate without the location of its name
abbrev pub bare_directive_coordinate : DirectiveCoordinate → DirectiveCoordinate
bare_directive_coordinate c = record { directive = bare_name c.directive }

-- the coordinate of a directive's argument without the locations of its names
abbrev pub bare_directive_argument_coordinate : DirectiveArgumentCoordinate → DirectiveArgumentCoordinate
bare_directive_argument_coordinate c =
    record { directive = bare_name c.directive; argument = bare_name c.argument }

-- a coordinate of any form without the locations of its names
abbrev pub bare_coordinate : SchemaCoordinate → SchemaCoordinate
bare_coordinate (Ty c) = Ty (bare_type_coordinate c)
bare_coordinate (TypeAttribute c) = TypeAttribute (bare_attribute_coordinate c)
bare_coordinate (FieldArgument c) = FieldArgument (bare_field_argument_coordinate c)
bare_coordinate (Directive c) = Directive (bare_directive_coordinate c)
bare_coordinate (DirectiveArgument c) = DirectiveArgument (bare_directive_argument_coordinate c)
