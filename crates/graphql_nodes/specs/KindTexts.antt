-- What messages call kinds of types, and definitions and extensions of them: GraphQL specification of
-- October 2021, sections 3.4 and 3.4.3.
use Rattle.std.specs.Prelude.{ℕ, List, ◌++◌, codes}
use Rattle.graphql_nodes.specs.declared.type_kind.TypeKind.{TypeKind}
use Rattle.graphql_nodes.specs.declared.type_kind.TypeKind.TheVariants as k

-- one of six, by the kind of types
abbrev pub by_kind : {A : Type 0} → A → A → A → A → A → A → TypeKind → A
by_kind scalar object interface union enum input k.Scalar = scalar
by_kind scalar object interface union enum input k.Object = object
by_kind scalar object interface union enum input k.Interface = interface
by_kind scalar object interface union enum input k.Union = union
by_kind scalar object interface union enum input k.Enum = enum
by_kind scalar object interface union enum input k.InputObject = input

-- what messages call a kind of types
abbrev pub kind_text : TypeKind → List ℕ
kind_text kind =
    by_kind (codes "a scalar type") (codes "an object type") (codes "an interface type")
    (codes "a union type") (codes "an enum type") (codes "an input object type") kind

-- what messages call the definition of a type of this kind
abbrev pub kind_definition_text : TypeKind → List ℕ
kind_definition_text kind = kind_text kind ++ codes " definition"

-- what messages call the extension of a type of this kind
abbrev pub kind_extension_text : TypeKind → List ℕ
kind_extension_text kind = kind_text kind ++ codes " extension"
