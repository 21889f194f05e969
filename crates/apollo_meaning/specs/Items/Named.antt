-- Definitions and extensions of a name, and of the schema, in a list: GraphQL specification of October 2021,
-- sections 3, 3.3.2 and 3.4.3.
--
-- **First definition.** The first definition of a name (a text) is the defining item of that name with
-- the least place. Later ones are not used.
--
-- **Kind of a name.** The kind of a name is that of its first definition. A name without a definition
-- has no kind and no type.
use Rattle.std.specs.Prelude.{ℕ, List, map, Option, filter, slice_get}
use Rattle.std.specs.List.{filter_map}
use Rattle.std.specs.Map.{lookup}
use Rattle.graphql_nodes.specs.SameText.{same}
use Rattle.graphql_nodes.specs.declared.type_kind.TypeKind.{TypeKind}
use Rattle.apollo_meaning.specs.Items.Parts.{TypePart, SchemaPart, kind_of, key_of, same_kind}
use Rattle.apollo_meaning.specs.Items.ListItems.{ListItem, extended_part, defined_part, defined_schema}
use Rattle.apollo_meaning.specs.Items.ListItems.{extended_schema}

-- parts under their names
abbrev pub named : List TypePart → List (List ℕ × TypePart)
named = map (λ p. (key_of p, p))

-- the definitions, under their names
abbrev pub definitions : List ListItem → List (List ℕ × TypePart)
definitions xs = named (filter_map defined_part xs)

-- the first definition of a name
abbrev pub first : List ListItem → List ℕ → Option TypePart
first xs n = lookup (same n) (definitions xs)

-- the extensions of a name, in order
abbrev pub extensions_of : List ListItem → List ℕ → List TypePart
extensions_of xs n = filter (λ p. same n (key_of p)) (filter_map extended_part xs)

-- the definitions or extensions of a kind
abbrev pub of_kind : TypeKind → List TypePart → List TypePart
of_kind k = filter (λ p. same_kind k (kind_of p))

-- the first definition of the schema
abbrev pub first_schema : List ListItem → Option SchemaPart
first_schema xs = slice_get (filter_map defined_schema xs) 0

-- the extensions of the schema, in order
abbrev pub schema_extensions : List ListItem → List SchemaPart
schema_extensions xs = filter_map extended_schema xs
