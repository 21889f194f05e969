-- The definitions of types that a list is completed with where those that are extended only are adopted:
-- GraphQL specification of October 2021, section 3.4.3.
--
-- **Completed list.** The list, then what is adopted, then the implied schema definition. All that
-- follows (types, numbers, places, faults) is said of the completed list, so neither needs a case of its
-- own.
--
-- **Adopted.** Only with adoption: for each name that has extensions and no definition, in the order of
-- first extension, an empty definition. It is of the kind of the name's first extension, with its name
-- and its location, without description and components.
use Rattle.std.specs.Prelude.{ℕ, Bool, false, List, [], ◌∷◌, ◌++◌, None, map, if◌then◌else◌}
use Rattle.std.specs.List.{filter_map, flat_map}
use Rattle.std.specs.Option.{option_map_or}
use Rattle.graphql_nodes.specs.SameText.{same}
use Rattle.apollo_component.specs.FirstOfEach.{first_of_each}
use Rattle.graphql_ast.specs.Parts.{no_parts}
use Rattle.apollo_meaning.specs.Items.Parts.{TypePart, SchemaPart, key_of}
use Rattle.apollo_meaning.specs.Items.ListItems.{ListItem, Defined, extended_part}
use Rattle.apollo_meaning.specs.Items.Named.{first, extensions_of, first_schema, schema_extensions}

-- the names that are extended, in order of first extension
abbrev pub extended_names : List ListItem → List (List ℕ)
extended_names xs = first_of_each same (map key_of (filter_map extended_part xs))

-- the extensions of a name, if it has no definition; else none
abbrev pub orphans_of : List ListItem → List ℕ → List TypePart
orphans_of xs n = option_map_or (λ _. []) (first xs n) (extensions_of xs n)

-- the extensions of the schema, if it has no definition; else none
abbrev pub schema_orphans : List ListItem → List SchemaPart
schema_orphans xs = option_map_or (λ _. []) (first_schema xs) (schema_extensions xs)

-- the empty definition that adoption gives a name: of the kind, with the name and at the location of its
-- first extension
abbrev pub adopted_part : TypePart → TypePart
adopted_part e = record e { description = None; parts = no_parts; ignorable = false }

-- the adopted definition for these extensions of one name; nothing where there is no extension
abbrev pub adopted_by : List TypePart → List ListItem
adopted_by [] = []
adopted_by (e ∷ es) = Defined (adopted_part e) ∷ []

-- the adopted definitions of all names that are extended and not defined, in order of first extension
abbrev pub adopted : List ListItem → List ListItem
adopted xs = flat_map (λ n. adopted_by (orphans_of xs n)) (extended_names xs)

-- the list, followed by the adopted definitions if names that are extended only are adopted
abbrev pub with_adopted : Bool → List ListItem → List ListItem
with_adopted adopts xs = if adopts then xs ++ adopted xs else xs
