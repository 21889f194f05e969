-- The order in which extensions of types and of the schema are folded, by places of the whole list: GraphQL
-- specification of October 2021, sections 3.4.3 and 3.3.2.
--
-- **Folded.** An extension is folded if its name has a definition and the first one has the extension's
-- kind. An extension of the schema is folded if the schema has a definition.
--
-- **Moment.** The moment of a folded extension is its own place or that of its name's first definition,
-- whichever is later. It is the earliest point of the list at which both are there. For an extension of the
-- schema it is the same with the schema's first definition. An extension of another kind whose name has a
-- definition has a moment as well.
--
-- **Met.** An extension is met at its moment. One of another kind than its name's first definition is
-- met, but not folded.
--
-- **Folding order.** The folding order is by moment, and at one moment by place; extensions of types and
-- of the schema stand in one order. So the extensions of adopted types come after all whose definition
-- was handed in, and those of a schema whose definition is implied come last.
use Rattle.std.specs.Prelude.{ℕ, Bool, false, List, [], ◌++◌, map, Option, filter, ◌==◌, max, length}
use Rattle.std.specs.List.{filter_map, flat_map, enumerate_from, range_with_len}
use Rattle.std.specs.Option.{option_map_or, option_map}
use Rattle.std.specs.Map.{lookup}
use Rattle.graphql_nodes.specs.SameText.{same}
use Rattle.apollo_meaning.specs.Items.Parts.{TypePart, SchemaPart, kind_of, key_of, same_kind}
use Rattle.apollo_meaning.specs.Items.ListItems.{ListItem, extended_part, defined_part, defined_schema}
use Rattle.apollo_meaning.specs.Items.ListItems.{extended_schema, Folding, OfType, OfSchema}

-- what is defined and extended in a list under keys
pub record Family (P : Type 0) : Type 0 where
  -- the part, if the item is a definition of this family
  pub defined : ListItem → Option P
  -- the part, if the item is an extension of this family
  pub extended : ListItem → Option P
  -- what a part stands under
  pub key : P → List ℕ

-- types, under their names
abbrev pub types : Family TypePart
types = record { defined = defined_part; extended = extended_part; key = key_of }

-- the schema, under no name: all its definitions and extensions have one key
abbrev pub schemas : Family SchemaPart
schemas = record { defined = defined_schema; extended = extended_schema; key = λ _. [] }

-- a part and its place in the list
abbrev pub Placed : Type 0 → Type 0
Placed P = ℕ × P

-- what an item at a place defines or extends, with its place, if it is what is asked for
abbrev pub placed_by : {P : Type 0} → (ListItem → Option P) → ℕ × ListItem → Option (Placed P)
placed_by which e = option_map (λ p. (e.0, p)) (which e.1)

-- the definitions, with their places
abbrev pub definition_places : {P : Type 0} → Family P → List ListItem → List (Placed P)
definition_places f xs = filter_map (placed_by f.defined) (enumerate_from 0 xs)

-- the extensions, with their places
abbrev pub extension_places : {P : Type 0} → Family P → List ListItem → List (Placed P)
extension_places f xs = filter_map (placed_by f.extended) (enumerate_from 0 xs)

-- the first definition of a key, with its place
abbrev pub first_place : {P : Type 0} → Family P → List ListItem → List ℕ → Option (Placed P)
first_place f xs n = lookup (same n) (map (λ e. (f.key e.1, e)) (definition_places f xs))

-- an extension is met at its own place or at that of its key's first definition, whichever is later. It is
-- never met where its key has none
abbrev pub is_met : {P : Type 0} → Family P → List ListItem → ℕ → Placed P → Bool
is_met f xs i e = option_map_or (λ d. max e.0 d.0 == i) (first_place f xs (f.key e.1)) false

-- how many times an extension is met in the whole list
abbrev pub times_met : {P : Type 0} → Family P → List ListItem → Placed P → ℕ
times_met f xs e = length (filter (λ i. is_met f xs i e) (range_with_len 0 (length xs)))

-- one where the extension's key has a definition, and none where it has none
abbrev pub once_if_defined : {P : Type 0} → Family P → List ListItem → Placed P → ℕ
once_if_defined f xs e = option_map_or (λ _. 1) (first_place f xs (f.key e.1)) 0

-- the extensions that are met at a moment, by their places
abbrev pub met_when : {P : Type 0} → Family P → List ListItem → ℕ → List (Placed P)
met_when f xs i = filter (is_met f xs i) (extension_places f xs)

-- an extension of a type is folded if its name has a definition, and the first one has its kind
abbrev pub is_folded : List ListItem → Placed TypePart → Bool
is_folded xs e =
    option_map_or (λ d. same_kind (kind_of d.1) (kind_of e.1)) (first_place types xs (key_of e.1)) false

-- the extensions that are folded at a moment, by their places: of types, or of the schema
abbrev pub folded_when : List ListItem → ℕ → List Folding
folded_when xs i = map (λ e. OfType e.1) (filter (is_folded xs) (met_when types xs i))
    ++ map (λ e. OfSchema e.1) (met_when schemas xs i)

-- the extensions that are folded, by moment and then by place
abbrev pub folding_order : List ListItem → List Folding
folding_order xs = flat_map (folded_when xs) (range_with_len 0 (length xs))
