-- The faults of a list of definitions, by places of the whole list: GraphQL specification of October 2021,
-- section 3.
--
-- **Faults of a list.** The faults of a list (`faults_of`), with adoption or without, are exactly what the
-- modules of `Faults` say. Nothing else is at fault.
--
-- **Order of discovery.** Three phases:
--
-- 1. What is found at the moments of the list with what is adopted, by moment. At a moment come first the
--    faults of the definition that stands there. Then come those of the extensions that are met at this
--    moment, by place. Such a fault is a kind mismatch, a collision of one of the extension's components, or
--    a repeated root of it. Of one definition or extension the interfaces come before the fields, each in
--    order.
-- 2. The orphans, by name, names in the order of first extension, and of one name by place.
-- 3. What is found at the implied schema definition: the repeated roots of the schema's extensions, by
--    place. Where there is no schema definition, the orphans of the schema, by place.
use Rattle.std.specs.Prelude.{ℕ, Bool, List, [], ◌∷◌, ◌++◌, map, if◌then◌else◌, filter, slice_get, ◌&&◌, ◌==◌}
use Rattle.std.specs.Prelude.{length, take}
use Rattle.std.specs.List.{flat_map, range_with_len}
use Rattle.std.specs.Option.{option_map_or}
use Rattle.graphql_nodes.specs.SameText.{same}
use Rattle.apollo_meaning.specs.Items.Parts.{TypePart, SchemaPart, key_of}
use Rattle.apollo_meaning.specs.Items.ListItems.{ListItem, Defined, SchemaDefined, Other}
use Rattle.apollo_meaning.specs.Items.ListItems.{Added, added_items}
use Rattle.apollo_meaning.specs.Items.Named.{extensions_of, schema_extensions}
use Rattle.apollo_meaning.specs.Faults.Collisions.{Fault}
use Rattle.apollo_meaning.specs.Faults.TypeFaults.{part_faults, extension_faults, further_definition, orphan}
use Rattle.apollo_meaning.specs.Faults.RootFaults.{schema_faults, further_schema, schema_orphan}
use Rattle.apollo_meaning.specs.Completion.Adoption.{extended_names, orphans_of, schema_orphans, with_adopted}
use Rattle.apollo_meaning.specs.Directives.{directive_definitions}
use Rattle.apollo_meaning.specs.Order.Places.{Placed, types, schemas, extension_places, first_place}
use Rattle.apollo_meaning.specs.Order.Places.{is_folded, met_when}
use Rattle.apollo_meaning.specs.Completion.ImpliedSchema.{implied_schema}
use Rattle.apollo_meaning.specs.Faults.OtherFaults.{other_faults}

-- what is wrong with the definition at a place. The first one of its name, or of the schema, may repeat
-- components, and a further one is dropped. An extension is looked at with the first definition.
abbrev pub own_faults : List ListItem → ℕ → ListItem → List Fault
own_faults xs i (Defined d) =
    option_map_or (λ f. if f.0 == i then part_faults [] d
    else further_definition f.1 d) (first_place types xs (key_of d)) []
own_faults xs i (SchemaDefined s) =
    option_map_or (λ f. if f.0 == i then schema_faults [] s
    else further_schema f.1 s ∷ []) (first_place schemas xs []) []
own_faults xs i (Other d) = other_faults (directive_definitions (take i xs)) d
own_faults xs i _ = []

-- what is wrong with an extension, seen with the first definition of its name and the extensions before it
abbrev pub faults_of_extension : List ListItem → Placed TypePart → List Fault
faults_of_extension xs e =
    option_map_or (λ f. extension_faults f.1 (extensions_of (take e.0 xs) (key_of e.1)) e.1)
    (first_place types xs (key_of e.1)) []

-- what is wrong with a schema extension, seen with the first definition and the extensions before it
abbrev pub faults_of_schema_extension : List ListItem → Placed SchemaPart → List Fault
faults_of_schema_extension xs e =
    option_map_or (λ f. schema_faults (f.1 ∷ schema_extensions (take e.0 xs)) e.1) (first_place schemas xs [])
    []

-- the components that are dropped from a type of a list with this first definition. They are dropped from
-- that, and from the extensions that are folded into it
abbrev pub found_of_type : List ListItem → TypePart → List Fault
found_of_type xs d =
    part_faults [] d
    ++ flat_map (faults_of_extension xs)
    (filter (λ e. same (key_of d) (key_of e.1) && is_folded xs e) (extension_places types xs))

-- the roots that are dropped from the schema of a list with this first definition: from that, and from the
-- extensions
abbrev pub found_of_schema : List ListItem → SchemaPart → List Fault
found_of_schema xs s =
    schema_faults [] s ++ flat_map (faults_of_schema_extension xs) (extension_places schemas xs)

-- what is found at a moment: at the definition that stands there, then at the extensions that are met
abbrev pub found_when : List ListItem → ℕ → List Fault
found_when xs i =
    option_map_or (own_faults xs i) (slice_get xs i) []
    ++ (flat_map (faults_of_extension xs) (met_when types xs i)
    ++ flat_map (faults_of_schema_extension xs) (met_when schemas xs i))

-- all that is found from a moment on, by moment
abbrev pub found_from : ℕ → ℕ → List ListItem → List Fault
found_from i n xs = flat_map (found_when xs) (range_with_len i n)

-- the faults of these items and an implied schema definition after them, in three phases. First comes what is
-- found moment by moment. Then come the extensions whose name has no definition, by name. Last come what is
-- found at the implied schema definition, and the extensions of the schema that have none
abbrev pub faults_with : List ListItem → List ListItem → List Fault
faults_with xs implied =
    found_from 0 (length xs) xs
    ++ (map orphan (flat_map (orphans_of xs) (extended_names xs))
    ++ (found_from (length xs) (length implied) (xs ++ implied)
    ++ map schema_orphan (schema_orphans (xs ++ implied))))

-- the faults of a list, with the adopted types last
abbrev pub faults_in : Bool → List ListItem → List Fault
faults_in adopts xs = faults_with (with_adopted adopts xs) (implied_schema adopts (with_adopted adopts xs))

-- the faults of a list, in order of discovery
abbrev pub faults_of : Bool → List Added → List Fault
faults_of adopts xs = faults_in adopts (added_items xs)
