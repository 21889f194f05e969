-- What one more item adds to a list: the form that the builder is proved against. GraphQL specification of
-- October 2021, sections 3.3.2 and 3.4.3.
use Rattle.std.specs.Prelude.{List, [], ◌∷◌, ◌++◌, map, if◌then◌else◌, ◌==◌, length}
use Rattle.std.specs.Option.{option_map_or}
use Rattle.graphql_nodes.specs.NameView.{NameView}
use Rattle.apollo_component.specs.EachAfter.{each_after}
use Rattle.apollo_meaning.specs.Items.Parts.{TypePart, SchemaPart, kind_of, key_of}
use Rattle.apollo_meaning.specs.Items.ListItems.{ListItem, Defined, SchemaDefined, Other, Folding, OfType}
use Rattle.apollo_meaning.specs.Items.ListItems.{OfSchema, Extended, SchemaExtended}
use Rattle.apollo_meaning.specs.Items.Named.{first, extensions_of, first_schema, schema_extensions, of_kind}
use Rattle.apollo_meaning.specs.Faults.Collisions.{Fault}
use Rattle.apollo_meaning.specs.Faults.TypeFaults.{extension_faults, further_definition}
use Rattle.apollo_meaning.specs.Faults.RootFaults.{schema_faults, further_schema}
use Rattle.apollo_meaning.specs.Steps.Joining.{schema_begun_faults, type_begun_faults}
use Rattle.apollo_meaning.specs.Directives.{directive_definitions}
use Rattle.apollo_meaning.specs.Faults.OtherFaults.{other_faults}

-- the extensions of types that are folded at an item, where these items are before it. At the first
-- definition of a name they are all of its kind before it. At an extension of a defined name and of its kind,
-- they are that extension
abbrev pub types_folded_at : List ListItem → ListItem → List TypePart
types_folded_at before (Defined d) =
    option_map_or (λ _. []) (first before (key_of d)) (of_kind (kind_of d) (extensions_of before (key_of d)))
types_folded_at before (Extended e) =
    option_map_or (λ d. of_kind (kind_of d) (e ∷ [])) (first before (key_of e)) []
types_folded_at before (SchemaDefined s) = []
types_folded_at before (SchemaExtended e) = []
types_folded_at before (Other d) = []

-- the extensions of the schema that are folded at an item: at its first definition all before it, at a later
-- extension that one
abbrev pub schemas_folded_at : List ListItem → ListItem → List SchemaPart
schemas_folded_at before (Defined d) = []
schemas_folded_at before (Extended e) = []
schemas_folded_at before (SchemaDefined s) =
    option_map_or (λ _. []) (first_schema before) (schema_extensions before)
schemas_folded_at before (SchemaExtended e) = option_map_or (λ _. e ∷ []) (first_schema before) []
schemas_folded_at before (Other d) = []

-- the extensions of types and of the schema that are folded at an item, where these items are before it
abbrev pub folded_at : List ListItem → ListItem → List Folding
folded_at before x = map OfType (types_folded_at before x) ++ map OfSchema (schemas_folded_at before x)

-- the extensions that are folded, in the order of folding
abbrev pub folded : List ListItem → List Folding
folded xs = each_after folded_at [] xs

-- what is found at an item, where these items are before it
abbrev pub found_at : List ListItem → ListItem → List Fault
found_at before (Defined d) =
    option_map_or (λ f. further_definition f d) (first before (key_of d))
    (type_begun_faults d (extensions_of before (key_of d)))
found_at before (Extended e) =
    option_map_or (λ d. extension_faults d (extensions_of before (key_of e)) e) (first before (key_of e)) []
found_at before (SchemaDefined s) =
    option_map_or (λ f. further_schema f s ∷ []) (first_schema before)
    (schema_begun_faults s (schema_extensions before))
found_at before (SchemaExtended e) =
    option_map_or (λ s. schema_faults (s ∷ schema_extensions before) e) (first_schema before) []
found_at before (Other d) = other_faults (directive_definitions before) d

-- what is found, in order, but for the extensions without a definition
abbrev pub found : List ListItem → List Fault
found xs = each_after found_at [] xs

-- the name under which an extension begins to wait at an item: no definition or extension of it is before
abbrev pub waited_at : List ListItem → ListItem → List NameView
waited_at before (Defined d) = []
waited_at before (Extended e) =
    option_map_or (λ _. []) (first before (key_of e)) (if length (extensions_of before (key_of e)) == 0
    then e.name ∷ [] else [])
waited_at before (SchemaDefined s) = []
waited_at before (SchemaExtended e) = []
waited_at before (Other d) = []

-- the names under which an extension once waited, in order
abbrev pub waited : List ListItem → List NameView
waited xs = each_after waited_at [] xs
