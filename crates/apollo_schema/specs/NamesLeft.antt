-- The names under which something is held that waits for a definition: GraphQL specification of October
-- 2021, section 3.4.3.
use Rattle.std.specs.Prelude.{◌≡◌, List, [], ◌∷◌, None}
use Rattle.std.specs.List.{flat_map}
use Rattle.std.specs.Option.{option_map_or}
use Rattle.graphql_nodes.specs.NameView.{NameView}
use Rattle.graphql_ast.specs.declared.definition.Definition.{Definition}
use Rattle.apollo_schema.specs.declared.orphan_names.OrphanNames.{OrphanNames}
use Rattle.apollo_meaning.specs.Items.Parts.{TypePart}
use Rattle.apollo_meaning.specs.Items.ListItems.{ListItem}
use Rattle.apollo_meaning.specs.Items.Named.{first}
use Rattle.apollo_meaning.specs.Completion.Adoption.{orphans_of}

-- the name, if anything is held under it
abbrev pub name_if_any : {X : Type 0} → NameView → List X → List NameView
name_if_any name [] = []
name_if_any name (x ∷ xs) = name ∷ []

-- the names under which something is held
abbrev pub names_held : List (NameView × List Definition) → List NameView
names_held entries = flat_map (λ e. name_if_any e.0 e.1) entries

-- the names that are left to give
abbrev pub names_left : OrphanNames → List NameView
names_left names = option_map_or names_held names.entries []

-- the name has no definition in the list, and the first extension of it has this very name
abbrev pub IsOrphanName : List ListItem → NameView → Type 0
IsOrphanName xs name = (first xs name.text ≡ None)
    × ((e : TypePart) × (es : List TypePart) × (orphans_of xs name.text ≡ e ∷ es) × (e.name ≡ name))
