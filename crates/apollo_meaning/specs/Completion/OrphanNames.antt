-- The names that are extended and not defined. GraphQL specification of October 2021, section 3.4.3.
use Rattle.std.specs.Prelude.{List, [], ◌∷◌}
use Rattle.std.specs.List.{flat_map}
use Rattle.graphql_nodes.specs.NameView.{NameView}
use Rattle.apollo_meaning.specs.Items.Parts.{TypePart}
use Rattle.apollo_meaning.specs.Items.ListItems.{ListItem}
use Rattle.apollo_meaning.specs.Completion.Adoption.{extended_names, orphans_of}

-- the name of the first extension, if there is one
abbrev pub first_name : List TypePart → List NameView
first_name [] = []
first_name (e ∷ es) = e.name ∷ []

-- the names of a list that are extended and not defined, in order of first extension, each as that writes it
abbrev pub orphan_names : List ListItem → List NameView
orphan_names xs = flat_map (λ n. first_name (orphans_of xs n)) (extended_names xs)
