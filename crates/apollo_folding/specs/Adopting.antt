-- What a build adopts for definitions that wait: GraphQL specification of October 2021, section 3.4.3.
use Rattle.std.specs.Prelude.{List, [], ◌∷◌}
use Rattle.std.specs.List.{flat_map}
use Rattle.graphql_ast.specs.declared.definition.Definition.{Definition}
use Rattle.apollo_meaning.specs.Items.ListItems.{ListItem, extended_parts}
use Rattle.apollo_meaning.specs.Completion.Adoption.{adopted_by}

-- the definition that is adopted for the extensions among these definitions, which are of one name
abbrev pub adopted_for : List Definition → List ListItem
adopted_for held = adopted_by (extended_parts held)

-- those that are adopted for each of these definitions alone
abbrev pub adopted_for_each : List Definition → List ListItem
adopted_for_each firsts = flat_map (λ first. adopted_for (first ∷ [])) firsts
