-- The directive definitions that a list means. GraphQL specification of October 2021, section 3.13.
--
-- **Directive definitions that a list means.** A directive's **name means** (`directive_of`) the first
-- definition of that name that is handed in. If there is none, it means the last definition of that
-- name, if there is one.
--
-- `AreDirectivesOf`: there is one for each name that is defined, under that name as its first definition in
-- the list writes it. They are in the order of first definition. Looking up any text gives what this name
-- means, or nothing. So a directive that replaces a built-in one stands where the built-in one would.
use Rattle.std.specs.Prelude.{ℕ, Bool, List, None, map, ◌≡◌, Option, filter, not, ◌&&◌, Some}
use Rattle.std.specs.List.{filter_map, find, last_or}
use Rattle.std.specs.Option.{option_or}
use Rattle.graphql_nodes.specs.SameText.{same, same_text, by_text}
use Rattle.graphql_nodes.specs.NameView.{NameView}
use Rattle.graphql_nodes.specs.Tables.{lookup, keys_of}
use Rattle.graphql_nodes.specs.NodeView.{NodeView}
use Rattle.graphql_nodes.specs.BuiltIn.{is_built_in}
use Rattle.graphql_ast.specs.declared.type_system.DirectiveDefinition.{DirectiveDefinition}
use Rattle.apollo_component.specs.FirstOfEach.{first_of_each}
use Rattle.apollo_meaning.specs.Items.ListItems.{ListItem, Other}
use Rattle.graphql_ast.specs.declared.definition.Definition.TheVariants as ast

-- directive definitions, in order
abbrev pub Directives : Type 0
Directives = List (NodeView DirectiveDefinition)

-- the directive definition that an item is, if it is one
abbrev pub directive_part : ListItem → Option (NodeView DirectiveDefinition)
directive_part (Other (ast.DirectiveDefinition n)) = Some n
directive_part _ = None

-- the directive definitions of a list, in order
abbrev pub directive_definitions : List ListItem → Directives
directive_definitions xs = filter_map directive_part xs

-- whether a directive definition's name has this text
abbrev pub has_text : List ℕ → NodeView DirectiveDefinition → Bool
has_text n d = same n d.value.name.text

-- whether a directive definition is not marked built-in
abbrev pub is_handed_in : NodeView DirectiveDefinition → Bool
is_handed_in d = not (is_built_in d.location)

-- the definition that a name means: the first that is not marked built-in; where there is none, the last one
abbrev pub directive_of : Directives → List ℕ → Option (NodeView DirectiveDefinition)
directive_of ds n =
    option_or (find (λ d. has_text n d && is_handed_in d) ds) (last_or None (filter (has_text n) ds))

-- the names, as their first definitions write them, in the order of those
abbrev pub directive_names : Directives → List NameView
directive_names ds = map (λ d. d.value.name) (first_of_each (λ a b. same_text a.value.name b.value.name) ds)

-- this table holds what the names of these definitions mean, in the order of first definition
pub record AreDirectivesOf (ds : Directives) (table : List (NameView × NodeView DirectiveDefinition)) :
    Type 0 where
  -- the names that are defined, in order
  pub names : keys_of table ≡ directive_names ds
  -- under each name the definition that it means, and under each other text none
  pub each : (n : List ℕ) → lookup (by_text n) table ≡ directive_of ds n
