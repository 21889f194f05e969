-- The schema that a list of definitions means: GraphQL specification of October 2021, section 3.3.
--
-- **Schema that a list means.** `MeansSchema`, with adoption or without: it has exactly the schema definition
-- that the completed list means. It has exactly the types and exactly the directive definitions that the
-- completed list means. If that means no schema definition, the schema has the empty one: no location, no
-- description, no directives, no root.
use Rattle.std.specs.Prelude.{ℕ, Bool, List, length}
use Rattle.apollo_meaning.specs.Items.ListItems.{ListItem, Added, added_items}
use Rattle.apollo_meaning.specs.Completion.ImpliedSchema.{completed}
use Rattle.apollo_meaning.specs.Order.Places.{folding_order}

-- the list with all that it is completed with, with adoption or without
abbrev pub whole : Bool → List Added → List ListItem
whole adopts xs = completed adopts (added_items xs)

-- how many extensions the completed list folds
abbrev pub folds : Bool → List Added → ℕ
folds adopts xs = length (folding_order (whole adopts xs))
