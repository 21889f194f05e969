-- Where the numbers of identities don't suffice for the extensions of a list: GraphQL specification of
-- October 2021, sections 3.3.2 and 3.4.3.
--
-- **Spent numbers.** `folds adopts list` is how many extensions the completed list folds, and `folds_so_far
-- list` how many the list folds before that. `SpendsIds start adopts list` says that the first number plus
-- the former is at least 2^64. Then the last number would pass what a source can give. `SpendsIdsSoFar start
-- list` says the same of the latter.
use Rattle.std.specs.Prelude.{ℕ, Bool, List, length, ◌+◌, ◌^◌, ◌≤◌}
use Rattle.apollo_meaning.specs.Items.ListItems.{Added, added_items}
use Rattle.apollo_meaning.specs.Order.Places.{folding_order}
use Rattle.apollo_meaning.specs.Schema.Whole.{folds}

-- how many extensions are folded before the list is completed
abbrev pub folds_so_far : List Added → ℕ
folds_so_far xs = length (folding_order (added_items xs))

-- the numbers from `start` don't suffice for the extensions that the list folds before it is completed
abbrev pub SpendsIdsSoFar : ℕ → List Added → Type 0
SpendsIdsSoFar start xs = 2 ^ 64 ≤ start + folds_so_far xs

-- the numbers from `start` don't suffice for the extensions that the completed list folds
abbrev pub SpendsIds : ℕ → Bool → List Added → Type 0
SpendsIds start adopts xs = 2 ^ 64 ≤ start + folds adopts xs
