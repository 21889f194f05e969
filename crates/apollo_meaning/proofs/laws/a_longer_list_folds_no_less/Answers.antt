use Rattle.apollo_meaning.proofs.Prelude.{◌≤◌, Bool, true, false, List, ◌++◌, length, arith, map-append}
use Rattle.apollo_meaning.proofs.Prelude.{ListItem, Added, added_item, added_items, folding_order, adopted}
use Rattle.apollo_meaning.proofs.Prelude.{implied_schema, completed, whole, folded}
use Rattle.apollo_meaning.specs.Schema.Whole.{folds}
use Rattle.apollo_meaning.proofs.Order.MomentLemmas.{folding_order-forget}
use Rattle.apollo_meaning.proofs.Items.ItemLemmas.{length-folded-front}
use Rattle.apollo_meaning.proofs.laws.a_longer_list_folds_no_less.Goals as goal

folded-completed : (adopts : Bool) (xs : List ListItem)
    → length (folded xs) ≤ length (folded (completed adopts xs))
folded-completed true xs = omega (
  arith,
  length-folded-front xs (adopted xs),
  length-folded-front (xs ++ adopted xs) (implied_schema true (xs ++ adopted xs)),
)
folded-completed false xs = length-folded-front xs (implied_schema false xs)

folded-longer : (adopts : Bool) (xs more : List Added)
    → length (folding_order (added_items xs)) ≤ folds adopts (xs ++ more)
folded-longer adopts xs more =
    let first_order = folding_order-forget (added_items xs) in
    let last_order = folding_order-forget (whole adopts (xs ++ more)) in
    rw (first_order, last_order, map-append added_item xs more) (let front = length-folded-front
    (added_items xs) (added_items more) in
    omega (arith, front, folded-completed adopts (added_items xs ++ added_items more)))

pub returns : goal.returns
returns c = record {
  folds = folded-longer;
  spends = λ start adopts xs more spent. omega (arith, spent, folded-longer adopts xs more);
}
