use Rattle.std.proofs.Common.{rules}
use Rattle.leafcheck.proofs.LostLemmas.{places_say}
use Rattle.leafcheck.proofs.SearchLemmas.{ordered-from_sort_by}
use Rattle.leafcheck.proofs.lost_selections.LostSelections.new.Goals as goal

pub invariant_of-result : goal.invariant_of-result
invariant_of-result c = record {
  ordered = ordered-from_sort_by c.sort_unstable_by.new.self.items c.sort_unstable_by.ensures.sorted
      (λ a r f' k. search rules);
}

pub returns : goal.returns
returns c = λ path. places_say c.args.faults.now c.in_ok-places.places.items
    c.sort_unstable_by.new.self.items path c.in_ok-places.ensures c.sort_unstable_by.ensures.permutation
