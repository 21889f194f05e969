use Rattle.std.proofs.Common.{rules, ◌∙◌, le-ltb}
use Rattle.std.specs.List.{list_any}
use Rattle.std.proofs.lemmas.Fn.{always_returns_same}
use Rattle.leafcheck.specs.LostPlaces.{path_at}
use Rattle.leafcheck.specs.PathOrder.{begins_with}
use Rattle.leafcheck.proofs.SearchLemmas.{first_tells, is_before, none_tells, split_by}
use Rattle.leafcheck.proofs.lost_selections.LostSelections.below.Goals as goal

pub returns-then-at-places : goal.returns-then-at-places
returns-then-at-places c =
    let places = c.as_slice-places.result.now in
    let path = path_at c.of-wanted.result in
    let same = c.as_slice-places.ensures.value in
    let ordered = rw (← same) at c.args.self.now.ordered in
    let split = c.partition_point-at.ensures.partitioned (is_before path)
    (always_returns_same _ _ _ (λ a r f called. search rules)) (split_by places path ordered) in
    c.begins_with.ensures
    ∙ first_tells places path c.partition_point-at.result ordered split c.index-places-at.result
    c.if-at-places.true c.index-places-at.is
    ∙ (λ i. list_any (λ place. begins_with (path_at place) (c.of-wanted.ensures i)) (same i))

pub returns-else-at-places : goal.returns-else-at-places
returns-else-at-places c =
    let places = c.as_slice-places.result.now in
    let path = path_at c.of-wanted.result in
    let same = c.as_slice-places.ensures.value in
    let ordered = rw (← same) at c.args.self.now.ordered in
    let split = c.partition_point-at.ensures.partitioned (is_before path)
    (always_returns_same _ _ _ (λ a r f called. search rules)) (split_by places path ordered) in
    le-ltb _ _ c.if-at-places.false
    ∙ none_tells places path c.partition_point-at.result ordered split c.if-at-places.false
    ∙ (λ i. list_any (λ place. begins_with (path_at place) (c.of-wanted.ensures i)) (same i))
