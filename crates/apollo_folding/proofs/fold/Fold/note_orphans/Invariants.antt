use Rattle.apollo_meaning.proofs.Prelude.{◌≡◌, map, flat_map, extended_parts, orphan}
use Rattle.apollo_folding.specs.Noting.{noting}
use Rattle.apollo_folding.proofs.fold.Fold.note_orphans.Given as goal

abbrev pub invariant-loop-extensions : goal.invariant-loop-extensions
invariant-loop-extensions l =
    l.self ≡ noting (map orphan (flat_map extended_parts (map (λ t. t.now) l.yielded))) l.fn.self
