use Rattle.apollo_meaning.proofs.Prelude.{◌≡◌, map, take, schema_extension_part, schema_orphan}
use Rattle.apollo_folding.specs.Noting.{noting}
use Rattle.apollo_folding.proofs.fold.Fold.note_schema_orphans.Given as goal

abbrev pub invariant-loop-extension : goal.invariant-loop-extension
invariant-loop-extension l =
    let so_far = take l.extension-index l.extensions in
    l.self ≡ noting (map schema_orphan (map schema_extension_part so_far)) l.fn.self
