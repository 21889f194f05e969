use Rattle.apollo_meaning.proofs.Prelude.{[], ◌∷◌, map, take, sym, ap, ◌∙◌, arith, map-append, extended_parts}
use Rattle.apollo_meaning.proofs.Prelude.{orphan}
use Rattle.apollo_meaning.proofs.Order.FoldingLemmas.{extended_parts-turn}
use Rattle.apollo_folding.specs.Noting.{noting}
use Rattle.apollo_folding.proofs.NotingLemmas.{noting-more}
use Rattle.apollo_folding.proofs.fold.Fold.note_orphans_of.Goals as goal

pub loop-extension-preserved : goal.loop-extension-preserved
loop-extension-preserved c =
    let xs = c.args.extensions.now in
    let i = c.loop-extension.extension-index in
    let x = c.extension-item.result in
    let so_far = extended_parts (take i xs) in
    let this = extended_parts (x ∷ []) in
    c.in_ok-note_orphan.ensures.noted ∙ ap (noting (map orphan this)) c.loop-extension.invariant
    ∙ noting-more c.args.self.now (map orphan so_far) (map orphan this)
    ∙ ap (λ l. noting l c.args.self.now) (sym (map-append orphan so_far this)
    ∙ ap (map orphan) (sym (extended_parts-turn xs i x (omega arith) c.extension-item.is)))
