use Rattle.std.proofs.Common.{get_or, refl}
use Rattle.peglinden_run.proofs.CommentLemmas.{found-more}
use Rattle.peglinden_run.proofs.comment_places.push_comments.Goals as goal

pub loop-index-preserved : goal.loop-index-preserved
loop-index-preserved c = found-more c.args.bytes.now c.loop-index.index c.args.at _ _ _ c.loop-index.inside
    c.in_ok-inside.inside (get_or c.args.bytes.now c.loop-index.index 0) c.loop-index-test.true refl
    c.loop-index.invariant c.in_ok-inside.ensures.state c.in_ok-inside.ensures.adds
