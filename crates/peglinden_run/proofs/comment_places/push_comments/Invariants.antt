use Rattle.peglinden_run.proofs.CommentLemmas.{Found}
use Rattle.peglinden_run.proofs.comment_places.push_comments.Given as goal

abbrev pub invariant-loop-index : goal.invariant-loop-index
invariant-loop-index l = Found l.bytes l.index l.at l.fn.places.items l.places.items l.inside
