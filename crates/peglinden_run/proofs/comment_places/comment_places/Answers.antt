use Rattle.std.proofs.Common.{rules, suc}
use Rattle.peglinden_run.proofs.CommentLemmas.{behind-next, places-next}
use Rattle.peglinden_run.proofs.comment_places.comment_places.Goals as goal

pub returns-in_default : goal.returns-in_default
returns-in_default c =
    let was = c.tokens.invariant in
    places-next c.args.text.now c.tokens.rest.now was.behind.0 _ _ was.behind.1 was.all
    (rw c.saturating_sub-at.ensures at c.in_ok-behind.ensures.adds)

pub tokens-preserved : goal.tokens-preserved
tokens-preserved c =
    let was = c.tokens.invariant in
    record {
      text = search rules;
      behind = (
        suc was.behind.0,
        behind-next c.args.text.now c.tokens.rest.now c.in-Some.behind.now was.behind.0 was.behind.1
            (rw c.in-Some.is at c.in_ok-behind.ensures.behind),
      );
      all = places-next c.args.text.now c.tokens.rest.now was.behind.0 _ _ was.behind.1 was.all
          (rw c.saturating_sub-at.ensures at c.in_ok-behind.ensures.adds);
    }
