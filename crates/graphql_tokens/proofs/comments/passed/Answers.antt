use Rattle.std.proofs.Common.{◌≢◌, arith}
use Rattle.graphql_tokens.proofs.CommentLemmas.{at_ignored, at_token}
use Rattle.graphql_tokens.proofs.comments.passed.Goals as goal

pub returns-then-size-ne0 : goal.returns-then-size-ne0
returns-then-size-ne0 c =
    let some : c.one_ignored-size.result ≢ 0 = omega arith in (
      omega arith,
      c.one_ignored-size.ensures.within,
      at_ignored c.args.text.now c.one_ignored-size.result c.requires c.if-text-eq35.false
          c.one_ignored-size.ensures.same some,
    )

pub returns-in-Ok : goal.returns-in-Ok
returns-in-Ok c =
    let fits = c.in-Ok.ensures.within in
    let some : c.in-Ok.found.size ≢ 0 = omega (arith, fits.0) in (
      fits.0,
      fits.1,
      at_token c.args.text.now c.in-Ok.found c.one_ignored-size.result c.requires c.if-text-eq35.false
          c.one_ignored-size.ensures.same c.if-size-ne0.false some c.in-Ok.ensures.same,
    )
