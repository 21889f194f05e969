use Rattle.std.proofs.Common.{append_assoc}
use Rattle.apollo_meaning.proofs.built_in.add_directives.Goals as goal

pub returns : goal.returns
returns c = rw (
  c.in_ok-push-4.ensures.ok,
  c.in_ok-push-3.ensures.ok,
  c.in_ok-push-2.ensures.ok,
  c.in_ok-push.ensures.ok,
  c.in_ok-condition_directive.ensures,
  c.in_ok-condition_directive-2.ensures,
  c.in_ok-deprecated_directive.ensures,
  c.in_ok-specified_by_directive.ensures,
  append_assoc,
  append_assoc,
  append_assoc,
)
