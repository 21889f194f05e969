use Rattle.std.proofs.Common.{◌≡◌, ◌++◌, map}
use Rattle.apollo_executable.proofs.selection_set.collect.Given as goal

abbrev pub invariant-loop-field : goal.invariant-loop-field
invariant-loop-field l = map (λ field. field.now) l.fields.items ++ l.field-iterator.coming ≡ l.fn.walk.coming
