use Rattle.std.proofs.Common.{◌≡◌, ◌++◌, map}
use Rattle.apollo_field_usage.specs.Left.{left_of}
use Rattle.apollo_field_usage.specs.Reached.{reached}
use Rattle.apollo_field_usage.specs.Seen.{seen}
use Rattle.apollo_field_usage.proofs.reached.reached_fields.Given as goal

-- what came and what is left are all that is reached
abbrev pub invariant-loop-innermost : goal.invariant-loop-innermost
invariant-loop-innermost l = map seen l.fields.items ++ (left_of l.sets).fields ≡ reached l.document l.set

abbrev pub decreases-loop-innermost : goal.decreases-loop-innermost
decreases-loop-innermost l = (left_of l.sets).turns
