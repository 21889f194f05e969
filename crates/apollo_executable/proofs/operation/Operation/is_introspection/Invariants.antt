use Rattle.std.proofs.Common.{length}
use Rattle.apollo_executable.proofs.Walking.IntrospectionLemmas.{HasGivenMeta}
use Rattle.apollo_executable.proofs.operation.Operation.is_introspection.Given as goal

abbrev pub invariant-loop-field : goal.invariant-loop-field
invariant-loop-field l = HasGivenMeta l.initial.walk l.walk

abbrev pub decreases-loop-field : goal.decreases-loop-field
decreases-loop-field l = length l.walk.coming
