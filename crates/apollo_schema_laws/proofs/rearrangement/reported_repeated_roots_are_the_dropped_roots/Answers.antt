use Rattle.apollo_schema_laws.proofs.Rearranged.Sorts.{no-roots, reported-roots}
use Rattle.apollo_schema_laws.proofs.rearrangement.reported_repeated_roots_are_the_dropped_roots.Goals as goal

pub returns : goal.returns
returns c = record { dropped = reported-roots; none = no-roots }
