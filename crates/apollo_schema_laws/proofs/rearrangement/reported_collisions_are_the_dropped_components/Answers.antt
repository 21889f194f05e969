use Rattle.std.proofs.Common.{refl}
use Rattle.apollo_schema_laws.specs.Reported.{RepeatedComponent}
use Rattle.apollo_schema_laws.proofs.Rearranged.Sorts.{no-type, reported-components}
use Rattle.apollo_schema_laws.proofs.rearrangement.reported_collisions_are_the_dropped_components.Goals as goal

pub returns : goal.returns
returns c = record {
  dropped = reported-components;
  none = λ adopts xs n. no-type (RepeatedComponent n) refl adopts xs n refl;
}
