use Rattle.std.proofs.Common.{refl}
use Rattle.apollo_schema_laws.specs.Reported.{OtherKind}
use Rattle.apollo_schema_laws.proofs.Rearranged.Sorts.{no-type, reported-others}
use Rattle.apollo_schema_laws.proofs.rearrangement.reported_mismatches_are_the_extensions_of_another_kind.Goals as goal

pub returns : goal.returns
returns c = record {
  dropped = reported-others;
  none = λ adopts xs n. no-type (OtherKind n) refl adopts xs n refl;
}
