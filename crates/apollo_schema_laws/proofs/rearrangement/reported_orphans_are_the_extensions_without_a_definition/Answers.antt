use Rattle.apollo_schema_laws.proofs.Rearranged.Dropped.{no-orphans, no-schema_orphans, reported-orphans}
use Rattle.apollo_schema_laws.proofs.Rearranged.Dropped.{reported-schema_orphans}
use Rattle.apollo_schema_laws.proofs.rearrangement.reported_orphans_are_the_extensions_without_a_definition.Goals as goal

pub returns : goal.returns
returns c = search (reported-orphans, reported-schema_orphans, no-orphans, no-schema_orphans)
