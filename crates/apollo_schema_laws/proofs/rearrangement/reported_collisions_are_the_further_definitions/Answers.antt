use Rattle.apollo_schema_laws.proofs.Rearranged.Dropped.{reported-further_directives}
use Rattle.apollo_schema_laws.proofs.Rearranged.Dropped.{reported-further_schemas, reported-further_types}
use Rattle.apollo_schema_laws.proofs.rearrangement.reported_collisions_are_the_further_definitions.Goals as goal

pub returns : goal.returns
returns c = record {
  schemas = reported-further_schemas;
  directives = reported-further_directives;
  types = reported-further_types;
}
