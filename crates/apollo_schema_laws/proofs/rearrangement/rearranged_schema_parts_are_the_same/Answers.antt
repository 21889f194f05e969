use Rattle.apollo_schema_laws.proofs.Rearranged.Found.{first_schema-rearranged, schema_extensions-rearranged}
use Rattle.apollo_schema_laws.proofs.rearrangement.rearranged_schema_parts_are_the_same.Goals as goal

pub returns : goal.returns
returns c = record { definition = first_schema-rearranged; extensions = schema_extensions-rearranged }
