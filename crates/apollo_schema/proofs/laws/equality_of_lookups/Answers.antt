use Rattle.apollo_schema.proofs.LookupEquality as equality
use Rattle.apollo_schema.proofs.laws.equality_of_lookups.Goals as goal

pub returns : goal.returns
returns c = record {
  implementers = equality.implementers.at;
  implementers_map = equality.implementers_maps.at;
  field_lookup_error = equality.field_lookup_errors.at;
}
