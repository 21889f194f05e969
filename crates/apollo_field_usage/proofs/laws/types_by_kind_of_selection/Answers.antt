use Rattle.apollo_field_usage.proofs.FragmentLemmas.{fragment-of}
use Rattle.apollo_field_usage.proofs.PlacedLemmas.{placed-none, placed-field, placed-spread, placed-inline}
use Rattle.apollo_field_usage.proofs.laws.types_by_kind_of_selection.Goals as goal

pub returns : goal.returns
returns c = search (placed-none, placed-field, placed-spread, placed-inline, fragment-of)
