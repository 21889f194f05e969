use Rattle.leafcheck.proofs.PlacedLemmas.{placed-none, placed-joined, placed-field, placed-spread}
use Rattle.leafcheck.proofs.PlacedLemmas.{placed-inline}
use Rattle.leafcheck.proofs.PlacelessLemmas.{placeless}
use Rattle.leafcheck.proofs.laws.fields_with_places.Goals as goal

pub returns : goal.returns
returns c = search (placed-none, placed-field, placed-spread, placed-inline, placed-joined, placeless)
