use Rattle.apollo_meaning.proofs.Order.FoldingLemmas.{same_kind-refl, type_description-from, type_from-ignorable}
use Rattle.apollo_meaning.proofs.Order.FoldingLemmas.{type_kind-from, type_location-from, type_name-from}
use Rattle.apollo_meaning.proofs.laws.types_are_headed_by_their_definitions.Goals as goal

pub returns : goal.returns
returns c = record {
  kind = type_kind-from;
  own = same_kind-refl;
  description = type_description-from;
  name = type_name-from;
  location = type_location-from;
  ignorable = type_from-ignorable;
}
