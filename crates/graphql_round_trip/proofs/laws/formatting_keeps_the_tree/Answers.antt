use Rattle.graphql_round_trip.proofs.WholeLaws.{printed_once, spelled_again, spelled_selections_again}
use Rattle.graphql_round_trip.proofs.WholeLaws.{spelled_type_again, spelled_value_again}
use Rattle.graphql_round_trip.proofs.laws.formatting_keeps_the_tree.Goals as goal

pub returns : goal.returns
returns c = record {
  document = spelled_again;
  once = printed_once;
  selections = spelled_selections_again;
  type_reference = spelled_type_again;
  value = spelled_value_again;
}
