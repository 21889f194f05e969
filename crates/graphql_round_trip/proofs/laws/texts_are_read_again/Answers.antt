use Rattle.std.proofs.Common.{refl}
use Rattle.graphql_round_trip.proofs.WholeLaws.{by_text}
use Rattle.graphql_round_trip.proofs.TypedTexts.{type_prints}
use Rattle.graphql_round_trip.proofs.ValueTexts.{value_node_prints}
use Rattle.graphql_round_trip.proofs.WholeLaws.{document_read_again, selections_read_again}
use Rattle.graphql_round_trip.proofs.laws.texts_are_read_again.Goals as goal

pub returns-clause-document : goal.returns-clause-document
returns-clause-document c = document_read_again

pub returns-clause-selections : goal.returns-clause-selections
returns-clause-selections c = selections_read_again

pub returns-clause-type_reference : goal.returns-clause-type_reference
returns-clause-type_reference c = λ file depth allowed x formed fits enough. by_text x allowed
    (type_prints file depth x formed fits) refl enough

pub returns-clause-value : goal.returns-clause-value
returns-clause-value c = λ file constant depth allowed x formed fits enough. by_text x allowed
    (value_node_prints file constant depth x formed fits) refl enough
