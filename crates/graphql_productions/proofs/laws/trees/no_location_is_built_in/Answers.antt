-- Each location names the file.
use Rattle.std.proofs.lemmas.Bool.{ne_eqb}
use Rattle.graphql_productions.proofs.DocumentLaws.{as_spelled}
use Rattle.graphql_productions.proofs.PartsOfDefinitions.{document_covers}
use Rattle.graphql_productions.proofs.PartsOfSelections.{selections_cover}
use Rattle.graphql_productions.proofs.PartsOfValues.{type_covers, value_node_covers}
use Rattle.graphql_productions.proofs.PlaceLaws.{elsewhere}
use Rattle.graphql_productions.proofs.laws.trees.no_location_is_built_in.Goals as goal

pub returns-clause-document : goal.returns-clause-document
returns-clause-document c = λ file depth words x other h. document_covers
    (elsewhere file (ne_eqb file.0 0 other)) depth x words tt (as_spelled file depth x words h)

pub returns-clause-selections : goal.returns-clause-selections
returns-clause-selections c = λ file depth words x other h. selections_cover
    (elsewhere file (ne_eqb file.0 0 other)) depth x words tt h

pub returns-clause-type_reference : goal.returns-clause-type_reference
returns-clause-type_reference c =
    λ file depth words x other h. type_covers (elsewhere file (ne_eqb file.0 0 other)) depth x words tt h

pub returns-clause-value : goal.returns-clause-value
returns-clause-value c = λ file constant depth words x other h. value_node_covers
    (elsewhere file (ne_eqb file.0 0 other)) constant depth x words tt h
