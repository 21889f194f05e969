-- A coordinate of valid names is the only one of its text.
use Rattle.apollo_coordinate.proofs.TextLemmas.{apart, reads, said_in_grammar}
use Rattle.apollo_coordinate.proofs.laws.coordinates.Goals as goal

pub returns : goal.returns
returns c = record { read = reads; apart = apart; said = said_in_grammar }
