-- What says a coordinate is in the grammar.
use Rattle.apollo_coordinate.specs.Parts.{coordinate_of}
use Rattle.apollo_coordinate.proofs.TextLemmas.{said_in_grammar}
use Rattle.apollo_coordinate.proofs.text_parts.Parts.read.Goals as goal

pub returns-in-Ok-clause-grammar : goal.returns-in-Ok-clause-grammar
returns-in-Ok-clause-grammar c = said_in_grammar c.args.text.now (coordinate_of c.in-Ok.parts)
    c.in-Ok.ensures.says
