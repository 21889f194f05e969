-- There is no `:`, or something else than `)` follows the first.
use Rattle.apollo_coordinate.proofs.GrammarLemmas.{no_colon, other_end}
use Rattle.apollo_coordinate.proofs.text_parts.argument_part.Goals as goal

pub returns-in_default-clause-refused : goal.returns-in_default-clause-refused
returns-in_default-clause-refused c = no_colon c.args.text.now c.in_default.ensures

pub returns-then-ne-clause-refused : goal.returns-then-ne-clause-refused
returns-then-ne-clause-refused c = other_end c.args.text.now c.in-Some.argument.now c.in-Some.rest.now
    c.in-Some.ensures c.if-ne.ensures
