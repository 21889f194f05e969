-- The words of a length are told apart by their own function.
use Rattle.std.proofs.Common.{◌∙◌}
use Rattle.graphql_grammar.specs.WordsOfText.{keywords}
use Rattle.graphql_grammar.proofs.KeywordLemmas.{in_length}
use Rattle.graphql_grammar.proofs.keywords.name_kind.Goals as goal

pub returns-in-4 : goal.returns-in-4
returns-in-4 c = c.kind_of_four.ensures ∙ in_length 4 keywords c.args.text.now c.in-4.is

pub returns-in-5 : goal.returns-in-5
returns-in-5 c = c.kind_of_five.ensures ∙ in_length 5 keywords c.args.text.now c.in-5.is

pub returns-in-6 : goal.returns-in-6
returns-in-6 c = c.kind_of_six.ensures ∙ in_length 6 keywords c.args.text.now c.in-6.is

pub returns-in-8 : goal.returns-in-8
returns-in-8 c = c.kind_of_eight.ensures ∙ in_length 8 keywords c.args.text.now c.in-8.is

pub returns-in-9 : goal.returns-in-9
returns-in-9 c = c.kind_of_nine.ensures ∙ in_length 9 keywords c.args.text.now c.in-9.is
