-- What a form refuses is outside it.
use Rattle.apollo_coordinate.proofs.GrammarLemmas.{no_attribute, no_field_argument, no_directive}
use Rattle.apollo_coordinate.proofs.GrammarLemmas.{no_directive_argument}
use Rattle.apollo_coordinate.proofs.laws.refused_texts.Goals as goal

pub returns : goal.returns
returns c = record {
  ty = λ t e none. none.0;
  attribute = no_attribute;
  field_argument = no_field_argument;
  directive = no_directive;
  directive_argument = no_directive_argument;
}
