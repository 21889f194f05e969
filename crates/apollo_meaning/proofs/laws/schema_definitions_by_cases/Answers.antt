use Rattle.std.proofs.Common.{◌∙◌, true, false}
use Rattle.apollo_meaning.proofs.Completion.CompletionLemmas.{first_schema-completed}
use Rattle.apollo_meaning.proofs.laws.schema_definitions_by_cases.Goals as goal

pub returns : goal.returns
returns c = record {
  written = λ adopts xs s is. first_schema-completed adopts xs ∙ rw is;
  named = λ xs r rs none is. first_schema-completed true xs ∙ rw (none, is);
  unnamed = λ xs none is. first_schema-completed true xs ∙ rw (none, is);
  implicit = λ xs r rs none is. first_schema-completed false xs ∙ rw (none, is);
  none = λ xs none is. first_schema-completed false xs ∙ rw (none, is);
}
