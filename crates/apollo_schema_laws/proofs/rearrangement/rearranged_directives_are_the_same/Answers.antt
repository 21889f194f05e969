use Rattle.apollo_schema_laws.proofs.Subjects.{directive_of-agree}
use Rattle.apollo_schema_laws.proofs.rearrangement.rearranged_directives_are_the_same.Goals as goal
use Rattle.apollo_schema_laws.specs.Rearranged.{DirectiveDefinitionsOf}

pub returns : goal.returns
returns c = λ xs ys n r. directive_of-agree xs ys n (r.in_order (DirectiveDefinitionsOf n))
