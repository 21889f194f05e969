use Rattle.apollo_meaning.proofs.ErrorEquality.{build_errors}
use Rattle.apollo_meaning.proofs.laws.equality_of_build_errors.Goals as goal

pub returns : goal.returns
returns c = build_errors.at
