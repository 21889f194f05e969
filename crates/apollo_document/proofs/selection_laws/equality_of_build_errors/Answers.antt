use Rattle.apollo_document.proofs.ErrorEquality.{paths, build_errors}
use Rattle.apollo_document.proofs.selection_laws.equality_of_build_errors.Goals as goal

pub returns-clause-path : goal.returns-clause-path
returns-clause-path c = paths.at

pub returns-clause-build_error : goal.returns-clause-build_error
returns-clause-build_error c = build_errors.at
