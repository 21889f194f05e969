use Rattle.apollo_meaning.proofs.Prelude.{refl}
use Rattle.apollo_meaning.proofs.laws.extensions_around.Goals as goal

pub returns-clause-writes : goal.returns-clause-writes
returns-clause-writes c = refl
