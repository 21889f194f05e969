use Rattle.apollo_meaning.proofs.Prelude.{types, schemas}
use Rattle.apollo_meaning.proofs.Order.OnceLemmas.{each-met-once}
use Rattle.apollo_meaning.proofs.laws.each_extension_is_met_once.Goals as goal

pub returns : goal.returns
returns c = record { types = each-met-once types; schemas = each-met-once schemas }
