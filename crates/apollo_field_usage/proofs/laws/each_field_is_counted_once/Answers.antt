use Rattle.apollo_field_usage.proofs.UsageLemmas.{usages-apart, usages-some, usages-whole}
use Rattle.apollo_field_usage.proofs.laws.each_field_is_counted_once.Goals as goal

pub returns : goal.returns
returns c = record { apart = usages-apart; some = usages-some; all = usages-whole }
