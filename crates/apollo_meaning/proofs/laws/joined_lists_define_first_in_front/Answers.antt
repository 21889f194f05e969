use Rattle.apollo_meaning.proofs.Items.ItemLemmas.{first-append}
use Rattle.apollo_meaning.proofs.laws.joined_lists_define_first_in_front.Goals as goal

pub returns : goal.returns
returns c = first-append
