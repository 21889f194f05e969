-- The last byte is asked.
use Rattle.std.proofs.Common.{sym, ◌∙◌}
use Rattle.graphql_printing.specs.Descriptions.{is_mark}
use Rattle.graphql_printing.proofs.BlockWalks.{ends_last}
use Rattle.graphql_printing.proofs.descriptions.ends_in_mark.Goals as goal

pub returns-in-len1-up : goal.returns-in-len1-up
returns-in-len1-up c = c.is_mark.ensures ∙ sym (ends_last is_mark c.args.text.now c.in-len1-up.len_at_least)
