-- A text without a rare byte has no such character.
use Rattle.std.proofs.Common.{sym, ◌∙◌}
use Rattle.graphql_printing.proofs.RareLemmas.{none_rare}
use Rattle.graphql_printing.proofs.descriptions.has_unprintable.Goals as goal

pub returns-else-has_rare : goal.returns-else-has_rare
returns-else-has_rare c = c.if-has_rare.false ∙ sym (none_rare c.args.text.now (sym c.has_rare.ensures
    ∙ c.if-has_rare.false))
