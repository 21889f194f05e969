use Rattle.std.proofs.Common.{◌∙◌}
use Rattle.apollo_schema.proofs.Ends.OrphanNameLemmas.{names_held-Stands}
use Rattle.apollo_schema.proofs.tables.Tables.orphan_names.Goals as goal

pub returns : goal.returns
returns c = λ start xs was. c.of.ensures ∙ names_held-Stands was
