use Rattle.std.proofs.Common.{rules}
use Rattle.std.specs.Option.{option_copied}
use Rattle.apollo_document.proofs.StandsLemmas.{stands-further, stands-later, stands-anonymous}
use Rattle.apollo_document.proofs.tables.Tables.take_anonymous.Goals as goal

pub returns-in-Some : goal.returns-in-Some
returns-in-Some c = λ name errors xs was. stands-further (option_copied c.args.schema) xs errors
    c.args.node.now c.args.self.now _ name was _ c.in-Some.is (search rules)

pub returns-then-not-is_empty : goal.returns-then-not-is_empty
returns-then-not-is_empty c = λ name errors xs was. stands-later (option_copied c.args.schema) xs errors
    c.args.node.now c.args.self.now _ name was (search rules) (search rules) (search rules)

pub returns : goal.returns
returns c = λ name errors xs was. stands-anonymous (option_copied c.args.schema) xs errors c.args.node.now
    c.args.self.now _ name was (search rules) (search rules) (search rules)
