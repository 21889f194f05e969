use Rattle.apollo_schema.proofs.laws.implementers_in_a_schema.Goals as goal

-- the table's length is that of entries with unique keys
pub returns : goal.returns
returns c = c.implementers.ensures c.args.schema.now.types c.len-count.ensures.unique
