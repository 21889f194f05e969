use Rattle.apollo_schema_laws.specs.WrittenAgain.{with_built_ins}
use Rattle.apollo_canonical.proofs.Schemas.WriteOut.{after_built_ins, written}
use Rattle.apollo_canonical.proofs.well_formed.a_write_out_is_well_formed.Goals as goal

pub returns-clause-of_any_list : goal.returns-clause-of_any_list
returns-clause-of_any_list c = written c.folded_extensions.ensures c.folded_schema_extensions.ensures

pub returns-clause-after_built_ins : goal.returns-clause-after_built_ins
returns-clause-after_built_ins c = λ start adopts more schema means a. written c.folded_extensions.ensures
    c.folded_schema_extensions.ensures start adopts (with_built_ins more) schema means
    (after_built_ins more a)
