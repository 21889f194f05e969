use Rattle.apollo_canonical.proofs.Schemas.BuiltIn.{built_in}
use Rattle.apollo_canonical.proofs.well_formed.built_in_definitions_are_well_formed.Goals as goal

pub returns : goal.returns
returns c = built_in
