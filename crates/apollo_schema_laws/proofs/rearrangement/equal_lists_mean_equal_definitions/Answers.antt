use Rattle.apollo_schema_laws.proofs.Rearranged.Bare.{directives-alike}
use Rattle.apollo_schema_laws.proofs.Rearranged.Types.{schema-alike, types-alike}
use Rattle.apollo_schema_laws.proofs.rearrangement.equal_lists_mean_equal_definitions.Goals as goal

pub returns : goal.returns
returns c = record {
  types = types-alike c.folded_extensions.ensures;
  definition = schema-alike c.folded_schema_extensions.ensures;
  directives = directives-alike;
}
