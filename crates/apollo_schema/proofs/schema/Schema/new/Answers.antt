use Rattle.apollo_meaning.proofs.Prelude.{◌≡◌, subst}
use Rattle.apollo_schema.specs.BuilderStands.{Building, sources_of}
use Rattle.apollo_schema.specs.Built.{IsMeant}
use Rattle.apollo_schema.proofs.BuiltInLemmas.{only-memory}
use Rattle.apollo_schema.proofs.schema.Schema.new.Goals as goal

pub returns-in-Ok-clause-means : goal.returns-in-Ok-clause-means
returns-in-Ok-clause-means c = subst (λ (b : Building). IsMeant b c.in-Ok.schema) c.in_ok-new.ensures
    c.in-Ok.ensures.built.means

pub returns-in-Ok-clause-sources : goal.returns-in-Ok-clause-sources
returns-in-Ok-clause-sources c = subst (λ (b : Building). c.in-Ok.schema.sources ≡ sources_of b)
    c.in_ok-new.ensures c.in-Ok.ensures.built.its_sources

pub unreachable-requires : goal.unreachable-requires
unreachable-requires c =
    let only = only-memory c.in_ok-new.field-0 c.build.result c.in_ok-new.ensures c.build.ensures.faults
    c.build.ensures.spent c.build.ensures.failed.1 _ c.in-Err-Faults.is in cc

pub unreachable-requires-in-Err-ExtensionIds : goal.unreachable-requires-in-Err-ExtensionIds
unreachable-requires-in-Err-ExtensionIds c =
    let only = only-memory c.in_ok-new.field-0 c.build.result c.in_ok-new.ensures c.build.ensures.faults
    c.build.ensures.spent c.build.ensures.failed.1 _ c.in-Err-ExtensionIds.is in cc

pub unreachable-requires-in-Err-Failed : goal.unreachable-requires-in-Err-Failed
unreachable-requires-in-Err-Failed c =
    let only = only-memory c.in_ok-new.field-0 c.build.result c.in_ok-new.ensures c.build.ensures.faults
    c.build.ensures.spent c.build.ensures.failed.1 _ c.in-Err-Failed.is in cc
