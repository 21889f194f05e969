use Rattle.std.proofs.Common.{◌≡◌, Bool, true, false, cond, [], refl, sym, ap, ◌∙◌}
use Rattle.apollo_schema.specs.BuilderStands.{Building, Open, building_from}
use Rattle.apollo_compiler.specs.Lists.{building_of}
use Rattle.apollo_compiler.specs.declared.compile_options.CompileOptions.{CompileOptions}
use Rattle.apollo_compiler.proofs.ListLemmas.{schema_list-nil}
use Rattle.apollo_compiler.proofs.prepared.Prepared.begin.Goals as goal

set : (b : Bool) → cond b true false ≡ b
set true = refl
set false = refl

-- a new builder with both options
abbrev with_options : CompileOptions → Building → Building
with_options o b = record b {
  adopts = cond o.adopt_orphan_extensions true b.adopts;
  ignores = cond o.ignore_builtin_redefinitions true b.ignores;
}

optioned : (o : CompileOptions) → with_options o (building_from 0) ≡ building_of o []
optioned o i = record {
  start = 0;
  adopts = set o.adopt_orphan_extensions i;
  ignores = set o.ignore_builtin_redefinitions i;
  standing = Open (sym (schema_list-nil o) i) [];
}

pub returns : goal.returns
returns c =
    c.with_ignoring.ensures
    ∙ ap (λ (b : Building). record b {
      ignores = cond c.args.options.ignore_builtin_redefinitions true b.ignores;
    })
    c.with_adoption-builder.ensures
    ∙ ap (with_options c.args.options) (c.in_ok-bare.ensures.cases ∙ c.self.invariant)
    ∙ optioned c.args.options
