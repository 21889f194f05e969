use Rattle.std.proofs.Common.{◌≡◌, ◌+◌, take, drop, Err, sym, ap, subst, ◌∙◌, arith}
use Rattle.std.proofs.lemmas.List.{take-append-drop}
use Rattle.apollo_meaning.specs.Order.SpentIds.{SpendsIdsSoFar, SpendsIds}
use Rattle.apollo_folding.specs.declared.builder_error.BuilderError.TheVariants as refusals
use Rattle.apollo_schema.specs.BuilderStands.{SpendsAtBuild, SpendsSoFar, with_document}
use Rattle.apollo_schema.specs.Built.{IsBuiltOf, IsFoundIn}
use Rattle.apollo_schema.specs.declared.build_failure.BuildFailure.TheVariants as builds
use Rattle.apollo_compiler.specs.Lists.{handed_in, schema_list}
use Rattle.apollo_compiler.proofs.ListLemmas.{building_of-all, building_of-turn, schema_list-append}
use Rattle.apollo_compiler.proofs.building.build_prepared.Goals as goal

pub loop-document-preserved : goal.loop-document-preserved
loop-document-preserved c =
    let d = c.document-item.result in
    c.in-Ok.ensures.added ∙ ap (with_document d) c.loop-document.invariant
    ∙ building_of-turn c.args.documents.now c.loop-document.document-index d (omega arith) c.document-item.is
    c.args.options

pub returns-in-Ok-build : goal.returns-in-Ok-build
returns-in-Ok-build c =
    let i = c.loop-document.document-index in
    let all = building_of-all c.args.options c.args.documents.now i (omega arith) c.loop-document.invariant in
    let is = subst (λ b. IsBuiltOf b c.in-Ok-build.schema) all c.in-Ok-build.ensures.built in
    record {
      built = record {
        means = is.means;
        sources = is.its_sources;
        faults = c.new.ensures.items ∙ sym is.faultless;
      };
      spent = λ e. cc;
    }

pub returns-in-Err-Faults : goal.returns-in-Err-Faults
returns-in-Err-Faults c =
    let i = c.loop-document.document-index in
    let all = building_of-all c.args.options c.args.documents.now i (omega arith) c.loop-document.invariant in
    let found = c.in-Err-Faults.built in
    let is = subst (λ b. IsFoundIn b found.partial found.errors.items) all
    (rw c.in-Err-Faults.field-0-is at c.in-Err-Faults.ensures.faults) in
    rw c.in-Err-Faults.field-0-is
    (record {
      built = record { means = is.0; sources = is.1.1; faults = is.1.0.0 };
      spent = λ e. cc;
    })

-- what one document's definitions spend, all that are added spend
pub returns-in-Err-ExtensionIds-clause-spent : goal.returns-in-Err-ExtensionIds-clause-spent
returns-in-Err-ExtensionIds-clause-spent c = λ spent.
    let o = c.args.options in
    let ds = c.args.documents.now in
    let i = c.loop-document.document-index in
    let d = c.document-item.result in
    let refused : c.add_ast.result ≡ Err refusals.ExtensionIds = cc in
    let so_far : SpendsIdsSoFar 0 (schema_list o (take (i + 1) ds)) =
    subst SpendsSoFar
    (ap (with_document d) c.loop-document.invariant
    ∙ building_of-turn ds i d (omega arith) c.document-item.is o)
    (c.add_ast.ensures.spent refused) in
    subst (SpendsIds 0 o.adopt_orphan_extensions)
    (sym (schema_list-append o (take (i + 1) ds) (drop (i + 1) ds))
    ∙ ap (schema_list o) (take-append-drop (i + 1) ds))
    (c.a_longer_list_folds_no_less.ensures.spends 0 o.adopt_orphan_extensions
    (schema_list o (take (i + 1) ds)) (handed_in o (drop (i + 1) ds)) so_far)

pub returns-in-Err-ExtensionIds-build-clause-spent : goal.returns-in-Err-ExtensionIds-build-clause-spent
returns-in-Err-ExtensionIds-build-clause-spent c = λ spent.
    let i = c.loop-document.document-index in
    let all = building_of-all c.args.options c.args.documents.now i (omega arith) c.loop-document.invariant in
    let refused : c.build.result ≡ Err builds.ExtensionIds = cc in
    subst SpendsAtBuild all (c.build.ensures.spent refused)
