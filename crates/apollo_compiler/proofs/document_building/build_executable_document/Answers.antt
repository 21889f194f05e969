use Rattle.std.proofs.Common.{ap, subst, ◌∙◌, arith}
use Rattle.apollo_document.specs.BuilderStands.{IsBuiltOf, with_document}
use Rattle.apollo_compiler.proofs.ListLemmas.{document_building_of-all, document_building_of-turn}
use Rattle.apollo_compiler.proofs.document_building.build_executable_document.Goals as goal

pub loop-document-preserved : goal.loop-document-preserved
loop-document-preserved c =
    let errors = c.args.options.type_system_definitions_are_errors in
    let i = c.loop-document.document-index in
    let d = c.document-item.result in
    c.in-Ok.ensures.added ∙ ap (with_document errors d) c.loop-document.invariant
    ∙ document_building_of-turn c.args.documents.now i d (omega arith) c.document-item.is
    c.args.schema.now errors

pub returns : goal.returns
returns c =
    let errors = c.args.options.type_system_definitions_are_errors in
    let i = c.loop-document.document-index in
    let all = document_building_of-all c.args.schema.now errors c.args.documents.now i (omega arith)
    c.loop-document.invariant in
    let built = c.in-Ok-build.built in
    let is = subst (λ b. IsBuiltOf b built.0 built.1.items) all c.in-Ok-build.ensures.built in
    record { means = is.means; sources = is.its_sources; faults = is.its_faults; memory = tt }
