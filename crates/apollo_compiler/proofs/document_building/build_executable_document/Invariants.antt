use Rattle.std.proofs.Common.{◌≡◌, take}
use Rattle.apollo_compiler.specs.Lists.{document_building_of}
use Rattle.apollo_compiler.proofs.document_building.build_executable_document.Given as goal

abbrev pub invariant-loop-document : goal.invariant-loop-document
invariant-loop-document l =
    let errors = l.fn.options.type_system_definitions_are_errors in
    l.builder ≡ document_building_of l.schema errors (take l.document-index l.documents)
