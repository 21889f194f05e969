use Rattle.std.proofs.Common.{◌≡◌, take}
use Rattle.apollo_compiler.specs.Lists.{building_of}
use Rattle.apollo_compiler.proofs.building.build_prepared.Given as goal

abbrev pub invariant-loop-document : goal.invariant-loop-document
invariant-loop-document l = l.builder ≡ building_of l.fn.options (take l.document-index l.documents)
