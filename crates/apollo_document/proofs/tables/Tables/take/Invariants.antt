use Rattle.std.proofs.Common.{List, ◌++◌, take}
use Rattle.std.specs.Option.{option_copied}
use Rattle.apollo_document.specs.AddedDefinitions.{DocumentItem, document_list}
use Rattle.apollo_document.specs.Stands.{Stands}
use Rattle.apollo_document.proofs.tables.Tables.take.Given as goal

abbrev pub invariant-loop-definition : goal.invariant-loop-definition
invariant-loop-definition l = (xs : List DocumentItem) → Stands (option_copied l.schema) xs l.fn.self
    → Stands (option_copied l.schema) (xs ++ document_list l.type_system_definitions_are_errors
    (take l.definition-index l.definitions)) l.self
