-- What was found wrong so far, with more behind it: GraphQL specification of October 2021, sections 2.2 to
-- 2.8.
use Rattle.std.specs.Prelude.{List, ◌++◌}
use Rattle.apollo_document.specs.Typable.{Fault}
use Rattle.apollo_document.specs.declared.elaborating.Elaboration.{Elaboration}
use Rattle.apollo_document.specs.declared.tables.Tables.{Tables}

-- an elaboration with these faults behind those noted so far
abbrev pub noting : List Fault → Elaboration → Elaboration
noting faults e = record e { faults = e.faults ++ faults }

-- tables with these faults behind those noted so far
abbrev pub tables_noting : List Fault → Tables → Tables
tables_noting faults t = record t { faults = t.faults ++ faults }
