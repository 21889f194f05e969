use Rattle.std.proofs.Common.{◌≡◌, ◌++◌, map, take}
use Rattle.apollo_meaning.specs.BuiltInRows.{row_definition}
use Rattle.apollo_meaning.proofs.built_in_nodes.add_definitions.Given as goal

abbrev pub invariant-loop-row : goal.invariant-loop-row
invariant-loop-row l = l.definitions ≡ l.fn.definitions ++ map row_definition (take l.row-index l.rows)
