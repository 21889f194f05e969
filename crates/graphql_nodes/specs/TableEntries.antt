-- What a table holds, as the list of its entries.
use Rattle.std.specs.Prelude.{List}
use Rattle.graphql_nodes.specs.declared.collections.table.held.Held.{Held}
use Rattle.graphql_nodes.specs.declared.collections.table.held.Held.TheVariants.{Few, Many}

-- the entries, few or many
abbrev pub entries_held : {K V : Type 0} → Held K V → List (K × V)
entries_held (Few few keys) = few
entries_held (Many map) = map.value.entries
