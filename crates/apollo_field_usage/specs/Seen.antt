-- What a contract sees of fields and of open sets.
use Rattle.std.specs.Prelude.{List}
use Rattle.graphql_nodes.specs.NameView.{NameView}
use Rattle.apollo_executable.specs.declared.selection.Selection.{Selection}
use Rattle.apollo_field_usage.specs.Occurrences.{Occurrence}
use Rattle.apollo_field_usage.specs.declared.occurrence.FieldOccurrence.{FieldOccurrence}
use Rattle.apollo_field_usage.specs.declared.open_sets.OpenSet.{OpenSet}

-- a field where it stands
abbrev pub seen : FieldOccurrence → Occurrence
seen o = record { ty = o.ty.now; field = o.field.now }

-- a set: its type, and what is left of its selections
abbrev pub seen_set : OpenSet → NameView × List Selection
seen_set set = (set.ty.now, set.rest.now)
