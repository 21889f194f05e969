-- The fields that a set reaches, with the types of their sets: GraphQL specification of October 2021,
-- sections 2.4 to 2.8.
use Rattle.std.specs.Prelude.{List}
use Rattle.apollo_walks.specs.Selections.{no_names}
use Rattle.apollo_walks.proofs.Existence.{ordered}
use Rattle.apollo_executable.specs.declared.document.ExecutableDocument.{ExecutableDocument}
use Rattle.apollo_executable.specs.declared.selection.SelectionSet.{SelectionSet}
use Rattle.apollo_field_usage.specs.Occurrences.{Occurrence}
use Rattle.apollo_field_usage.specs.Placed.{placed_set, placed_fragments}

-- those that a walk for which no fragment is opened gives, in its order
unfoldable pub reached : ExecutableDocument → SelectionSet → List Occurrence
reached document set = (ordered (placed_fragments document) no_names (placed_set set)).fields
