-- Below which fields a build dropped selections: GraphQL specification of October 2021, sections 2.4 to 2.8.
use Rattle.std.specs.Prelude.{Bool}
use Rattle.std.specs.List.{list_any}
use Rattle.apollo_document.specs.declared.selection_path.SelectionPath.{SelectionPath}
use Rattle.leafcheck.specs.LostPlaces.{path_at}
use Rattle.leafcheck.specs.PathOrder.{begins_with}
use Rattle.leafcheck.specs.declared.lost_selections.LostSelections as declared
use Rattle.leafcheck.specs.declared.places.Place.{Place}

-- whether one of the places at which selections were dropped is in the field of this path, or further below
abbrev pub is_lost : declared.LostSelections → SelectionPath → Bool
is_lost lost path = list_any (λ (place : Place). begins_with (path_at place) path) lost.places.items
