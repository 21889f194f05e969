-- The components of a type, those of its definition and of its extensions joined: GraphQL specification of
-- October 2021, section 3.4.3, and the type validation of sections 3.6 to 3.10.
use Rattle.std.specs.Prelude.{ℕ, Bool, List, [], map, ◌&&◌, nat_eq}
use Rattle.std.specs.List.{flat_map}
use Rattle.graphql_nodes.specs.NameView.{NameView}
use Rattle.apollo_component.specs.EachAfter.{each_after}
use Rattle.apollo_component.specs.FirstOfEach.{kept_for}
use Rattle.apollo_meaning.specs.Items.Parts.{TypePart}
use Rattle.apollo_meaning.specs.declared.collision.Collection.{Collection}
use Rattle.apollo_meaning.specs.Faults.Collisions.{Fault, Entry, collision, same_name}
use Rattle.apollo_meaning.specs.Faults.TypeFaults.{part_faults, collections_of, held_sort, entries_of}
use Rattle.apollo_meaning.specs.declared.collision.Collection.TheVariants as c

-- a component of a type: its collection, its name and location, and the type's name as the part has it where
-- it stands
pub record TypeComponent : Type 0 where
  -- what it is there, as a field of an interface type
  pub collection : Collection
  -- its name, and where it stands
  pub entry : Entry
  -- the name of the type, as its definition or extension writes it
  pub type_name : NameView

-- a component of this collection, in a part with this type name
abbrev pub component_in : Collection → NameView → Entry → TypeComponent
component_in c ty e = record { collection = c; entry = e; type_name = ty }

-- the components of a part, interfaces first
abbrev pub part_components : TypePart → List TypeComponent
part_components p =
    flat_map (λ c. map (component_in c p.name) (entries_of (held_sort c) p)) (collections_of p.kind)

-- the components of these parts, joined
abbrev pub components_of : List TypePart → List TypeComponent
components_of = flat_map part_components

-- a number for what a collection holds, whatever the kind of the type: interfaces or members, fields, values,
-- input fields
abbrev pub what_is_held : Collection → ℕ
what_is_held c.ObjectFields = 1
what_is_held c.InterfaceFields = 1
what_is_held c.EnumValues = 2
what_is_held c.InputFields = 3
what_is_held _ = 0

-- components are the same if both are interfaces, or both fields, and so on, and by the texts of their names
abbrev pub same_component : TypeComponent → TypeComponent → Bool
same_component a b = nat_eq (what_is_held a.collection) (what_is_held b.collection)
    && same_name a.entry b.entry

-- the fault of a component that is dropped where these are kept: at the component, with the name of the kept
-- one
abbrev pub dropped_from_type : List TypeComponent → TypeComponent → Fault
dropped_from_type kept e =
    (e.entry.1, collision e.collection (kept_for same_component kept e).entry.0 e.type_name)

-- the components that are dropped from parts of a type, where each joins those before it
abbrev pub joined_faults : List TypePart → List Fault
joined_faults = each_after part_faults []
