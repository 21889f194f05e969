-- What a step of `implementers_map` does: GraphQL specification of October 2021, sections 3.6 and 3.7.
use Rattle.std.specs.Prelude.{Bool, true, false, List, [], unwrap_or, fold}
use Rattle.graphql_nodes.specs.KeySets.{insert_key}
use Rattle.graphql_nodes.specs.NameView.{NameView}
use Rattle.graphql_nodes.specs.SameText.{same_text}
use Rattle.graphql_nodes.specs.Tables.{lookup, insert_entry}
use Rattle.apollo_component.specs.declared.component.ComponentName.{ComponentName}
use Rattle.apollo_schema.specs.declared.implementers.Implementers.{Implementers}

-- no implementers: neither object types nor interface types
abbrev pub no_implementers : Implementers
no_implementers = record { objects = []; interfaces = [] }

-- the object types, or else the interface types, with one more name
abbrev pub with_implementer : Bool → NameView → Implementers → Implementers
with_implementer true name m = record m { objects = insert_key same_text m.objects name }
with_implementer false name m = record m { interfaces = insert_key same_text m.interfaces name }

-- the table with the name noted under one interface
abbrev pub noted : Bool → NameView → List (NameView × Implementers) → ComponentName
    → List (NameView × Implementers)
noted is_object name map i =
    insert_entry same_text map i.name
    (with_implementer is_object name (unwrap_or (lookup (same_text i.name) map) no_implementers))

-- the table with the name noted under several interfaces, one after another
abbrev pub noted_under : Bool → NameView → List (NameView × Implementers) → List ComponentName
    → List (NameView × Implementers)
noted_under is_object name map interfaces = fold (noted is_object name) map interfaces
