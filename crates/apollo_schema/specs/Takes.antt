-- What a step of a builder does, for each list that its tables stand for: GraphQL specification of October
-- 2021, section 3.
use Rattle.std.specs.Prelude.{ℕ, Bool, ◌+◌, ◌^◌, ◌≤◌, List, [], ◌++◌, length, map, Some}
use Rattle.apollo_component.specs.Extensions.{next_number}
use Rattle.apollo_schema.specs.declared.tables.Tables.{Tables}
use Rattle.apollo_schema.specs.Stands.{Stands, Completes}
use Rattle.apollo_meaning.specs.Items.Parts.{SchemaPart, schema_extension_part}
use Rattle.apollo_meaning.specs.Items.ListItems.{ListItem, Added, added_items}
use Rattle.apollo_meaning.specs.Steps.Joining.{schema_begun, schema_begun_faults}
use Rattle.apollo_meaning.specs.Steps.Prefixes.{folded}
use Rattle.apollo_folding.specs.Noting.{having_folded}

-- the tables of a list are those of another list after the step
abbrev pub Becomes : Tables → (List ListItem → List ListItem) → Tables → Type 0
Becomes old another new = (start : ℕ) (xs : List ListItem) → Stands start xs old
    → Stands start (another xs) new

-- the numbers don't suffice for the list after the step
abbrev pub SpentOn : Tables → (List ListItem → List ListItem) → Type 0
SpentOn old another = (start : ℕ) (xs : List ListItem) → Stands start xs old
    → 2 ^ 64 ≤ start + length (folded (another xs))

-- the tables take these items at the end of their list
abbrev pub Takes : Tables → List ListItem → Tables → Type 0
Takes old items new = Becomes old (λ xs. xs ++ items) new

-- the numbers don't suffice for the list with these items at its end
abbrev pub SpentBy : Tables → List ListItem → Type 0
SpentBy old items = SpentOn old (λ xs. xs ++ items)

-- P holds of each list that the tables stand for
abbrev pub ForLists : Tables → (ℕ → List Added → Type 0) → Type 0
ForLists t P = (start : ℕ) (xs : List Added) → Stands start (added_items xs) t → P start xs

-- P holds of each list whose completed form the tables hold
abbrev pub ForCompleted : Tables → (ℕ → Bool → List Added → Type 0) → Type 0
ForCompleted t P = (start : ℕ) (adopts : Bool) (xs : List Added) → Completes start adopts (added_items xs) t
    → P start adopts xs

-- the tables with this definition of the schema, and the extensions that waited for it folded in
abbrev pub with_schema : Tables → SchemaPart → Tables
with_schema t s = record t {
  schema_definition =
      Some (schema_begun (next_number t.fold.ids) s (map schema_extension_part t.schema_extensions));
  schema_extensions = [];
  fold = having_folded (length t.schema_extensions)
      (schema_begun_faults s (map schema_extension_part t.schema_extensions)) t.fold;
}
