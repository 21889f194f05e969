-- Words of the faults that are found in lists of definitions.
pub use Rattle.apollo_meaning.specs.Faults.Collisions.{Entry, collision, collision_at, collisions}
pub use Rattle.apollo_meaning.specs.Faults.ListFaults.{faults_in, faults_of}
pub use Rattle.apollo_meaning.specs.Faults.RootFaults.{root_fault, further_schema, root_faults, same_root}
pub use Rattle.apollo_meaning.specs.Faults.RootFaults.{schema_faults}
pub use Rattle.apollo_meaning.specs.Faults.TypeFaults.{dropped_from, entries_of, joining_fault, kind_mismatch}
pub use Rattle.apollo_meaning.specs.Faults.TypeFaults.{held_sort, names_in, part_faults}
pub use Rattle.apollo_meaning.specs.Steps.Joining.{schema_begun_faults, schema_joining_faults}
pub use Rattle.apollo_meaning.specs.Steps.Prefixes.{found, found_at}
