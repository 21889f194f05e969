pub mod BuilderLemmas
pub mod BuiltInLemmas
pub mod CloneLemmas
pub mod Ends
pub mod EveryMeaning
pub mod ImplementerLemmas
pub mod LookupEquality
mod OneMeaning
pub mod SchemaEquality
pub mod Stands
pub mod SubtypeLemmas
