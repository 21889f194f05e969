pub mod Adoption
pub mod ImpliedSchema
pub mod OrphanNames
