pub mod BareTypes
pub mod Components
pub mod SchemaDefinitionWriteOut
pub mod SchemaRoots
pub mod TypeKinds
pub mod TypeWriteOut
