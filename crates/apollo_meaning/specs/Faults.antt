pub mod BareErrors
pub mod Collisions
pub mod ListFaults
pub mod OtherFaults
pub mod RootFaults
pub mod TypeComponents
pub mod TypeFaults
