pub mod Completion
pub mod ErrorEquality
pub mod Faults
pub mod Items
pub mod Order
pub mod Schema
pub mod Types
pub mod Prelude
