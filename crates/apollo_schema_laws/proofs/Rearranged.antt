pub mod Bare
pub mod Dropped
pub mod Found
pub mod Regrouped
pub mod Sorts
pub mod Types
pub mod Words
