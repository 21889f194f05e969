mod Definitions
mod Items
pub mod Rearranged
mod Rebuild
mod Sections
pub mod Subjects
pub mod Types
mod Words
