pub mod Joining
pub mod Prefixes
