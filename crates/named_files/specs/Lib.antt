pub mod Naming
pub mod Patterns
pub mod Refused
pub mod Rows
pub mod Seen
pub mod Walks
pub mod Wanted
