pub mod Entries
pub mod Files
pub mod Replaced
pub mod Status
pub mod Writing
