pub mod Answers
pub mod Buffers
pub mod Calls
pub mod Files
pub mod Flags
pub mod Kept
pub mod Owned
