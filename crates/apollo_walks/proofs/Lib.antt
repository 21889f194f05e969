pub mod Existence
pub mod Names
pub mod Once
pub mod Orders
pub mod Reached
pub mod Steps
pub mod Whole
