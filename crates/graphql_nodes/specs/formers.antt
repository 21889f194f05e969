pub mod collections
pub mod node
