pub mod ListItems
pub mod Named
pub mod Parts
