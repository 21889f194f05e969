pub mod Definition
pub mod Whole
