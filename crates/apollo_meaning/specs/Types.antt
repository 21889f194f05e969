pub mod Components
pub mod Meaning
