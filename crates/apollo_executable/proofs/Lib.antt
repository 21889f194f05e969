pub mod DocumentEquality
pub mod Erasing
mod RequestLemmas
pub mod SelectionEquality
pub mod Selections
pub mod Walking
