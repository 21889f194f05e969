pub mod DroppedLemmas
pub mod FoundLemmas
pub mod KeptLemmas
