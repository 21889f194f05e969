pub mod AsBox
pub mod CallLemmas
pub mod FileLemmas
pub mod Values
