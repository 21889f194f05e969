-- Selections, kind by kind: what is read of them, and what holds of all of them.
pub mod Induction
pub mod ReadLemmas
