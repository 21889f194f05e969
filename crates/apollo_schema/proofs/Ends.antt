pub mod EndLemmas
pub mod OrphanNameLemmas
pub mod OutcomeLemmas
