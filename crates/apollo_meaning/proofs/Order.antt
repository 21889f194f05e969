pub mod FoldedLemmas
pub mod FoldingLemmas
pub mod MomentLemmas
pub mod OnceLemmas
pub mod PlaceLemmas
