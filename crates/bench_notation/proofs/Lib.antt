pub mod DepthWords
pub mod FoldedText
pub mod LineWords
pub mod NameWords
pub mod OpenLemmas
pub mod PieceWords
pub mod TypeWords
