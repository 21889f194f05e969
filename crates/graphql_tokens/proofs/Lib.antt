pub mod CommentLemmas
mod AloneLemmas
mod CutLemmas
mod EndLemmas
pub mod FirstLemmas
mod HexLemmas
mod LineLemmas
mod PieceLemmas
mod RunLemmas
mod SaidLemmas
mod StringLemmas
mod TokenLemmas
mod WholeLemmas
