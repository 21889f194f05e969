mod BlockBody
mod BlockCharacters
pub mod BlockLaws
mod BlockLines
mod BlockStay
mod BlockTestLaws
mod BlockValue
mod BlockWalks
mod EscapeLemmas
mod FoldedSelections
mod FoldedText
mod InsideLemmas
mod LineEnds
mod QuotedCharacters
pub mod QuotedLaws
mod RareLemmas
mod Runs
mod WidthLemmas
