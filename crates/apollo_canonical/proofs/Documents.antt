-- Texts of typed documents, and their write-outs, read and built again.
pub mod Induction
pub mod TypedLevels
pub mod PlainSyntax
pub mod AlikeTypable
pub mod PlainSelections
pub mod PlainFaults
pub mod Seen
pub mod PlainKept
pub mod PlainErasure
pub mod PlainDocuments
pub mod PlainListFaults
pub mod FromTexts
pub mod FilledSyntax
pub mod KeptSelections
pub mod KeptDefinitions
pub mod FilledByParts
