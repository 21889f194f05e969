pub mod CompletionLemmas
pub mod OrphanLemmas
