pub mod EntryLemmas
pub mod ReplacedLemmas
pub mod WritingLemmas
