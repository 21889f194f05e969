pub mod CommandLemmas
pub mod ReadingLemmas
pub mod ValueLemmas
