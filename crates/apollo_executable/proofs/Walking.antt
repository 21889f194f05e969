pub mod CallLemmas
pub mod FlagLemmas
pub mod IntrospectionLemmas
pub mod NextLemmas
pub mod PlainLemmas
pub mod ReadingLemmas
pub mod WalkLemmas
