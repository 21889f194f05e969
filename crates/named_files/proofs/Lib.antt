pub mod BeginLemmas
pub mod RowLemmas
pub mod StepLemmas
pub mod WalkLemmas
pub mod NamingLemmas
pub mod RefusalLemmas
