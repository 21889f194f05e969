pub mod NameLemmas
pub mod TypeLemmas
pub mod WholeTypeLemmas
