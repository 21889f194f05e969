pub mod ItemLemmas
pub mod PartLemmas
