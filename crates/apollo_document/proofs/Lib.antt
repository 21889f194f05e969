mod AgainLemmas
pub mod BuiltLemmas
pub mod Equations
pub mod ErasedAgain
pub mod ErasureLemmas
pub mod ErrorEquality
pub mod LeafLemmas
mod ListLemmas
mod OperationLemmas
mod StandsLemmas
pub mod SyntaxInduction
pub mod TypingLemmas
mod WrittenLemmas
