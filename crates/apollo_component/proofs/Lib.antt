pub mod ComponentEquality
mod DrawnLemmas
pub mod FirstOfEachLemmas
pub mod LaterLemmas
pub mod Lists
pub mod Tabled
pub mod Walks
pub mod WriteOutLemmas
