mod Boundaries
mod JsonLemmas
mod SaidLemmas
mod SourceLemmas
mod SpacedLemmas
mod VisibleLemmas
