-- Untyped selections, kind by kind.
pub use Rattle.apollo_document.proofs.SyntaxInduction.{Layer, field, spread, inline, of_selections}
