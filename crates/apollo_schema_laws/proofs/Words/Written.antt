-- Words of sections, and of what is written of them.
pub use Rattle.apollo_schema_laws.specs.Sections.{HasSameComponents, Sections, as_parts, in_sections, joined}
pub use Rattle.apollo_schema_laws.specs.Sections.{sections_of, with_origins}
pub use Rattle.apollo_schema_laws.specs.TypeSections.{HasEachNameOnce, HasWhatIsWritten, HaveDistinctNames}
pub use Rattle.apollo_schema_laws.specs.TypeSections.{is_keyed, name_of, name_with_origin, node_with_origin}
pub use Rattle.apollo_schema_laws.specs.TypeSections.{placed, type_sections}
pub use Rattle.apollo_schema_laws.specs.WrittenAgain.{IsMeantByList, with_built_ins, written_again}
