pub mod DocumentTextLaws
pub mod DocumentTexts
pub mod EqualDocuments
pub mod FilledSets
pub mod HandedIn
pub mod SchemaTextLaws
pub mod SchemaTexts
pub mod WellFormedLists
