pub mod DirectiveEquality
pub mod DocumentEquality
pub mod SelectionEquality
pub mod TypeCompatibility
pub mod TypeEquality
pub mod TypeSystemEquality
pub mod ValueEquality
