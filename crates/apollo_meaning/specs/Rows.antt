pub mod BuiltInNames
pub mod DirectiveRows
pub mod FaultRows
pub mod SchemaRows
pub mod TypeRows
