mod Prelude
mod Schemas
mod Documents
