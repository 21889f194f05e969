-- What a step of a builder of documents does, for each list that its tables stand for. GraphQL specification
-- of October 2021, section 2.2.
use Rattle.std.specs.Prelude.{List, [], ◌∷◌, ◌++◌, Option}
use Rattle.apollo_schema.specs.declared.schema.Schema.{Schema}
use Rattle.apollo_document.specs.AddedDefinitions.{DocumentItem}
use Rattle.apollo_document.specs.Stands.{Stands}
use Rattle.apollo_document.specs.declared.tables.Tables.{Tables}

-- the tables take this definition at the end of their list
abbrev pub TakesDefinition : Option Schema → DocumentItem → Tables → Tables → Type 0
TakesDefinition s x old new = (xs : List DocumentItem) → Stands s xs old → Stands s (xs ++ x ∷ []) new
