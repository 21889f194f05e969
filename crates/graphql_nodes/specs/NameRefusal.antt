-- What an error of `Name::new` says: GraphQL specification of October 2021, section 2.1.9.
use Rattle.std.specs.Prelude.{◌≡◌, ℕ, List, None}
use Rattle.graphql_nodes.specs.NameSyntax.{IsName}
use Rattle.graphql_nodes.specs.declared.name.NameError.{NameError}
use Rattle.graphql_nodes.specs.declared.name.NameError.TheVariants.{Invalid, Memory}

-- the text is no name, and the error carries it without a location; that memory ran out says nothing
abbrev pub IsNameRefusal : List ℕ → NameError → Type 0
IsNameRefusal text (Invalid e) = (IsName text → ⊥) × (e ≡ record { name = text; location = None })
IsNameRefusal text Memory = Unit {0}
