-- Where the parts of a tree stand: GraphQL specification of October 2021, section 2.1.
use Rattle.std.specs.Prelude.{◌≡◌, ◌≤◌, ℕ, false, List, Option, None, Some}
use Rattle.std.specs.List.{AllByRecursion}
use Rattle.graphql_nodes.specs.BuiltIn.{is_built_in}
use Rattle.graphql_nodes.specs.declared.source.FileId.{FileId}
use Rattle.graphql_nodes.specs.declared.source.SourceSpan.{SourceSpan}
use Rattle.graphql_productions.specs.TreeParts.{Description, EnumName, Float, FragmentName, Int, Name, Node}
use Rattle.graphql_productions.specs.TreeParts.{TreePart, Variable, Wanted}

-- what is asked of each location of nodes, names and descriptions
abbrev pub asks_location : (Option SourceSpan → Type 0) → TreePart → Type 0
asks_location Asked (Node at) = Asked at
asks_location Asked (Name n) = Asked n.location
asks_location Asked (FragmentName n) = Asked n.location
asks_location Asked (EnumName n) = Asked n.location
asks_location Asked (Variable constant n) = Asked n.location
asks_location Asked (Description n) = Asked n.location
asks_location Asked (Int text) = Unit {0}
asks_location Asked (Float text) = Unit {0}
asks_location Asked (Wanted there) = Unit {0}

-- there is a location, in this file and between these bytes
abbrev pub LiesAt : FileId → ℕ → ℕ → Option SourceSpan → Type 0
LiesAt file from to None = ⊥
LiesAt file from to (Some span) = (span.file ≡ file) × (from ≤ span.start) × (span.start ≤ span.end)
    × (span.end ≤ to)

-- each node, name and description of these parts has a location, in this file and between these bytes
abbrev pub LiesWithin : FileId → ℕ → ℕ → List TreePart → Type 0
LiesWithin file from to parts = AllByRecursion (asks_location (LiesAt file from to)) parts

-- no location of these parts is one in the file of built-in definitions
abbrev pub IsNowhereBuiltIn : List TreePart → Type 0
IsNowhereBuiltIn parts = AllByRecursion (asks_location (λ at. is_built_in at ≡ false)) parts
