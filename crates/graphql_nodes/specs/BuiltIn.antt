-- What stands in the file of built-in definitions: GraphQL specification of October 2021, sections 3.5, 3.13
-- and 4.2.
--
-- **Built-in.** A node is built-in, or *marked built-in* (`is_built_in`), if it has a location and the
-- file of that is number 0. All else counts as handed in.
use Rattle.std.specs.Prelude.{Bool, false, ◌==◌, Option, None, Some}
use Rattle.graphql_nodes.specs.declared.source.SourceSpan.{SourceSpan}

-- whether a location is one in the file of built-in definitions, whose number is 0
abbrev pub is_built_in : Option SourceSpan → Bool
is_built_in None = false
is_built_in (Some span) = span.file.0 == 0
