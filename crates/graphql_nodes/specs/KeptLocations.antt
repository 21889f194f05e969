-- Which locations are kept in fewer bytes. Locations are GraphQL text from one byte up to another: GraphQL
-- specification of October 2021, section 2.
use Rattle.std.specs.Prelude.{◌+◌, Option, None, Some}
use Rattle.graphql_nodes.specs.declared.kept_location.Kept.{Kept}
use Rattle.graphql_nodes.specs.declared.kept_location.Kept.TheVariants as t
use Rattle.graphql_nodes.specs.declared.kept_location.NearSpan.{NearSpan}
use Rattle.graphql_nodes.specs.declared.source.SourceSpan.{SourceSpan}

-- the location that has this file, start and length
abbrev pub near_span : NearSpan → SourceSpan
near_span near =
    record { file = record { 0 = near.file }; start = near.start; end = near.start + near.length }

-- the location that is kept, if one is
abbrev pub kept_span : Kept → Option SourceSpan
kept_span t.Unknown = None
kept_span (t.Near near) = Some (near_span near)
kept_span (t.Far span) = Some span
