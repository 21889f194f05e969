-- Identities of extensions: GraphQL specification of October 2021, sections 3.3.2 and 3.4.3.
--
-- **Identity.** An identity of an extension is a number and the location of the extension. Two
-- identities are the same if their numbers are. The bare value of an identity is its number. The
-- identities *drawn from* a number on have that number, the next, and so on, each with the location of
-- its extension.
use Rattle.std.specs.Prelude.{ℕ, ◌+◌, List, [], ◌∷◌, Option, None, Some, Bool, true, false, ◌==◌}
use Rattle.graphql_nodes.specs.declared.source.SourceSpan.{SourceSpan}
use Rattle.apollo_component.specs.declared.extension.ExtensionSource.{ExtensionSource}
use Rattle.apollo_component.specs.declared.extension.ExtensionId.{ExtensionId}
use Rattle.apollo_component.specs.declared.extension.ComponentOrigin.{ComponentOrigin}
use Rattle.apollo_component.specs.declared.extension.ComponentOrigin.TheVariants.{Definition, Extension}

-- the identity with this number, of an extension at this location
abbrev pub extension_id : ℕ → Option SourceSpan → ExtensionId
extension_id n location = record { number = n; location = location }

-- the number of an identity
abbrev pub number_of : ExtensionId → ℕ
number_of e = e.number

-- where the extension of an identity stands
abbrev pub extension_location : ExtensionId → Option SourceSpan
extension_location e = e.location

-- the source whose next number is this one
abbrev pub source_at : ℕ → ExtensionSource
source_at n = record { next = n }

-- the number that a source gives next
abbrev pub next_number : ExtensionSource → ℕ
next_number s = s.next

-- the identities that are drawn from this number on, one for an extension at each of these locations
abbrev pub drawn_from : ℕ → List (Option SourceSpan) → List ExtensionId
drawn_from n [] = []
drawn_from n (location ∷ locations) = extension_id n location ∷ drawn_from (n + 1) locations

-- the identity of an origin that is an extension
abbrev pub id_of : ComponentOrigin → Option ExtensionId
id_of Definition = None
id_of (Extension e) = Some e

-- identities are one by their numbers
abbrev pub same_id : ExtensionId → ExtensionId → Bool
same_id a b = number_of a == number_of b

-- both are the definition, or extensions of one identity
abbrev pub same_origin : ComponentOrigin → ComponentOrigin → Bool
same_origin Definition Definition = true
same_origin (Extension a) (Extension b) = same_id a b
same_origin Definition (Extension b) = false
same_origin (Extension a) Definition = false
