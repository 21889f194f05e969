-- Why a text is no coordinate. A text is read from the left: at the marks first, and then part by part.
-- Schema Coordinates RFC.
--
-- **Refusal.** A text is read from the left: at its marks, and then name by name. The refusal of a text
-- in the order of reading:
--
-- | form | `InvalidFormat` | `InvalidName`, of what is no name |
-- |---|---|---|
-- | `T` | never | the text is no name |
-- | `T.a` | there is no `.` | what stands before the first `.`; or else what stands after it |
-- | `@d` | the text doesn't begin with `@` | what follows the `@` |
-- | `T.f(a:)`, `@d(a:)` | there is no `(` | |
-- | then, of what stands before the first `(` | as `T.a` or `@d` | as `T.a` or `@d` |
-- | then, of what stands after it | something else than `)` alone follows the first `:`, or there is none | what stands before the first `:` |
--
-- Take a text of none of these forms, read as a coordinate of any form. It is refused as `InvalidName` of the
-- whole text, without the `@` that it may begin with.
use Rattle.std.specs.Prelude.{◌≡◌, ◌≢◌, ◌⊎◌, ◌++◌, ◌==◌, ℕ, List, [], ◌∷◌, None, All, codes, if◌then◌else◌}
use Rattle.graphql_nodes.specs.NameSyntax.{IsName}
use Rattle.graphql_nodes.specs.declared.name.NameError.{NameError}
use Rattle.graphql_nodes.specs.declared.name.NameError.TheVariants as names
use Rattle.apollo_coordinate.specs.declared.parse_error.SchemaCoordinateParseError.{SchemaCoordinateParseError}
use Rattle.apollo_coordinate.specs.declared.parse_error.SchemaCoordinateParseError.TheVariants.{InvalidFormat}
use Rattle.apollo_coordinate.specs.declared.parse_error.SchemaCoordinateParseError.TheVariants.{InvalidName}
use Rattle.apollo_coordinate.specs.declared.parse_error.SchemaCoordinateParseError.TheVariants.{Memory}
use Rattle.apollo_coordinate.specs.CoordinateText.{IsAttributeText, IsDirectiveText, IsCoordinateText}

-- what a refused name is to a coordinate
abbrev pub error_of_name : NameError → SchemaCoordinateParseError
error_of_name (names.Invalid e) = InvalidName e
error_of_name names.Memory = Memory

-- that memory ran out says nothing of the text
abbrev pub WhenRefused : (SchemaCoordinateParseError → Type 0) → SchemaCoordinateParseError → Type 0
WhenRefused Holds Memory = Unit {0}
WhenRefused Holds e = Holds e

-- the text has no such mark
abbrev pub Lacks : ℕ → List ℕ → Type 0
Lacks mark t = All (λ b. b ≢ mark) t

-- the first such mark of the text stands between the two
abbrev pub IsCut : ℕ → List ℕ → List ℕ → List ℕ → Type 0
IsCut mark t front back = Lacks mark front × (t ≡ front ++ mark ∷ back)

-- the part is no name, and the error carries it, at no location
abbrev pub IsNoName : List ℕ → SchemaCoordinateParseError → Type 0
IsNoName part e = (IsName part → ⊥) × (e ≡ InvalidName (record { name = part; location = None }))

-- of two parts the first that is no name
abbrev pub IsNoNames : List ℕ → List ℕ → SchemaCoordinateParseError → Type 0
IsNoNames first second e = IsNoName first e ⊎ (IsName first × IsNoName second e)

-- `T.a`: the text has no `.`, or one of the parts before and after the first is no name
abbrev pub IsNoAttribute : List ℕ → SchemaCoordinateParseError → Type 0
IsNoAttribute t e =
    (Lacks 46 t × (e ≡ InvalidFormat)) ⊎ ((ty a : List ℕ) × IsCut 46 t ty a × IsNoNames ty a e)

-- `@d`: the text doesn't begin with `@`, or what follows is no name
abbrev pub IsNoDirective : List ℕ → SchemaCoordinateParseError → Type 0
IsNoDirective t e =
    (((d : List ℕ) → t ≢ codes "@" ++ d) × (e ≡ InvalidFormat)) ⊎ ((d : List ℕ) × (t ≡ codes "@" ++ d)
    × IsNoName d e)

-- `a:)`: something else than `)` follows the first `:`, or there is none; or what stands before is no name
abbrev pub IsNoArgument : List ℕ → SchemaCoordinateParseError → Type 0
IsNoArgument t e =
    (((a : List ℕ) → Lacks 58 a → t ≢ a ++ codes ":)") × (e ≡ InvalidFormat)) ⊎ ((a : List ℕ) × Lacks 58 a
    × (t ≡ a ++ codes ":)") × IsNoName a e)

-- what stands before and after the first `(`, the second only where the first is as it should be
abbrev pub IsNoPair : (List ℕ → Type 0) → (List ℕ → SchemaCoordinateParseError → Type 0) → List ℕ → List ℕ
    → SchemaCoordinateParseError → Type 0
IsNoPair IsHead IsNoHead head rest e = IsNoHead head e ⊎ (IsHead head × IsNoArgument rest e)

-- a head with an argument: there is no `(`, or one of the two round the first is refused
abbrev pub IsNoArgumentOf : (List ℕ → Type 0) → (List ℕ → SchemaCoordinateParseError → Type 0) → List ℕ
    → SchemaCoordinateParseError → Type 0
IsNoArgumentOf IsHead IsNoHead t e =
    (Lacks 40 t × (e ≡ InvalidFormat)) ⊎ ((head rest : List ℕ) × IsCut 40 t head rest
    × IsNoPair IsHead IsNoHead head rest e)

-- `T.f(a:)`
abbrev pub IsNoFieldArgument : List ℕ → SchemaCoordinateParseError → Type 0
IsNoFieldArgument = IsNoArgumentOf IsAttributeText IsNoAttribute

-- `@d(a:)`
abbrev pub IsNoDirectiveArgument : List ℕ → SchemaCoordinateParseError → Type 0
IsNoDirectiveArgument = IsNoArgumentOf IsDirectiveText IsNoDirective

-- the text without the `@` that it may begin with
abbrev pub without_at : List ℕ → List ℕ
without_at [] = []
without_at (c ∷ cs) = if c == 64 then cs else c ∷ cs

-- the error carries the text whole, but for the `@` that it may begin with
abbrev pub IsLastRefusal : List ℕ → SchemaCoordinateParseError → Type 0
IsLastRefusal t e = e ≡ InvalidName (record { name = without_at t; location = None })

-- any form: the text is outside the grammar
abbrev pub IsNoCoordinate : List ℕ → SchemaCoordinateParseError → Type 0
IsNoCoordinate t e = (IsCoordinateText t → ⊥) × IsLastRefusal t e
