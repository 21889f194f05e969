-- Where the component lines of the notation may stand: docs/NOTATION.md.
use Rattle.std.specs.Prelude.{◌≡◌, ℕ, nat_lt, Bool, true, false, Option, None, Some}
use Rattle.graphql_nodes.specs.declared.type_kind.TypeKind.{TypeKind}
use Rattle.graphql_nodes.specs.declared.type_kind.TypeKind.TheVariants as k
use Rattle.bench_notation.specs.declared.above.Above.{Above}
use Rattle.bench_notation.specs.declared.above.Above.TheVariants as a
use Rattle.bench_notation.specs.declared.above.Position.{Position}
use Rattle.bench_notation.specs.declared.line.Line.{Line}
use Rattle.bench_notation.specs.declared.line.Line.TheVariants as l
use Rattle.bench_notation.specs.declared.line.Component.{Component}
use Rattle.bench_notation.specs.declared.line.Component.TheVariants as c

-- the kind of the type whose header is the last one
abbrev pub kind_above : Above → Option TypeKind
kind_above a.Nothing = None
kind_above (a.Type kind) = Some kind
kind_above (a.Field kind) = Some kind
kind_above a.Directive = None
kind_above a.Schema = None
kind_above (a.Selections levels) = None

-- object types and interfaces list interfaces, and their fields have arguments
abbrev pub is_object_or_interface : Option TypeKind → Bool
is_object_or_interface (Some k.Object) = true
is_object_or_interface (Some k.Interface) = true
is_object_or_interface _ = false

-- object types, interfaces and input object types have fields
abbrev pub has_fields : Option TypeKind → Bool
has_fields (Some k.Object) = true
has_fields (Some k.Interface) = true
has_fields (Some k.InputObject) = true
has_fields _ = false

-- union types have members
abbrev pub is_union : Option TypeKind → Bool
is_union (Some k.Union) = true
is_union _ = false

-- enum types have values
abbrev pub is_enum : Option TypeKind → Bool
is_enum (Some k.Enum) = true
is_enum _ = false

-- below a field
abbrev pub is_field : Above → Bool
is_field (a.Field kind) = true
is_field _ = false

-- below the header of a directive
abbrev pub is_directive : Above → Bool
is_directive a.Directive = true
is_directive _ = false

-- below the header of a directive, or below a field of an object type or interface
abbrev pub takes_arguments : Above → Bool
takes_arguments a.Nothing = false
takes_arguments (a.Type kind) = false
takes_arguments (a.Field kind) = is_object_or_interface (Some kind)
takes_arguments a.Directive = true
takes_arguments a.Schema = false
takes_arguments (a.Selections levels) = false

-- below the header of the schema
abbrev pub is_schema : Above → Bool
is_schema a.Schema = true
is_schema _ = false

-- below every header but that of a directive
abbrev pub takes_directives : Above → Bool
takes_directives a.Nothing = false
takes_directives (a.Type kind) = true
takes_directives (a.Field kind) = true
takes_directives a.Directive = false
takes_directives a.Schema = true
takes_directives (a.Selections levels) = true

-- at how many depths a selection may stand: at none but below an operation or fragment
abbrev pub levels_above : Above → ℕ
levels_above (a.Selections levels) = levels
levels_above _ = 0

-- whether a component may stand where this is above it
abbrev pub stands : Above → Component → Bool
stands above (c.Directive name) = takes_directives above
stands above (c.Implements name) = is_object_or_interface (kind_above above)
stands above (c.Field name ty) = has_fields (kind_above above)
stands above (c.FieldDirective name) = is_field above
stands above (c.Argument name ty) = takes_arguments above
stands above (c.Member name) = is_union (kind_above above)
stands above (c.Value name) = is_enum (kind_above above)
stands above (c.On directive_location) = is_directive above
stands above c.Repeatable = is_directive above
stands above (c.Root operation name) = is_schema above
stands above (c.Selection depth selected) = nat_lt depth (levels_above above)

-- what may stand here: a component below what takes it, a division where there may be one, any other line
-- anywhere
abbrev pub StandsBelow : Position → Line → Type 0
StandsBelow position l.Empty = Unit {0}
StandsBelow position l.Break = Unit {0}
StandsBelow position l.Division = position.may_divide ≡ true
StandsBelow position (l.Header header) = Unit {0}
StandsBelow position (l.Component component) = stands position.above component ≡ true
