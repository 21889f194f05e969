-- The parts of a text, borrowed from it: the coordinate that they make, and its names at no location. Also
-- the error that a refusal is answered as, where there is memory for it. Schema Coordinates RFC.
use Rattle.std.specs.Prelude.{◌≡◌, ℕ, List, None, Result, Ok, Err}
use Rattle.graphql_nodes.specs.NameView.{plain_name}
use Rattle.apollo_coordinate.specs.declared.type_attribute_coordinate.TypeAttributeCoordinate.{TypeAttributeCoordinate}
use Rattle.apollo_coordinate.specs.declared.field_argument_coordinate.FieldArgumentCoordinate.{FieldArgumentCoordinate}
use Rattle.apollo_coordinate.specs.declared.directive_argument_coordinate.DirectiveArgumentCoordinate.{DirectiveArgumentCoordinate}
use Rattle.apollo_coordinate.specs.declared.schema_coordinate.SchemaCoordinate.{SchemaCoordinate}
use Rattle.apollo_coordinate.specs.declared.schema_coordinate.SchemaCoordinate.TheVariants as any
use Rattle.apollo_coordinate.specs.declared.parse_error.SchemaCoordinateParseError.{SchemaCoordinateParseError}
use Rattle.apollo_coordinate.specs.declared.parse_error.SchemaCoordinateParseError.TheVariants.{InvalidFormat}
use Rattle.apollo_coordinate.specs.declared.parse_error.SchemaCoordinateParseError.TheVariants.{InvalidName}
use Rattle.apollo_coordinate.specs.declared.parse_error.SchemaCoordinateParseError.TheVariants.{Memory}
use Rattle.apollo_coordinate.specs.declared.text_parts.AttributeParts.{AttributeParts}
use Rattle.apollo_coordinate.specs.declared.text_parts.FieldArgumentParts.{FieldArgumentParts}
use Rattle.apollo_coordinate.specs.declared.text_parts.DirectiveArgumentParts.{DirectiveArgumentParts}
use Rattle.apollo_coordinate.specs.declared.text_parts.Parts.{Parts}
use Rattle.apollo_coordinate.specs.declared.text_parts.Parts.TheVariants as parts
use Rattle.apollo_coordinate.specs.declared.refusal.Refusal.{Refusal}
use Rattle.apollo_coordinate.specs.declared.refusal.Refusal.TheVariants as refusals
use Rattle.apollo_coordinate.specs.CoordinateText.{SaysCoordinate}
use Rattle.apollo_coordinate.specs.Refusals.{WhenRefused}

-- the attribute's coordinate that these parts make
abbrev pub attribute_of : AttributeParts → TypeAttributeCoordinate
attribute_of p = record { ty = plain_name p.ty.now; attribute = plain_name p.attribute.now }

-- the coordinate of a field's argument that these parts make
abbrev pub field_argument_of : FieldArgumentParts → FieldArgumentCoordinate
field_argument_of p =
    record {
      ty = plain_name p.field.ty.now;
      field = plain_name p.field.attribute.now;
      argument = plain_name p.argument.now;
    }

-- the coordinate of a directive's argument that these parts make
abbrev pub directive_argument_of : DirectiveArgumentParts → DirectiveArgumentCoordinate
directive_argument_of p =
    record { directive = plain_name p.directive.now; argument = plain_name p.argument.now }

-- the coordinate of any form that these parts make
abbrev pub coordinate_of : Parts → SchemaCoordinate
coordinate_of (parts.Ty part) = any.Ty (record { ty = plain_name part.now })
coordinate_of (parts.TypeAttribute p) = any.TypeAttribute (attribute_of p)
coordinate_of (parts.FieldArgument p) = any.FieldArgument (field_argument_of p)
coordinate_of (parts.Directive part) = any.Directive (record { directive = plain_name part.now })
coordinate_of (parts.DirectiveArgument p) = any.DirectiveArgument (directive_argument_of p)

-- what a text says, if it is of a form and has these parts
abbrev pub SaysDirective : List ℕ → List ℕ → Type 0
SaysDirective t part = SaysCoordinate t (any.Directive (record { directive = plain_name part }))

abbrev pub SaysAttribute : List ℕ → AttributeParts → Type 0
SaysAttribute t p = SaysCoordinate t (any.TypeAttribute (attribute_of p))

abbrev pub SaysFieldArgument : List ℕ → FieldArgumentParts → Type 0
SaysFieldArgument t p = SaysCoordinate t (any.FieldArgument (field_argument_of p))

abbrev pub SaysDirectiveArgument : List ℕ → DirectiveArgumentParts → Type 0
SaysDirectiveArgument t p = SaysCoordinate t (any.DirectiveArgument (directive_argument_of p))

abbrev pub SaysParts : List ℕ → Parts → Type 0
SaysParts t p = SaysCoordinate t (coordinate_of p)

-- the error that a refusal is answered as
abbrev pub error_of : Refusal → SchemaCoordinateParseError
error_of refusals.Format = InvalidFormat
error_of (refusals.Name part) = InvalidName (record { name = part.now; location = None })

-- what is answered where a text was read: what its parts make, or that memory ran out; or the error that its
-- refusal is answered as, unless memory ran out, which a refused format needs none of
abbrev pub IsAnswerTo : {P C : Type 0} → (P → C) → Result P Refusal → Result C SchemaCoordinateParseError
    → Type 0
IsAnswerTo make (Ok parts) (Ok c) = c ≡ make parts
IsAnswerTo make (Ok parts) (Err e) = e ≡ Memory
IsAnswerTo make (Err refusal) (Ok c) = ⊥
IsAnswerTo make (Err refusal) (Err e) =
    WhenRefused (λ error. error ≡ error_of refusal) e × (error_of refusal ≡ InvalidFormat → e ≡ InvalidFormat)
