-- A text that is refused for its format is refused for nothing else, and is not of the form.
use Rattle.std.proofs.Common.{◌≡◌, ℕ, List, subst, sym, ◌∙◌, inl, inr}
use Rattle.graphql_nodes.specs.declared.name.InvalidNameError.{InvalidNameError}
use Rattle.apollo_coordinate.specs.CoordinateText.{IsAttributeText, IsFieldArgumentText, IsDirectiveText}
use Rattle.apollo_coordinate.specs.CoordinateText.{IsDirectiveArgumentText, SaysCoordinate}
use Rattle.apollo_coordinate.specs.Parts.{attribute_of, field_argument_of, directive_argument_of}
use Rattle.apollo_coordinate.specs.Refusals.{IsNoNames, IsNoAttribute, IsNoDirective, IsNoArgument, IsNoPair}
use Rattle.apollo_coordinate.specs.Refusals.{IsNoArgumentOf, IsNoFieldArgument, IsNoDirectiveArgument}
use Rattle.apollo_coordinate.specs.declared.type_attribute_coordinate.TypeAttributeCoordinate.{TypeAttributeCoordinate}
use Rattle.apollo_coordinate.specs.declared.field_argument_coordinate.FieldArgumentCoordinate.{FieldArgumentCoordinate}
use Rattle.apollo_coordinate.specs.declared.directive_argument_coordinate.DirectiveArgumentCoordinate.{DirectiveArgumentCoordinate}
use Rattle.apollo_coordinate.specs.declared.schema_coordinate.SchemaCoordinate.TheVariants.{TypeAttribute}
use Rattle.apollo_coordinate.specs.declared.schema_coordinate.SchemaCoordinate.TheVariants.{FieldArgument}
use Rattle.apollo_coordinate.specs.declared.schema_coordinate.SchemaCoordinate.TheVariants.{DirectiveArgument}
use Rattle.apollo_coordinate.specs.declared.parse_error.SchemaCoordinateParseError.{SchemaCoordinateParseError}
use Rattle.apollo_coordinate.specs.declared.parse_error.SchemaCoordinateParseError.TheVariants.{InvalidFormat}
use Rattle.apollo_coordinate.specs.declared.parse_error.SchemaCoordinateParseError.TheVariants.{InvalidName}
use Rattle.apollo_coordinate.proofs.GrammarLemmas.{cut_lacks, no_attribute, no_directive, no_field_argument}
use Rattle.apollo_coordinate.proofs.GrammarLemmas.{no_directive_argument}
use Rattle.apollo_coordinate.proofs.MarkLemmas.{one_cut}
use Rattle.apollo_coordinate.proofs.RefusalLemmas.{AreAnswers, answers}
use Rattle.apollo_coordinate.proofs.TextLemmas.{field_argument_form, directive_argument_form}

-- a form whose refusals for the format are its only ones
abbrev pub IsRefusedAlone : (List ℕ → SchemaCoordinateParseError → Type 0) → Type 0
IsRefusedAlone IsNo = (t : List ℕ) (e : SchemaCoordinateParseError) → IsNo t InvalidFormat → IsNo t e
    → e ≡ InvalidFormat

no_name : (e : InvalidNameError) → InvalidFormat ≡ InvalidName e → ⊥
no_name e same = cc

no_names : (first second : List ℕ) → IsNoNames first second InvalidFormat → ⊥
no_names first second (inl a) = no_name _ a.1
no_names first second (inr b) = no_name _ b.1.1

attribute_format : IsRefusedAlone IsNoAttribute
attribute_format t e (inl none) (inl again) = again.1
attribute_format t e (inl none) (inr parts) = absurd (cut_lacks 46 t parts.0 parts.1 parts.2 none.0)
attribute_format t e (inr parts) other = absurd (no_names parts.0 parts.1 parts.3)

pub directive_format : IsRefusedAlone IsNoDirective
directive_format t e (inl none) (inl again) = again.1
directive_format t e (inl none) (inr name) = absurd (none.0 name.0 name.1)
directive_format t e (inr name) other = absurd (no_name _ name.2.1)

argument_format : IsRefusedAlone IsNoArgument
argument_format t e (inl none) (inl again) = again.1
argument_format t e (inl none) (inr found) = absurd (none.0 found.0 found.1 found.2)
argument_format t e (inr found) other = absurd (no_name _ found.3.1)

-- of what stands round the first `(`
module _ (IsHead : List ℕ → Type 0) (IsNoHead : List ℕ → SchemaCoordinateParseError → Type 0)
    (refuses : (h : List ℕ) (e : SchemaCoordinateParseError) → IsNoHead h e → IsHead h
    → ⊥) (head_format : IsRefusedAlone IsNoHead) where
  pair_format : (head rest : List ℕ) (e : SchemaCoordinateParseError)
      → IsNoPair IsHead IsNoHead head rest InvalidFormat → IsNoPair IsHead IsNoHead head rest e
      → e ≡ InvalidFormat
  pair_format head rest e (inl a) (inl b) = head_format head e a b
  pair_format head rest e (inl a) (inr b) = absurd (refuses head InvalidFormat a b.0)
  pair_format head rest e (inr a) (inl b) = absurd (refuses head e b a.0)
  pair_format head rest e (inr a) (inr b) = argument_format rest e a.1 b.1

  argument_of_format : IsRefusedAlone (IsNoArgumentOf IsHead IsNoHead)
  argument_of_format t e a (inl none) = none.1
  argument_of_format t e (inl none) (inr b) = absurd (cut_lacks 40 t b.0 b.1 b.2 none.0)
  argument_of_format t e (inr a) (inr b) =
      let same = one_cut 40 a.0 a.1 b.0 b.1 a.2.0 b.2.0 (sym a.2.1 ∙ b.2.1) in
      pair_format b.0 b.1 e (rw (same.0, same.1) at a.3) b.3

field_argument_format : IsRefusedAlone IsNoFieldArgument
field_argument_format = argument_of_format IsAttributeText IsNoAttribute no_attribute attribute_format

directive_argument_format : IsRefusedAlone IsNoDirectiveArgument
directive_argument_format = argument_of_format IsDirectiveText IsNoDirective no_directive directive_format

-- what says a coordinate of a form is refused for nothing
attribute_said : (t : List ℕ) (c : TypeAttributeCoordinate) (e : SchemaCoordinateParseError)
    → SaysCoordinate t (TypeAttribute c) → IsNoAttribute t e → ⊥
attribute_said t c e said none =
    no_attribute t e none (c.ty.text, c.attribute.text, sym said.0, said.1.0.0, said.1.1.0.0)

field_argument_said : (t : List ℕ) (c : FieldArgumentCoordinate) (e : SchemaCoordinateParseError)
    → SaysCoordinate t (FieldArgument c) → IsNoFieldArgument t e → ⊥
field_argument_said t c e said none = no_field_argument t e none (subst IsFieldArgumentText said.0
    (field_argument_form c said.1.0.0 said.1.1.0.0 said.1.1.1.0.0))

directive_argument_said : (t : List ℕ) (c : DirectiveArgumentCoordinate) (e : SchemaCoordinateParseError)
    → SaysCoordinate t (DirectiveArgument c) → IsNoDirectiveArgument t e → ⊥
directive_argument_said t c e said none = no_directive_argument t e none (subst IsDirectiveArgumentText said.0
    (directive_argument_form c said.1.0.0 said.1.1.0.0))

-- so it is answered
pub attribute_answers : AreAnswers attribute_of TypeAttribute IsNoAttribute
attribute_answers = answers attribute_of TypeAttribute IsNoAttribute attribute_format attribute_said

pub field_argument_answers : AreAnswers field_argument_of FieldArgument IsNoFieldArgument
field_argument_answers =
    answers field_argument_of FieldArgument IsNoFieldArgument field_argument_format field_argument_said

pub directive_argument_answers : AreAnswers directive_argument_of DirectiveArgument IsNoDirectiveArgument
directive_argument_answers = answers directive_argument_of DirectiveArgument IsNoDirectiveArgument
    directive_argument_format directive_argument_said
