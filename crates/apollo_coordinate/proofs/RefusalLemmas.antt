-- What is answered where a text was read or refused.
use Rattle.std.proofs.Common.{◌≡◌, ℕ, List, Result, Ok, Err, IfOk, IfErr, ap}
use Rattle.apollo_coordinate.specs.CoordinateText.{SaysCoordinate}
use Rattle.apollo_coordinate.specs.Parts.{error_of, IsAnswerTo}
use Rattle.apollo_coordinate.specs.Refusals.{WhenRefused}
use Rattle.apollo_coordinate.specs.declared.schema_coordinate.SchemaCoordinate.{SchemaCoordinate}
use Rattle.apollo_coordinate.specs.declared.parse_error.SchemaCoordinateParseError.{SchemaCoordinateParseError}
use Rattle.apollo_coordinate.specs.declared.parse_error.SchemaCoordinateParseError.TheVariants.{InvalidFormat}
use Rattle.apollo_coordinate.specs.declared.parse_error.SchemaCoordinateParseError.TheVariants.{InvalidName}
use Rattle.apollo_coordinate.specs.declared.parse_error.SchemaCoordinateParseError.TheVariants.{Memory}
use Rattle.apollo_coordinate.specs.declared.refusal.Refusal.{Refusal}

-- what holds of the error that is asked for holds of the one that is answered, unless memory ran out
carried : (Holds : SchemaCoordinateParseError → Type 0) (e asked : SchemaCoordinateParseError) → Holds asked
    → WhenRefused (λ error. error ≡ asked) e → WhenRefused Holds e
carried Holds Memory asked holds same = tt
carried Holds InvalidFormat asked holds same = rw same holds
carried Holds (InvalidName n) asked holds same = rw same holds

-- of a form, whose coordinates are made of parts: what is answered is what the text says, or its refusal, and
-- that of its format where that is refused
abbrev pub AreAnswers : {P C : Type 0} → (P → C) → (C → SchemaCoordinate)
    → (List ℕ → SchemaCoordinateParseError → Type 0) → Type 0
AreAnswers {P} {C} make form Refuses =
    (t : List ℕ) (read : Result P Refusal) (result : Result C SchemaCoordinateParseError)
    → IfOk read (λ parts. SaysCoordinate t (form (make parts)))
    → IfErr read (λ refusal. Refuses t (error_of refusal)) → IsAnswerTo make read result
    → IfOk result (λ c. SaysCoordinate t (form c)) × (IfErr result (WhenRefused (Refuses t)))
    × (Refuses t InvalidFormat → result ≡ Err InvalidFormat)

-- they are where a refused format is the only refusal, and what is said is not refused
pub answers : {P C : Type 0} (make : P → C) (form : C → SchemaCoordinate)
    (Refuses : List ℕ → SchemaCoordinateParseError → Type 0)
    → ((t : List ℕ) (e : SchemaCoordinateParseError) → Refuses t InvalidFormat → Refuses t e
    → e ≡ InvalidFormat)
    → ((t : List ℕ) (c : C) (e : SchemaCoordinateParseError) → SaysCoordinate t (form c) → Refuses t e
    → ⊥) → AreAnswers make form Refuses
answers make form Refuses alone never t (Ok parts) (Ok c) says refuses is =
    (rw is says, tt, λ none. absurd (never t (make parts) InvalidFormat says none))
answers make form Refuses alone never t (Ok parts) (Err e) says refuses is =
    (tt, rw is tt, λ none. absurd (never t (make parts) InvalidFormat says none))
answers make form Refuses alone never t (Err refusal) (Ok c) says refuses is = absurd is
answers make form Refuses alone never t (Err refusal) (Err e) says refuses is = (
  tt,
  carried (Refuses t) e (error_of refusal) refuses is.0,
  λ none. ap Err (is.1 (alone t (error_of refusal) none refuses)),
)
