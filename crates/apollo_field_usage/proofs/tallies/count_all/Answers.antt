use Rattle.std.proofs.Common.{◌≡◌, ◌<◌, ◌≤◌, ◌+◌, ◌^◌, ℕ, IfSome, List, [], ◌∷◌, ◌++◌, map, take, length, sym}
use Rattle.std.proofs.Common.{ap, ◌∙◌, arith}
use Rattle.std.proofs.lemmas.List.{take_more, map-append, length-map, length-take-le}
use Rattle.graphql_nodes.specs.Tables.{lookup}
use Rattle.apollo_coordinate.specs.declared.type_attribute_coordinate.TypeAttributeCoordinate.{TypeAttributeCoordinate}
use Rattle.apollo_field_usage.specs.Coordinates.{coordinate, same_coordinate}
use Rattle.apollo_field_usage.specs.Counted.{counted}
use Rattle.apollo_field_usage.specs.Seen.{seen}
use Rattle.apollo_field_usage.specs.Tallies.{tally}
use Rattle.apollo_field_usage.specs.declared.occurrence.FieldOccurrence.{FieldOccurrence}
use Rattle.apollo_field_usage.proofs.SameCoordinates.{same-equivalence}
use Rattle.apollo_field_usage.proofs.TallyLemmas.{tally-push, tally-small}
use Rattle.apollo_field_usage.proofs.tallies.count_all.Goals as goal

abbrev keys : List FieldOccurrence → List TypeAttributeCoordinate
keys fields = map coordinate (map seen fields)

taken : (fields : List FieldOccurrence) (i : ℕ) → i ≤ length fields → length (keys (take i fields)) ≡ i
taken fields i below = rw (length-map, length-map) (length-take-le i fields below)

small : (table : List (TypeAttributeCoordinate × ℕ)) (ks : List TypeAttributeCoordinate)
    (k : TypeAttributeCoordinate) → table ≡ tally same_coordinate ks → length ks + 1 < 2 ^ 64
    → IfSome (lookup (same_coordinate k) table) (λ times. times + 1 < 2 ^ 64)
small table ks k is few = rw is (grind (arith, few, tally-small same-equivalence ks k))

pub count-requires : goal.count-requires
count-requires c =
    let fields = c.args.fields.now in
    let i = c.loop-field.field-index in
    let below : i ≤ length fields = omega arith in
    small c.loop-field.table (keys (take i fields)) c.in_ok-coordinate.field-0 c.loop-field.invariant
    (omega (arith, taken fields i below))

pub loop-field-preserved : goal.loop-field-preserved
loop-field-preserved c =
    let fields = c.args.fields.now in
    let i = c.loop-field.field-index in
    let item = c.field-item.result in
    let done = take i fields in
    let there : i < length fields = omega arith in
    let more : take (i + 1) fields ≡ done ++ item ∷ [] = take_more fields i item there
    ∙ ap (λ x. done ++ x ∷ []) (sym c.field-item.is) in
    c.in_ok-count.ensures
    ∙ (λ j. counted same_coordinate (c.loop-field.invariant j) (c.in_ok-coordinate.ensures j))
    ∙ tally-push same-equivalence (keys done) (coordinate (seen item))
    ∙ ap (tally same_coordinate) (sym (ap (map coordinate) (map-append seen done (item ∷ []))
    ∙ map-append coordinate (map seen done) (seen item ∷ [])) ∙ ap keys (sym more))
