-- That coordinates are the same is an equivalence.
use Rattle.std.proofs.lemmas.Cmp.{and_equiv, nat_list_eq_equiv}
use Rattle.std.specs.Cmp.{IsEquivalence, on_equiv}
use Rattle.apollo_coordinate.specs.declared.type_attribute_coordinate.TypeAttributeCoordinate.{TypeAttributeCoordinate}
use Rattle.apollo_field_usage.specs.Coordinates.{same_coordinate}

pub same-equivalence : IsEquivalence same_coordinate
same-equivalence = and_equiv (on_equiv (λ (c : TypeAttributeCoordinate). c.ty.text) nat_list_eq_equiv)
    (on_equiv (λ (c : TypeAttributeCoordinate). c.attribute.text) nat_list_eq_equiv)
