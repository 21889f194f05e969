use Rattle.std.proofs.Common.{◌++◌, map, sym, ap, ◌∙◌}
use Rattle.apollo_component.specs.WriteOut.{by_origin}
use Rattle.apollo_types.specs.Components.{of_field, of_value, of_input_field, rest_components}
use Rattle.apollo_types.proofs.components.Rest.add_to.Goals as goal

pub returns-in_ok-add_components-in-Fields : goal.returns-in_ok-add_components-in-Fields
returns-in_ok-add_components-in-Fields c = λ cs was.
    let all = sym c.in-Fields.is in
    c.in_ok-add_components-in-Fields.ensures cs was
    ∙ ap (λ fs. by_origin (cs ++ map of_field fs)) c.as_slice-in-Fields.ensures
    ∙ ap (λ r. by_origin (cs ++ rest_components r)) all

pub returns-in_ok-add_components-in-EnumValues : goal.returns-in_ok-add_components-in-EnumValues
returns-in_ok-add_components-in-EnumValues c = λ cs was.
    let all = sym c.in-EnumValues.is in
    c.in_ok-add_components-in-EnumValues.ensures cs was
    ∙ ap (λ vs. by_origin (cs ++ map of_value vs)) c.as_slice-in-EnumValues.ensures
    ∙ ap (λ r. by_origin (cs ++ rest_components r)) all

pub returns-in_ok-add_components-in-InputFields : goal.returns-in_ok-add_components-in-InputFields
returns-in_ok-add_components-in-InputFields c = λ cs was.
    let all = sym c.in-InputFields.is in
    c.in_ok-add_components-in-InputFields.ensures cs was
    ∙ ap (λ fs. by_origin (cs ++ map of_input_field fs)) c.as_slice-in-InputFields.ensures
    ∙ ap (λ r. by_origin (cs ++ rest_components r)) all
