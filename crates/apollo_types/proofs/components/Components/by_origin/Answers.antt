use Rattle.std.proofs.Common.{◌≡◌, List, [], ◌++◌, map, ap, ◌∙◌}
use Rattle.std.specs.Slice.Iter.{iter_rest}
use Rattle.apollo_component.specs.WriteOut.{SourcedPart, by_origin}
use Rattle.apollo_types.specs.Components.{of_directive, rest_components}
use Rattle.apollo_types.proofs.components.Components.by_origin.Goals as goal

pub returns : goal.returns
returns c =
    let ds : List SourcedPart = map of_directive (iter_rest c.self.inside.directives) in
    let directives : c.add_components.new.self ≡ by_origin ds = c.in_ok-add_components.ensures []
    c.new-parts.ensures ∙ ap (λ xs. by_origin (map of_directive xs)) c.as_slice.ensures.value in
    c.in_ok-add_to-2.ensures (ds ++ rest_components c.self.inside.names)
    (c.in_ok-add_to.ensures ds directives) ∙ ap by_origin c.self.view_is
