use Rattle.std.proofs.Common.{◌≡◌, [], ◌∷◌, ap, ◌∙◌}
use Rattle.apollo_walks.specs.Selections.{no_names}
use Rattle.apollo_executable.specs.Walks.Left.{marked_names}
use Rattle.apollo_field_usage.specs.Left.{left_in, innermost_first, lists_of, names_opened}
use Rattle.apollo_field_usage.proofs.OpenLemmas.{innermost-empty, none-marked}
use Rattle.apollo_field_usage.proofs.open_sets.OpenSets.new.Goals as goal

pub returns : goal.returns
returns c =
    let d = c.args.document.now in
    let set = c.args.set.now in
    let new = c.open.new.self in
    let document : new.document.now ≡ d = λ i. (c.open.ensures.document i).now in
    let marks = none-marked d c.in_ok-no_marks.field-0.items c.in_ok-no_marks.ensures.none in
    let names : names_opened new ≡ no_names = (λ i. marked_names (document i) (c.open.ensures.opened i).items)
    ∙ marks in
    let lists : lists_of new ≡ (set.ty, set.selections) ∷ [] = c.in_ok-open.ensures.lists
    ∙ ap (λ l. (set.ty, set.selections) ∷ innermost_first l) c.new.ensures.items
    ∙ ap (λ l. (set.ty, set.selections) ∷ l) innermost-empty in
    λ i. left_in (document i) (names i) (lists i)
