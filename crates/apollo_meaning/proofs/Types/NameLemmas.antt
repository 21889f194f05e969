-- The names of the types of a list.
use Rattle.apollo_meaning.proofs.Prelude.{◌≡◌, List, map, sym, ap, ◌∙◌, filter_map, map-map}
use Rattle.apollo_meaning.proofs.Prelude.{same_text, first_of_each, ListItem, defined_part}
use Rattle.apollo_meaning.proofs.Prelude.{TypePart, type_names, first_of_each-map}

-- they are the first of each text among those that are defined
pub type_names-first : (xs : List ListItem)
    → type_names xs ≡ first_of_each same_text (map (λ p. p.name) (filter_map defined_part xs))
type_names-first xs =
    let ps : List TypePart = filter_map defined_part xs in
    ap (map (λ e. e.1.name)) (sym (first_of_each-map _ _ ps)) ∙ map-map _ _ _
    ∙ first_of_each-map same_text (λ p. p.name) ps
