-- A walk over fields with the types of their sets is the walk over the fields.
use Rattle.std.proofs.Common.{◌≡◌, true, List, [], ◌∷◌, map, refl, sym, ap, ◌∙◌}
use Rattle.graphql_nodes.specs.NameView.{NameView}
use Rattle.graphql_nodes.specs.NodeView.{NodeView}
use Rattle.apollo_walks.specs.Selections.{field, spread, inline, no_names}
use Rattle.apollo_walks.specs.Whole.{IsWalk}
use Rattle.apollo_walks.proofs.Existence.{ordered}
use Rattle.apollo_walks.proofs.Orders.{order_determined}
use Rattle.apollo_walks.proofs.Whole.{order_walk}
use Rattle.apollo_executable.specs.Walks.Plain.{Plain, plain, fragments_of}
use Rattle.apollo_executable.specs.Walks.WalkView.{AreWalked}
use Rattle.apollo_executable.specs.declared.document.ExecutableDocument.{ExecutableDocument}
use Rattle.apollo_executable.specs.declared.operation.Fragment.{Fragment}
use Rattle.apollo_executable.specs.declared.selection.Selection.{Selection}
use Rattle.apollo_executable.specs.declared.selection.Field.{Field}
use Rattle.apollo_executable.specs.declared.selection.SelectionSet.{SelectionSet}
use Rattle.apollo_executable.proofs.Selections.Induction.{of_selections}
use Rattle.apollo_executable.proofs.Walking.PlainLemmas.{plain-none, plain-field, plain-spread, plain-inline}
use Rattle.apollo_field_usage.specs.Occurrences.{Occurrence}
use Rattle.apollo_field_usage.specs.Placed.{Placed, placed, placed_set, placed_fragments}
use Rattle.apollo_field_usage.specs.Reached.{reached}
use Rattle.apollo_field_usage.proofs.PlacedLemmas.{placed-none, placed-field, placed-spread, placed-inline}
use Rattle.apollo_field_usage.proofs.Relabelling.{relabelled, all_relabelled, order-relabelled}

-- a field, wherever it stands
abbrev field_of : Occurrence → NodeView Field
field_of o = o.field

-- selections without the types of their sets
abbrev bare : Placed → Plain
bare = relabelled field_of

-- it is seen as it is without types
abbrev IsBare : List Selection → Type 0
IsBare ss = (ty : NameView) → bare (placed ty ss) ≡ plain true ss

set-bare : (s : SelectionSet) → bare (placed_set s) ≡ plain true s.selections
set-bare s = of_selections IsBare (λ ty. ap bare (placed-none ty) ∙ sym (plain-none true))
    (λ n ss below rest ty. ap bare (placed-field ty n ss)
    ∙ (λ i. field n (below n.value.selection_set.ty i) (rest ty i))
    ∙ sym (plain-field true n ss)) (λ n ss rest ty. ap bare (placed-spread ty n ss)
    ∙ (λ i. spread n.value.fragment_name.text (rest ty i)) ∙ sym (plain-spread true n ss))
    (λ n ss inner rest ty. ap bare (placed-inline ty n ss) ∙ (λ i. inline (inner n.value.selection_set.ty i)
    (rest ty i)) ∙ sym (plain-inline true n ss)) s.selections s.ty

entries-bare : (es : List (NameView × NodeView Fragment))
    → all_relabelled field_of (map (λ e. (e.0.text, placed_set e.1.value.selection_set)) es)
    ≡ map (λ e. (e.0.text, plain true e.1.value.selection_set.selections)) es
entries-bare [] = refl
entries-bare (e ∷ es) = λ i. (e.0.text, set-bare e.1.value.selection_set i) ∷ entries-bare es i

fragments-bare : (d : ExecutableDocument) → all_relabelled field_of (placed_fragments d) ≡ fragments_of true d
unfolding placed_fragments fragments_of
fragments-bare d = entries-bare d.fragments

-- what is reached is a whole walk
pub reached-walk : (d : ExecutableDocument) (set : SelectionSet)
    → IsWalk (placed_fragments d) (placed_set set) (reached d set)
unfolding reached
reached-walk d set =
    let o = ordered (placed_fragments d) no_names (placed_set set) in
    order_walk (placed_fragments d) (placed_set set) o.fields o.opened o.order

-- and its fields are those of the walk over all fields
pub reached-fields : (d : ExecutableDocument) (set : SelectionSet)
    → AreWalked true d set (map field_of (reached d set))
reached-fields d set =
    let walk = reached-walk d set in
    let order = order-relabelled field_of (placed_fragments d) walk.order in
    order_walk (fragments_of true d) (plain true set.selections) (map field_of (reached d set)) walk.opened
    (rw (fragments-bare d, set-bare set) at order)

pub walked-fields : (d : ExecutableDocument) (set : SelectionSet) (fields : List (NodeView Field))
    → AreWalked true d set fields → map field_of (reached d set) ≡ fields
walked-fields d set fields walk =
    (order_determined (fragments_of true d) (reached-fields d set).order walk.order).0
