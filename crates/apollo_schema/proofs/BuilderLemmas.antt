-- What is seen of a builder, by what it holds.
use Rattle.apollo_meaning.proofs.Prelude.{◌≡◌, ◌+◌, ℕ, List, ◌++◌, length, sym, ap, subst, ◌∙◌, append_assoc}
use Rattle.apollo_meaning.proofs.Prelude.{map-append, Added, added_items, folding_order, folded}
use Rattle.apollo_meaning.proofs.Order.MomentLemmas.{folding_order-forget}
use Rattle.apollo_schema.specs.BuilderStands.{Building, with_built_ins}
use Rattle.apollo_schema.specs.Stands.{HoldsFor, standing_of}
use Rattle.apollo_schema.specs.declared.schema_builder.SchemaBuilder.TheInside.{Inside}
use Rattle.apollo_schema.specs.declared.state.State.{State}

-- what is seen of a builder with these fields that holds this
abbrev pub seen : Inside → State → Building
seen b held = record {
  start = b.first_number;
  adopts = b.adopt_orphan_extensions;
  ignores = b.ignore_builtin_redefinitions;
  standing = standing_of b.added.items held;
}

-- its list
abbrev pub whole_list : Inside → List Added
whole_list b = with_built_ins b.added.items

pub seen-as : (b : Inside) {held : State} {value : Building} → b.state ≡ held → seen b b.state ≡ value
    → seen b held ≡ value
seen-as b is view = ap (seen b) (sym is) ∙ view

pub holds-as : (b : Inside) {held : State} → b.state ≡ held → HoldsFor b.first_number b.added.items b.state
    → HoldsFor b.first_number b.added.items held
holds-as b is holds = subst (HoldsFor b.first_number b.added.items) is holds

-- the items of more definitions behind what was handed in
pub more_items : (xs more : List Added)
    → added_items (with_built_ins xs) ++ added_items more ≡ added_items (with_built_ins (xs ++ more))
more_items xs more = simp (map-append, append_assoc)

-- how many extensions are folded once more was added
pub folds_with : (start : ℕ) (xs more : List Added)
    → start + length (folded (added_items xs ++ added_items more))
    ≡ start + length (folding_order (added_items (xs ++ more)))
folds_with start xs more = simp (map-append, folding_order-forget)
