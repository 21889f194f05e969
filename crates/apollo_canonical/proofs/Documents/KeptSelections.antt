-- What is kept of well-formed selections is well-formed, where no inline fragment is empty.
use Rattle.apollo_canonical.proofs as canonical
use canonical.Prelude.{Err, Field, FieldDefinition, IfSome, InlineFragment, IsWellFormed, IsWellFormedPart}
use canonical.Prelude.{List, Name, NameView, Node, NodeView, None, Ok, Option, Result, SF, SI, SS, Schema}
use canonical.Prelude.{Selection, Some, TreePart, Wrong, [], all_there, ap, arguments_parts, child_of}
use canonical.Prelude.{cons_option, directives_parts, each-append, false, flat_map, if_typable, in_place_of}
use canonical.Prelude.{is_bare, kept_field, kept_fragment, map, name_parts, node_parts, option_map}
use canonical.Prelude.{option_parts, refl, roll-Selection, roll-out-Field, roll-out-InlineFragment}
use canonical.Prelude.{selection_parts, some_there, strip_field_step, strip_fragment_step, strip_step}
use canonical.Prelude.{stripped, field_stripped, fragment_stripped, stripped_selection, subst, sym, true}
use canonical.Prelude.{true≢false, typable_field, typable_fragment, wanted_parts, ◌++◌, ◌∙◌, ◌∷◌, ◌≡◌}
use canonical.Schemas.WellFormedLists.{each-split}
use canonical.Documents.FilledSyntax.{field_filled, inline_filled, is_filled_syntax}
use canonical.Documents.Induction.{Layer, field, inline, of_selections}
use Rattle.std.proofs.lemmas.Bool.{and_parts}
use Rattle.graphql_ast.specs.declared.selection.Selection.TheFolds as folds
use Rattle.graphql_ast.specs.declared.selection.Selection.TheVariants as variant
use Rattle.graphql_productions.proofs.RolledParts as rolled

-- ---- parts

-- what stands behind other parts is replaced
pub behind : (front xs ys : List TreePart) → (IsWellFormed xs → IsWellFormed ys) → IsWellFormed (front ++ xs)
    → IsWellFormed (front ++ ys)
behind front xs ys replaced h =
    let both = each-split IsWellFormedPart front xs h in
    each-append IsWellFormedPart front ys both.0 (replaced both.1)

-- selections of which the grammar wants one at least
pub wanted : (xs : List Selection) → some_there (map is_filled_syntax xs) ≡ true
    → (all_there (map is_filled_syntax xs) ≡ true → IsWellFormed (flat_map selection_parts xs))
    → IsWellFormed (wanted_parts selection_parts xs)
wanted [] filled all = absurd (true≢false (sym filled))
wanted (x ∷ xs) filled all = (refl, all filled)

-- the parts of a field and of an inline fragment
abbrev pub field_parts : Field → List TreePart
field_parts f = option_parts name_parts f.alias ++ (Name f.name ∷ (arguments_parts false f.arguments
    ++ (directives_parts false f.directives ++ flat_map selection_parts f.selection_set)))

pub field-parts : (n : NodeView Field) → selection_parts (field n) ≡ node_parts field_parts n
field-parts n =
    let f : Field = n.value in
    ap selection_parts (variant.rolls-Field n) ∙ rolled.field_selection_rolled n
    ∙ ap (λ l. Node n.location ∷ l) (ap rolled.selected_parts (sym (roll-out-Field f))
    ∙ rolled.field_rolled f.arguments f.directives f.selection_set f.alias f.name)

abbrev pub inline_parts : InlineFragment → List TreePart
inline_parts f = option_parts name_parts f.type_condition ++ (directives_parts false f.directives
    ++ wanted_parts selection_parts f.selection_set)

pub inline-parts : (n : NodeView InlineFragment) → selection_parts (inline n) ≡ node_parts inline_parts n
inline-parts n =
    let f : InlineFragment = n.value in
    ap selection_parts (variant.rolls-InlineFragment n) ∙ rolled.inline_selection_rolled n
    ∙ ap (λ l. Node n.location ∷ l) (ap rolled.inline_parts (sym (roll-out-InlineFragment f))
    ∙ rolled.inline_rolled f.directives f.selection_set f.type_condition)

-- ---- what is kept

-- a selection is well-formed, if it is filled, and so are selections
abbrev Stays : Selection → Type 0
Stays x = is_filled_syntax x ≡ true → IsWellFormed (selection_parts x)

abbrev AllStay : List Selection → Type 0
AllStay xs = all_there (map is_filled_syntax xs) ≡ true → IsWellFormed (flat_map selection_parts xs)

-- what is put in a place stays, if it does wherever it is typable
typable_stays : {D G : Type 0} (place : G → Selection) (kept : D → G) (r : Result D Wrong)
    → ((d : D) → Stays (place (kept d))) → IfSome (option_map place (if_typable kept r)) Stays
typable_stays place kept (Err wrong) each = tt
typable_stays place kept (Ok d) each = each d

one_more : (o : Option Selection) (xs : List Selection) → IfSome o Stays → AllStay xs
    → AllStay (cons_option o xs)
one_more None xs h rest = rest
one_more (Some x) xs h rest = λ filled.
    let both = and_parts _ _ filled in
    each-append IsWellFormedPart _ _ (h both.0) (rest both.1)

module _ (s : Option Schema) where
  -- what is kept of a selection, and of selections, in each type
  abbrev IsKept : Selection → Type 0
  IsKept x = (ty : NameView) → IsWellFormed (selection_parts x) → IfSome (stripped_selection s ty x) Stays

  abbrev AreKept : List Selection → Type 0
  AreKept xs = (ty : NameView) → IsWellFormed (flat_map selection_parts xs) → AllStay (stripped s ty xs)

  before : (x : Selection) (xs : List Selection) → IsKept x → AreKept xs → AreKept (x ∷ xs)
  before x xs here rest ty h =
      let both = each-split IsWellFormedPart _ _ h in
      one_more _ _ (here ty both.0) (rest ty both.1)

  stripped-roll : (ty : NameView) (x : Layer)
      → stripped_selection s ty (roll-Selection x)
      ≡ strip_step (folds.map-Selection Selection Field InlineFragment SS SF SI (folds.fold-Selection SS SF SI
      strip_step (strip_field_step s) (strip_fragment_step s)) (folds.fold-Field SS SF SI strip_step
      (strip_field_step s) (strip_fragment_step s)) (folds.fold-InlineFragment SS SF SI strip_step
      (strip_field_step s) (strip_fragment_step s)) x) ty
  stripped-roll ty x = ap (λ (u : SS). u ty) (folds.fold-roll-Selection SS SF SI strip_step
      (strip_field_step s) (strip_fragment_step s) x)

  field_kept : (n : NodeView Field) → AreKept n.value.selection_set → IsKept (field n)
  field_kept n below ty h =
      let f : Field = n.value in
      subst (λ o. IfSome o Stays) (sym (stripped-roll ty _ ∙ ap (option_map (λ g. field (in_place_of n g)))
      (field_stripped s ty f))) (typable_stays (λ g. field (in_place_of n g)) kept
      (typable_field s ty f.name (is_bare f.selection_set)) stays)
    where
      kept : NodeView FieldDefinition → Field
      kept = kept_field n.value.alias n.value.name n.value.arguments n.value.directives
          (λ t. stripped s t n.value.selection_set)

      stays : (d : NodeView FieldDefinition) → Stays (field (in_place_of n (kept d)))
      stays d filled =
          let g : NodeView Field = in_place_of n (kept d) in
          subst IsWellFormed (sym (field-parts g)) (
            tt,
            behind (option_parts name_parts n.value.alias) _ _ (λ k. (
              k.0,
              behind _ _ _ (behind (directives_parts false n.value.directives) _ _
                  (λ l. below (child_of d) l (sym (field_filled g) ∙ filled))) k.1,
            )) (subst IsWellFormed (field-parts n) h).1,
          )

  inline_kept : (n : NodeView InlineFragment) → AreKept n.value.selection_set → IsKept (inline n)
  inline_kept n below ty h =
      let f : InlineFragment = n.value in
      subst (λ o. IfSome o Stays) (sym (stripped-roll ty _ ∙ ap (option_map (λ g. inline (in_place_of n g)))
      (fragment_stripped s ty f))) (typable_stays (λ g. inline (in_place_of n g)) kept
      (typable_fragment s ty f.type_condition) stays)
    where
      kept : NameView → InlineFragment
      kept = kept_fragment n.value.type_condition n.value.directives (λ t. stripped s t n.value.selection_set)

      stays : (child : NameView) → Stays (inline (in_place_of n (kept child)))
      stays child filled =
          let g : NodeView InlineFragment = in_place_of n (kept child) in
          subst IsWellFormed (sym (inline-parts g)) (
            tt,
            behind _ _ _ (behind (directives_parts false n.value.directives) _ _
                (λ k. wanted g.value.selection_set (sym (inline_filled g) ∙ filled) (below child k.1)))
                (subst IsWellFormed (inline-parts n) h).1,
          )

  -- what is kept of selections
  pub list_kept : (xs : List Selection) → AreKept xs
  list_kept = of_selections IsKept AreKept (λ ty h filled. tt) before field_kept
      (λ n ty h. subst (λ o. IfSome o Stays) (sym (stripped-roll ty _)) (λ filled. h)) inline_kept
