-- What typed selections are erased to, without locations, is what they are erased to without theirs.
use Rattle.apollo_canonical.proofs as canonical
use canonical.Prelude.{List, NodeView, None, SelectionSet, ap, bare_field, bare_inline_fragment, bare_name}
use canonical.Prelude.{bare_selection, bare_selection_set, erased, erased-typed-field, erased-typed-fragment}
use canonical.Prelude.{erased-typed-spread, erased_field, erased_inline_fragment, erased_set, erased_spread}
use canonical.Prelude.{in_place_of, map, of_set, refl, sym, ◌∙◌, ◌∷◌, ◌≡◌}
use canonical.Documents.Induction.{field, inline}
use canonical.Documents.TypedLevels.{erased-field, erased-inline, erased-spread, field-bare, field-erased}
use canonical.Documents.TypedLevels.{inline-bare, inline-erased, plain_field, plain_inline, selection-bare}
use canonical.Documents.TypedLevels.{set-bare, set-erased, untyped_field, untyped_inline}
use Rattle.graphql_ast.specs.BareSelections as syntax
use Rattle.graphql_ast.specs.declared.selection.Selection.TheOpen as layer
use Rattle.apollo_executable.specs.declared.selection.Field.{Field}
use Rattle.apollo_executable.specs.declared.selection.FragmentSpread.{FragmentSpread}
use Rattle.apollo_executable.specs.declared.selection.InlineFragment.{InlineFragment}
use Rattle.apollo_executable.specs.declared.selection.Selection.{Selection}
use Rattle.apollo_executable.specs.declared.selection.Selection.TheVariants as variant
use Rattle.apollo_canonical.proofs.Documents.PlainSyntax as untyped

-- the order of the two makes no difference
abbrev Same : List Selection → Type 0
Same xs = map syntax.bare_selection (map erased xs) ≡ map erased (map bare_selection xs)

set_same : (x : SelectionSet) → Same x.selections
    → map syntax.bare_selection (erased_set x) ≡ erased_set (bare_selection_set x)
set_same x h = simp (set-erased, h, set-bare)

field_same : (n : NodeView Field) → Same n.value.selection_set.selections
    → syntax.bare_selection (erased (variant.Field n)) ≡ erased (bare_selection (variant.Field n))
field_same n below =
    let f : Field = n.value in
    let both : syntax.bare_field (erased_field f) ≡ erased_field (bare_field f) =
    ap syntax.bare_field (field-erased f) ∙ untyped.field-bare (untyped_field f _)
    ∙ ap (untyped_field (plain_field f f.selection_set)) (set_same f.selection_set below)
    ∙ sym (ap erased_field (field-bare f) ∙ field-erased _) in
    ap syntax.bare_selection (erased-field n)
    ∙ untyped.selection-bare (layer.Selection-F.Field (in_place_of n (erased_field f)))
    ∙ ap (λ g. field (record { value = g; location = None })) both
    ∙ sym (ap erased (ap bare_selection (sym (variant.rolls-Field n)) ∙ selection-bare _)
    ∙ erased-typed-field _)

spread_same : (n : NodeView FragmentSpread)
    → syntax.bare_selection (erased (variant.FragmentSpread n))
    ≡ erased (bare_selection (variant.FragmentSpread n))
spread_same n = ap syntax.bare_selection (erased-spread n)
    ∙ untyped.selection-bare (layer.Selection-F.FragmentSpread (in_place_of n (erased_spread n.value)))
    ∙ sym (ap erased (ap bare_selection (sym (variant.rolls-FragmentSpread n)) ∙ selection-bare _)
    ∙ erased-typed-spread _)

inline_same : (n : NodeView InlineFragment) → Same n.value.selection_set.selections
    → syntax.bare_selection (erased (variant.InlineFragment n))
    ≡ erased (bare_selection (variant.InlineFragment n))
inline_same n below =
    let f : InlineFragment = n.value in
    let both : syntax.bare_inline_fragment (erased_inline_fragment f)
    ≡ erased_inline_fragment (bare_inline_fragment f) = ap syntax.bare_inline_fragment (inline-erased f)
    ∙ untyped.inline-bare (untyped_inline f _) ∙ ap (untyped_inline (plain_inline f f.selection_set))
    (set_same f.selection_set below) ∙ sym (ap erased_inline_fragment (inline-bare f)
    ∙ inline-erased _) in
    ap syntax.bare_selection (erased-inline n)
    ∙ untyped.selection-bare (layer.Selection-F.InlineFragment (in_place_of n (erased_inline_fragment f)))
    ∙ ap (λ g. inline (record { value = g; location = None })) both
    ∙ sym (ap erased (ap bare_selection (sym (variant.rolls-InlineFragment n)) ∙ selection-bare _)
    ∙ erased-typed-fragment _)

-- what a set is erased to
set_plain : (x : SelectionSet) → map syntax.bare_selection (erased_set x) ≡ erased_set (bare_selection_set x)
set_plain x = set_same x (of_set Same refl (λ n others below rest i. field_same n below i ∷ rest i)
    (λ n others rest i. spread_same n i ∷ rest i) (λ n others below rest i. inline_same n below i ∷ rest i) x)

-- so equal sets are erased to equal selections, and are from types of one name
module _ (a b : SelectionSet) (same : bare_selection_set a ≡ bare_selection_set b) where
  pub set-erased_alike : map syntax.bare_selection (erased_set a) ≡ map syntax.bare_selection (erased_set b)
  set-erased_alike = set_plain a ∙ ap erased_set same ∙ sym (set_plain b)

  pub set-typed_alike : bare_name a.ty ≡ bare_name b.ty
  set-typed_alike = ap (λ (x : SelectionSet). x.ty) (sym (set-bare a) ∙ same ∙ set-bare b)
