-- What is well-formed is filled: the grammar wants one selection where a set may not be empty.
use Rattle.apollo_canonical.proofs as canonical
use canonical.Prelude.{AllByRecursion, ExecutableDocument, Field, Fragment, InlineFragment, IsFilledDocument}
use canonical.Prelude.{IsWellFormed, IsWellFormedDefinition, IsWellFormedPart, List, NodeView, Operation}
use canonical.Prelude.{Selection, SelectionSet, TreePart, [], all_there, ap, arguments_parts, at_place}
use canonical.Prelude.{directives_parts, each-weaken, erased_definitions, erased_fragment, erased_operation}
use canonical.Prelude.{erased_set, false, flat_map, is_filled_set, map, name_parts, option_parts, refl}
use canonical.Prelude.{selection_parts, some_there, subst, sym, true, true≢false, wanted_parts, ◌&&◌, ◌++◌}
use canonical.Prelude.{◌∙◌, ◌∷◌, ◌≡◌}
use canonical.Schemas.WellFormedLists.{each-from_map, each-split}
use canonical.Documents.FilledSyntax.{field_filled, inline_filled, is_filled_syntax, set_as_filled}
use canonical.Documents.FilledSyntax.{spread_filled}
use canonical.Documents.Induction.{field, inline, of_selections}
use canonical.Documents.KeptSelections.{field-parts, inline-parts}
use Rattle.graphql_ast.specs.declared.definition.Definition.TheVariants as d

-- what stands last
last : (front xs : List TreePart) → IsWellFormed (front ++ xs) → IsWellFormed xs
last front xs h = (each-split IsWellFormedPart front xs h).1

abbrev Fills : Selection → Type 0
Fills x = IsWellFormed (selection_parts x) → is_filled_syntax x ≡ true

abbrev Fill : List Selection → Type 0
Fill xs = IsWellFormed (flat_map selection_parts xs) → all_there (map is_filled_syntax xs) ≡ true

before : (x : Selection) (xs : List Selection) → Fills x → Fill xs → Fill (x ∷ xs)
before x xs here rest h =
    let both = each-split IsWellFormedPart _ _ h in
    λ i. here both.0 i && rest both.1 i

wanted_fill : (xs : List Selection) → Fill xs → IsWellFormed (wanted_parts selection_parts xs)
    → some_there (map is_filled_syntax xs) ≡ true
wanted_fill [] all h = absurd (true≢false (sym h.0))
wanted_fill (x ∷ xs) all h = all h.1

field_fills : (n : NodeView Field) → Fill n.value.selection_set → Fills (field n)
field_fills n below h =
    let parts = (subst IsWellFormed (field-parts n) h).1 in
    field_filled n ∙ below (last _ _ (last (arguments_parts false n.value.arguments) _
    (last (option_parts name_parts n.value.alias) _ parts).1))

inline_fills : (n : NodeView InlineFragment) → Fill n.value.selection_set → Fills (inline n)
inline_fills n below h =
    let parts = (subst IsWellFormed (inline-parts n) h).1 in
    inline_filled n ∙ wanted_fill n.value.selection_set below
    (last (directives_parts false n.value.directives) _ (last _ _ parts))

list_fills : (xs : List Selection) → Fill xs
list_fills = of_selections Fills Fill (λ h. refl) before field_fills (λ n h. spread_filled n) inline_fills

-- a set whose selections are wanted, and erased to well-formed ones
set_fills : (set : SelectionSet) → IsWellFormed (wanted_parts selection_parts (erased_set set))
    → is_filled_set set ≡ true
set_fills set h = sym (ap some_there (set_as_filled set)) ∙ wanted_fill _ (list_fills _) h

abbrev IsOperation : NodeView Operation → Type 0
IsOperation o = IsWellFormedDefinition (d.OperationDefinition (at_place erased_operation o))

abbrev IsFragment : NodeView Fragment → Type 0
IsFragment f = IsWellFormedDefinition (d.FragmentDefinition (at_place erased_fragment f))

operation_fills : (o : NodeView Operation) → IsOperation o → is_filled_set o.value.selection_set ≡ true
operation_fills o h = set_fills o.value.selection_set (last (directives_parts false o.value.directives) _
    (last _ _ (last (option_parts name_parts o.value.name) _ h.1)))

fragment_fills : (f : NodeView Fragment) → IsFragment f → is_filled_set f.value.selection_set ≡ true
fragment_fills f h = set_fills f.value.selection_set (last (directives_parts false f.value.directives) _
    h.1.1.1)

pub document_fills : (document : ExecutableDocument)
    → AllByRecursion IsWellFormedDefinition (erased_definitions document) → IsFilledDocument document
document_fills document h =
    let both = each-split IsWellFormedDefinition _ _ h in
    record {
      operations = each-weaken _ _ operation_fills _ (each-from_map IsWellFormedDefinition _ _ both.0);
      fragments = each-weaken _ _ fragment_fills _ (each-from_map IsWellFormedDefinition _ _ both.1);
    }
