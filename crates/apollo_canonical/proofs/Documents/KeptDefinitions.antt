-- What a document of well-formed operations and fragments is erased to is well-formed, where no set is empty
-- of which one selection is wanted.
use Rattle.apollo_canonical.proofs as canonical
use canonical.Prelude.{AllByRecursion, AllZip, Bool, Definition, DocumentItem, ExecutableDocument, Fragment}
use canonical.Prelude.{FragmentDefinition, HasWellFormedExecutables, IfSome, IsDocumentOf, IsFilledDocument}
use canonical.Prelude.{IsFragmentOf, IsOperationOf, IsUnderName, IsWellFormed, IsWellFormedDefinition}
use canonical.Prelude.{IsWellFormedPart, List, NameView, NodeView, None, Operation, OperationDefinition}
use canonical.Prelude.{Option, Schema, Selection, SelectionSet, Some, TreePart, [], ap, as_fragment}
use canonical.Prelude.{as_operation, at_place, cond, definition_parts, directives_parts, document_list}
use canonical.Prelude.{document_parts, each-append, each-first, erased_definitions, erased_fragment}
use canonical.Prelude.{erased_operation, erased_set, false, first_if_anonymous, flat_map, fragment_in}
use canonical.Prelude.{fragment_under_name, is_anonymous, is_filled_set, kept_anonymous, kept_fragments}
use canonical.Prelude.{kept_named, map, node_parts, operation_in, operation_under_name, option_map}
use canonical.Prelude.{selection_parts, some_there, stripped, stripped_fragment, stripped_operation, subst}
use canonical.Prelude.{sym, true, values_of, variable_parts, wanted_parts, ◌∙◌, ◌∷◌, ◌≡◌}
use canonical.Schemas.WellFormedLists.{each-chosen, each-from_flat_map, each-from_map, each-map, each-passing}
use canonical.Schemas.WellFormedLists.{each-split, if-found}
use canonical.Documents.FilledSyntax.{is_filled_syntax, set_as_filled}
use canonical.Documents.KeptSelections.{behind, list_kept, wanted}
use Rattle.apollo_executable.specs.Listed.{listed}
use Rattle.graphql_ast.specs.declared.definition.Definition.TheVariants as d

-- what holds of lists that are related place by place
zipped : {A B : Type 0} (R : A → B → Type 0) (P : A → Type 0) (Q S : B → Type 0)
    → ((a : A) (b : B) → R a b → P a → Q b → S b) → (xs : List A) (ys : List B) → AllZip R xs ys
    → AllByRecursion P xs → AllByRecursion Q ys → AllByRecursion S ys
zipped R P Q S one [] [] h p q = tt
zipped R P Q S one (x ∷ xs) (y ∷ ys) h p q = (one x y h.0 p.0 q.0, zipped R P Q S one xs ys h.1 p.1 q.1)
zipped R P Q S one xs ys h p q = absurd h

-- and of the values of tables that are
zipped_values : {A B : Type 0} (R : A → B → Type 0) (P : A → Type 0) (Q S : B → Type 0)
    → ((a : A) (b : B) → R a b → P a → Q b → S b) → (ks : List (NameView × A)) (es : List (NameView × B))
    → AllZip (IsUnderName R) ks es → AllByRecursion (λ k. P k.1) ks → AllByRecursion Q (values_of es)
    → AllByRecursion S (values_of es)
zipped_values R P Q S one ks es h p q =
    each-map S _ es (zipped _ _ _ _ (λ k e r. one k.1 e.1 r.1) ks es h p (each-from_map Q _ es q))

abbrev pub OperationIsWell : NodeView OperationDefinition → Type 0
OperationIsWell n = IsWellFormedDefinition (d.OperationDefinition n)

abbrev pub FragmentIsWell : NodeView FragmentDefinition → Type 0
FragmentIsWell n = IsWellFormedDefinition (d.FragmentDefinition n)

abbrev OperationFilled : NodeView Operation → Type 0
OperationFilled o = is_filled_set o.value.selection_set ≡ true

abbrev FragmentFilled : NodeView Fragment → Type 0
FragmentFilled f = is_filled_set f.value.selection_set ≡ true

module _ (s : Option Schema) where
  -- ---- what is kept of a list

  module _ (xs : List DocumentItem) (w : HasWellFormedExecutables xs) where
    anonymous_kept : AllByRecursion OperationIsWell (listed (kept_anonymous s xs))
    anonymous_kept = first _ (if-found OperationIsWell _ _ w.each_operation)
      where
        first : (o : Option (NodeView OperationDefinition)) → IfSome o OperationIsWell
            → AllByRecursion OperationIsWell (listed (first_if_anonymous o))
        first None h = tt
        first (Some n) h = elim (is_anonymous n) as (λ b. AllByRecursion OperationIsWell
            (listed (cond b (Some n) None))) [ true ↦ (h, tt) | false ↦ tt ]

    named_kept : AllByRecursion (λ k. OperationIsWell k.1) (kept_named s xs)
    named_kept = each-first _ _ _ (each-chosen _ OperationIsWell operation_under_name
        (λ n. under n n.value.name) _ (each-passing _ _ _ w.each_operation))
      where
        under : (n : NodeView OperationDefinition) (o : Option NameView) → OperationIsWell n
            → IfSome {T = NameView × NodeView OperationDefinition}
            (option_map (λ (name : NameView). (name, n)) o) (λ k. OperationIsWell k.1)
        under n None h = tt
        under n (Some name) h = h

    fragments_kept : AllByRecursion (λ k. FragmentIsWell k.1) (kept_fragments s xs)
    fragments_kept = each-first _ _ _ (each-map _ fragment_under_name _ (each-passing _ _ _ w.each_fragment))

  -- ---- what it is erased to

  -- what a filled set is erased to is wanted
  set_erased : (set : SelectionSet) (xs : List Selection) (ty : NameView) → erased_set set ≡ stripped s ty xs
      → is_filled_set set ≡ true → IsWellFormed (flat_map selection_parts xs)
      → IsWellFormed (wanted_parts selection_parts (stripped s ty xs))
  set_erased set xs ty e filled w = wanted _ (ap (λ l. some_there (map is_filled_syntax l)) (sym e)
      ∙ ap some_there (set_as_filled set) ∙ filled) (list_kept s xs ty w)

  operation_erased : (n : NodeView OperationDefinition) (o : NodeView Operation) → IsOperationOf s n o
      → OperationIsWell n → OperationFilled o → OperationIsWell (at_place erased_operation o)
  operation_erased n o h w filled =
      let root : NameView = h.0 in
      let same : at_place erased_operation o ≡ at_place (stripped_operation s root) n = h.1.1.0 in
      subst OperationIsWell (sym same) (
        tt,
        behind _ _ _ (behind (flat_map (node_parts variable_parts) n.value.variables) _ _
            (behind (directives_parts false n.value.directives) _ _
            (λ k. set_erased o.value.selection_set n.value.selection_set root
            (ap (λ m. m.value.selection_set) same) filled k.1))) w.1,
      )

  fragment_erased : (n : NodeView FragmentDefinition) (f : NodeView Fragment) → IsFragmentOf s n f
      → FragmentIsWell n → FragmentFilled f → FragmentIsWell (at_place erased_fragment f)
  fragment_erased n f h w filled =
      let same : at_place erased_fragment f ≡ at_place (stripped_fragment s) n = h.0 in
      let front : List TreePart = directives_parts false n.value.directives in
      let set = set_erased f.value.selection_set n.value.selection_set n.value.type_condition
      (ap (λ m. m.value.selection_set) same) filled in
      subst FragmentIsWell (sym same) (tt, (w.1.0, (w.1.1.0, behind front _ _ (λ k. set k.1) w.1.1.1)))

  pub document_erased : (xs : List DocumentItem) (document : ExecutableDocument) → IsDocumentOf s xs document
      → HasWellFormedExecutables xs → IsFilledDocument document
      → AllByRecursion IsWellFormedDefinition (erased_definitions document)
  document_erased xs document means w filled =
      let Erased : NodeView Operation → Type 0 = λ o. OperationIsWell (at_place erased_operation o) in
      let anonymous : List (NodeView Operation) = listed document.operations.anonymous in
      let both = each-split OperationFilled anonymous _ filled.operations in
      each-append _ _ _ (each-map IsWellFormedDefinition _ _ (each-append Erased anonymous _
      (zipped _ OperationIsWell OperationFilled Erased operation_erased _ _ means.anonymous
      (anonymous_kept xs w) both.0) (zipped_values _ OperationIsWell OperationFilled Erased
      operation_erased _ _ means.named (named_kept xs w) both.1))) (each-map IsWellFormedDefinition _ _
      (zipped_values (IsFragmentOf s) FragmentIsWell FragmentFilled
      (λ f. FragmentIsWell (at_place erased_fragment f)) fragment_erased _ _ means.fragments
      (fragments_kept xs w) filled.fragments))

-- ---- the lists of well-formed definitions

pub executables : (errors : Bool) (ds : List Definition) → AllByRecursion IsWellFormedDefinition ds
    → HasWellFormedExecutables (document_list errors ds)
executables errors ds a =
    let Well : DocumentItem → Type 0 = λ x. IsWellFormedDefinition x.1 in
    let all : AllByRecursion Well (document_list errors ds) = each-map Well _ ds a in
    record {
      each_operation = each-chosen OperationIsWell Well operation_in (λ x. operation x.1) _ all;
      each_fragment = each-chosen FragmentIsWell Well fragment_in (λ x. fragment x.1) _ all;
    }
  where
    operation : (e : Definition) → IsWellFormedDefinition e → IfSome (as_operation e) OperationIsWell
    operation (d.OperationDefinition n) h = h
    operation _ h = tt

    fragment : (e : Definition) → IsWellFormedDefinition e → IfSome (as_fragment e) FragmentIsWell
    fragment (d.FragmentDefinition n) h = h
    fragment _ h = tt

pub executables_of_document : (errors : Bool) (ds : List Definition) → IsWellFormed (document_parts ds)
    → HasWellFormedExecutables (document_list errors ds)
executables_of_document errors ds h =
    executables errors ds (each-from_flat_map IsWellFormedPart definition_parts ds h.1)
