-- What a document of a list is erased to: what is kept of the list, stripped.
use Rattle.std.proofs.Common.{◌≡◌, ◌∙◌, ap, refl, sym, true, List, [], ◌∷◌, ◌++◌, map, Option, option_map}
use Rattle.std.specs.List.{AllByRecursion, AllZip, cons_option, filter_map}
use Rattle.graphql_nodes.specs.NameView.{NameView}
use Rattle.graphql_nodes.specs.NodeView.{NodeView}
use Rattle.graphql_nodes.specs.Tables.{values_of}
use Rattle.graphql_ast.specs.declared.definition.Definition.TheVariants as d
use Rattle.graphql_ast.specs.declared.operation.FragmentDefinition.{FragmentDefinition}
use Rattle.graphql_ast.specs.declared.operation.OperationDefinition.{OperationDefinition}
use Rattle.apollo_component.proofs.Lists.Each.{each-append}
use Rattle.apollo_schema.specs.declared.schema.Schema.{Schema}
use Rattle.apollo_executable.specs.Erasure.{at_place, erased_definitions, erased_fragment, erased_operation}
use Rattle.apollo_executable.specs.Listed.{listed}
use Rattle.apollo_executable.specs.Operations.{all_operations}
use Rattle.apollo_executable.specs.declared.document.ExecutableDocument.{ExecutableDocument}
use Rattle.apollo_executable.specs.declared.operation.Fragment.{Fragment}
use Rattle.apollo_executable.specs.declared.operation.Operation.{Operation}
use Rattle.apollo_document.specs.AddedDefinitions.{DocumentItem}
use Rattle.apollo_document.specs.Documents.{IsDocumentOf, IsUnderName}
use Rattle.apollo_document.specs.KeptDefinitions.{is_rooted, kept_anonymous, kept_fragments, kept_named}
use Rattle.apollo_document.specs.TypedDefinitions.{IsFragmentOf, IsOperationOf, stripped_operation}
use Rattle.apollo_compiler.specs.Headline.{fragment_stripped, kept_definitions, kept_operations}
use Rattle.apollo_compiler.specs.Headline.{operation_stripped}

-- lists that are related place by place, one after another; and the values of tables
zip-append : {A B : Type 0} (R : A → B → Type 0) (xs : List A) (ys : List B) (us : List A) (vs : List B)
    → AllZip R xs ys → AllZip R us vs → AllZip R (xs ++ us) (ys ++ vs)
zip-append R [] [] us vs h g = g
zip-append R [] (y ∷ ys) us vs h g = absurd h
zip-append R (x ∷ xs) [] us vs h g = absurd h
zip-append R (x ∷ xs) (y ∷ ys) us vs h g = (h.0, zip-append R xs ys us vs h.1 g)

zip-values : {A B : Type 0} (R : A → B → Type 0) (ks : List (NameView × A)) (es : List (NameView × B))
    → AllZip (IsUnderName R) ks es → AllZip R (values_of ks) (values_of es)
zip-values R [] [] h = tt
zip-values R [] (e ∷ es) h = absurd h
zip-values R (k ∷ ks) [] h = absurd h
zip-values R (k ∷ ks) (e ∷ es) h = (h.0.1, zip-values R ks es h.1)

operations-kept : (s : Option Schema) (ns : List (NodeView OperationDefinition))
    (os : List (NodeView Operation)) → AllZip (IsOperationOf s) ns os
    → map (λ o. d.OperationDefinition (at_place erased_operation o)) os ≡ filter_map (operation_stripped s) ns
operations-kept s [] [] h = refl
operations-kept s [] (o ∷ os) h = absurd h
operations-kept s (n ∷ ns) [] h = absurd h
operations-kept s (n ∷ ns) (o ∷ os) h =
    (λ i. d.OperationDefinition (h.0.1.1.0 i) ∷ operations-kept s ns os h.1 i)
    ∙ ap (λ (o : Option NameView). cons_option (option_map (λ (root : NameView). d.OperationDefinition
    (at_place (stripped_operation s root) n)) o) (filter_map (operation_stripped s) ns)) (sym h.0.1.0)

fragments-kept : (s : Option Schema) (ns : List (NodeView FragmentDefinition)) (fs : List (NodeView Fragment))
    → AllZip (IsFragmentOf s) ns fs
    → map (λ f. d.FragmentDefinition (at_place erased_fragment f)) fs ≡ map (fragment_stripped s) ns
fragments-kept s [] [] h = refl
fragments-kept s [] (f ∷ fs) h = absurd h
fragments-kept s (n ∷ ns) [] h = absurd h
fragments-kept s (n ∷ ns) (f ∷ fs) h = λ i. d.FragmentDefinition (h.0.0 i) ∷ fragments-kept s ns fs h.1 i

pub document-kept : (s : Option Schema) (xs : List DocumentItem) (document : ExecutableDocument)
    → IsDocumentOf s xs document → erased_definitions document ≡ kept_definitions s xs
document-kept s xs document h =
    let operations = operations-kept s (kept_operations s xs) (all_operations document.operations)
    (zip-append (IsOperationOf s) (listed (kept_anonymous s xs)) (listed document.operations.anonymous)
    (values_of (kept_named s xs)) (values_of document.operations.named) h.anonymous
    (zip-values (IsOperationOf s) (kept_named s xs) document.operations.named h.named)) in
    let fragments = fragments-kept s (values_of (kept_fragments s xs)) (values_of document.fragments)
    (zip-values (IsFragmentOf s) (kept_fragments s xs) document.fragments h.fragments) in
    λ i. operations i ++ fragments i

-- each operation that is kept has a root type
each-value : (s : Option Schema) (es : List (NameView × NodeView OperationDefinition))
    → AllByRecursion (λ e. is_rooted s e.1 ≡ true) es
    → AllByRecursion (λ n. is_rooted s n ≡ true) (values_of es)
each-value s [] a = tt
each-value s (e ∷ es) a = (a.0, each-value s es a.1)

pub operations-rooted : (s : Option Schema) (xs : List DocumentItem)
    → AllByRecursion (λ n. is_rooted s n ≡ true) (listed (kept_anonymous s xs))
    → AllByRecursion (λ e. is_rooted s e.1 ≡ true) (kept_named s xs)
    → AllByRecursion (λ n. is_rooted s n ≡ true) (kept_operations s xs)
operations-rooted s xs anonymous named =
    each-append (λ n. is_rooted s n ≡ true) (listed (kept_anonymous s xs)) (values_of (kept_named s xs))
    anonymous (each-value s (kept_named s xs) named)
