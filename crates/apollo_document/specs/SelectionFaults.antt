-- The faults of an untyped list in a type, in order. For each typable selection they are those of its
-- subselections in its child type. For each other one they are what is wrong with it. Of a field, the path of
-- both is longer by its response key. GraphQL specification of October 2021, sections 2.4 to 2.8.
--
-- **Faults of selections.** `faults_of_selections` goes by the selections in order. A typable one has
-- the faults of its subselections, in its child type. Any other one has what is wrong with it: of a
-- field nothing, where the schema lacks the type that it is selected from. If the selection is a field,
-- the path of these faults is longer by its response key.
use Rattle.std.specs.Prelude.{List, [], ◌∷◌, ◌++◌, Option, Result, Ok, Err}
use Rattle.std.specs.List.{flat_map}
use Rattle.graphql_nodes.specs.NameView.{NameView}
use Rattle.graphql_nodes.specs.declared.source.SourceSpan.{SourceSpan}
use Rattle.graphql_ast.specs.declared.selection.Selection.{Selection}
use Rattle.graphql_ast.specs.declared.selection.Selection.TheOpen.{Selection-F, Field-F, InlineFragment-F}
use Rattle.graphql_ast.specs.declared.selection.Selection.TheFolds as folds
use Rattle.graphql_ast.specs.declared.selection.Field.{Field}
use Rattle.graphql_ast.specs.declared.selection.InlineFragment.{InlineFragment}
use Rattle.apollo_schema.specs.declared.schema.Schema.{Schema}
use Rattle.apollo_executable.specs.SelectionParts.{response_key_of}
use Rattle.apollo_document.specs.Typable.{Fault, Wrong, child_of, is_bare, typable_field, typable_fragment}
use Rattle.apollo_document.specs.declared.selection_path.SelectionPath.{SelectionPath}

-- the path of what is inside a field with this response key
abbrev pub inside : SelectionPath → NameView → SelectionPath
inside path key = record { root = path.root; nested_fields = path.nested_fields ++ key ∷ [] }

-- the faults of a selection in a type, by its path
abbrev pub FS : Type 0
FS = NameView → SelectionPath → List Fault

-- the faults of a field or an inline fragment in a type, by the location of its node and by its path
abbrev pub FN : Type 0
FN = NameView → Wrong

-- one level of a selection
abbrev pub faults_step : Selection-F FS FN FN → FS
faults_step (Selection-F.Field n) ty path = n.value ty n.location path
faults_step (Selection-F.FragmentSpread n) ty path = []
faults_step (Selection-F.InlineFragment n) ty path = n.value ty n.location path

-- the faults of selections, in order
abbrev pub faults_below : List FS → FS
faults_below ss ty path = flat_map (λ (s : FS). s ty path) ss

-- the faults below what is typable, or what is wrong with what isn't
abbrev pub below_or_wrong : {A : Type 0} → (A → List Fault) → Option SourceSpan → SelectionPath
    → Result A Wrong → List Fault
below_or_wrong below location path (Ok a) = below a
below_or_wrong below location path (Err wrong) = wrong location path

-- one level of a field
abbrev pub field_faults_step : Option Schema → Field-F FS FN FN → FN
field_faults_step s f ty location path =
    below_or_wrong (λ d.
    faults_below f.selection_set (child_of d) (inside path (response_key_of f.alias f.name))) location
    (inside path (response_key_of f.alias f.name)) (typable_field s ty f.name (is_bare f.selection_set))

-- one level of an inline fragment
abbrev pub fragment_faults_step : Option Schema → InlineFragment-F FS FN FN → FN
fragment_faults_step s f ty location path =
    below_or_wrong (λ child. faults_below f.selection_set child path) location path
    (typable_fragment s ty f.type_condition)

-- the faults of a selection in a type, and of what is below it
abbrev pub faults_of_selection : Option Schema → NameView → SelectionPath → Selection → List Fault
faults_of_selection s ty path x =
    folds.fold-Selection FS FN FN faults_step (field_faults_step s) (fragment_faults_step s) x ty path

-- the faults of a field in a type, and of what is below it
abbrev pub faults_of_field : Option Schema → NameView → Option SourceSpan → SelectionPath → Field → List Fault
faults_of_field s ty location path f =
    folds.fold-Field FS FN FN faults_step (field_faults_step s) (fragment_faults_step s) f ty location path

-- the faults of an inline fragment in a type, and of what is below it
abbrev pub faults_of_fragment : Option Schema → NameView → Option SourceSpan → SelectionPath → InlineFragment
    → List Fault
faults_of_fragment s ty location path f =
    folds.fold-InlineFragment FS FN FN faults_step (field_faults_step s) (fragment_faults_step s) f ty
    location path

-- the faults of a list of selections in a type
abbrev pub faults_of_selections : Option Schema → NameView → SelectionPath → List Selection → List Fault
faults_of_selections s ty path xs = flat_map (faults_of_selection s ty path) xs
