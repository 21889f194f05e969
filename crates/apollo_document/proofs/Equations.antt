-- What elaboration gives of a field, an inline fragment and a list, by what it gives of what is below.
use Rattle.std.proofs.Common.{◌≡◌, ◌∙◌, ℕ, ◌+◌, ◌-◌, ◌<◌, ◌==◌, ap, sym, refl, Bool, true, false}
use Rattle.std.proofs.Common.{List, [], ◌∷◌, ◌++◌, map, length, take, get_or, append-nil, arith}
use Rattle.std.proofs.Common.{Option, Some, None, option_map, is_some, Result, Ok, Err}
use Rattle.std.specs.List.{filter_map, flat_map, cons_option}
use Rattle.std.proofs.lemmas.Bool.{eqb-true, true≢false}
use Rattle.std.proofs.lemmas.List.{nil_from_length, length-append, length-map, take_more, flat_map_more}
use Rattle.std.proofs.lemmas.List.Elements.{filter_map-append}
use Rattle.std.proofs.lemmas.List.Folds.{flat_map-map}
use Rattle.std.proofs.Math.Seq.{take-append_seam}
use Rattle.graphql_nodes.specs.NameView.{NameView}
use Rattle.graphql_nodes.specs.NodeView.{NodeView}
use Rattle.graphql_nodes.specs.declared.source.SourceSpan.{SourceSpan}
use Rattle.graphql_ast.specs.declared.selection.Selection as ast
use Rattle.graphql_ast.specs.declared.selection.Selection.TheFolds as folds
use Rattle.graphql_ast.specs.declared.selection.Field as ast_field
use Rattle.graphql_ast.specs.declared.selection.InlineFragment as ast_inline
use Rattle.graphql_ast.specs.declared.type_system.FieldDefinition.{FieldDefinition}
use Rattle.apollo_schema.specs.declared.schema.Schema.{Schema}
use Rattle.apollo_executable.specs.SelectionParts.{response_key_of}
use Rattle.apollo_executable.specs.declared.selection.Selection.{Selection}
use Rattle.apollo_executable.specs.declared.selection.SelectionSet.{SelectionSet}
use Rattle.apollo_document.specs.Typable.{Fault, Wrong, child_of, defined_in, definition_in, is_bare}
use Rattle.apollo_document.specs.Typable.{if_typable, typable_field, typable_fragment, unless_leaf}
use Rattle.apollo_document.specs.Typable.{with_subselections}
use Rattle.apollo_document.specs.SelectionFaults.{FS, FN, faults_step, field_faults_step}
use Rattle.apollo_document.specs.SelectionFaults.{fragment_faults_step, below_or_wrong, inside}
use Rattle.apollo_document.specs.SelectionFaults.{faults_of_selections, faults_of_field, faults_of_fragment}
use Rattle.apollo_document.specs.SelectionFaults.{faults_of_selection}
use Rattle.apollo_document.specs.Elaborated.{TS, TF, TI, selection_step, field_step, fragment_step}
use Rattle.apollo_document.specs.Elaborated.{field_over, inline_over, typed_field, typed_inline_fragment}
use Rattle.apollo_document.specs.Elaborated.{elaborated_selection, elaborated_field, elaborated_fragment}
use Rattle.apollo_document.specs.Elaborated.{elaborated}
use Rattle.apollo_document.specs.Noted.{noting}
use Rattle.apollo_document.specs.Within.{faults_within, leaf_in, set_below, set_faults, with_leaf}
use Rattle.apollo_document.specs.declared.elaborating.Elaboration.{Elaboration}
use Rattle.apollo_document.specs.declared.selection_path.SelectionPath.{SelectionPath}

pub filter_map-map : {X Y Z : Type 0} (g : X → Y) (h : Y → Option Z) (xs : List X)
    → filter_map h (map g xs) ≡ filter_map (λ x. h (g x)) xs
filter_map-map g h [] = refl
filter_map-map g h (x ∷ xs) = ap (cons_option (h (g x))) (filter_map-map g h xs)

pub is_bare-map : {A B : Type 0} (g : A → B) (xs : List A) → is_bare (map g xs) ≡ is_bare xs
is_bare-map g xs = ap (λ n. n == 0) (length-map xs g)

pub bare-nil : {A : Type 0} (xs : List A) → is_bare xs ≡ true → xs ≡ []
bare-nil xs h = nil_from_length xs (eqb-true _ 0 h)

-- what is made of a typable field or fragment, by what each selection below gives in a type
pub below-each : {X Y A B E : Type 0} (each : X → NameView → Option Y) (xs : List X) (make : (NameView
    → List Y) → A → B) (judged : Bool → Result A E)
    → if_typable (make (λ t. filter_map (λ u. u t) (map each xs))) (judged (is_bare (map each xs)))
    ≡ if_typable (make (λ t. filter_map (λ x. each x t) xs)) (judged (is_bare xs))
below-each each xs make judged = λ i. if_typable (make (λ t. filter_map-map each (λ u. u t) xs i))
    (judged (is_bare-map each xs i))

-- what is made over what is typable
made_over : {A B C E : Type 0} (h : B → C) (g : A → B) (r : Result A E) (b : B) → Some b ≡ if_typable g r
    → Some (h b) ≡ if_typable (λ a. h (g a)) r
made_over h g (Ok a) b is = ap (option_map h) is
made_over h g (Err wrong) b is = ap (option_map h) is

-- nothing is made where nothing is typable
none_made : {A B C E : Type 0} (g : A → B) (h : A → C) (r : Result A E) → None ≡ if_typable g r
    → None ≡ if_typable h r
none_made g h (Ok a) is = ap (option_map (λ _. h a)) is
none_made g h (Err wrong) is = refl

-- the code finds what is typable as an option, and pushes what is wrong
is_ok : {A E : Type 0} (r : Result A E) (a : A) → Some a ≡ if_typable (λ x. x) r → r ≡ Ok a
is_ok r a h = grind (arith, h)

module _ {A : Type 0} (location : Option SourceSpan) (path : SelectionPath) where
  pub none_found : (below : A → List Fault) (r : Result A Wrong) → None ≡ if_typable (λ x. x) r
      → below_or_wrong (λ _. []) location path r ≡ below_or_wrong below location path r
  none_found below r h = grind (arith, h)

  one_found : (r : Result A Wrong) (a : A) (before : List Fault) → Some a ≡ if_typable (λ x. x) r
      → before ++ below_or_wrong (λ _. []) location path r ≡ before
  one_found r a before h = rw (is_ok r a h) (append-nil before)

-- a definition stands where no leaf type is wrong with its subselections
unless_no_leaf : (bare : Bool) (d : NodeView FieldDefinition) → unless_leaf bare d None ≡ Ok d
unless_no_leaf true d = refl
unless_no_leaf false d = refl

still_wrong : (s : Schema) (bare : Bool) (r : Result (NodeView FieldDefinition) Wrong)
    → None ≡ if_typable (λ d. d) r → with_subselections s bare r ≡ r
still_wrong s bare (Ok d) none = absurd (true≢false (ap is_some (sym none)))
still_wrong s bare (Err wrong) none = refl

-- a field is judged by its definition in a type, and then by its subselections
pub undefined_judged : (s : Option Schema) (ty : NameView) (f : ast_field.Field)
    → None ≡ if_typable (λ d. d) (definition_in s ty f.name)
    → typable_field s ty f.name (is_bare f.selection_set) ≡ definition_in s ty f.name
undefined_judged None ty f none = refl
undefined_judged (Some s) ty f none = still_wrong s (is_bare f.selection_set) (defined_in s ty f.name) none

defined_judged : (s : Option Schema) (ty : NameView) (f : ast_field.Field) (d : NodeView FieldDefinition)
    → Some d ≡ if_typable (λ d. d) (definition_in s ty f.name)
    → typable_field s ty f.name (is_bare f.selection_set) ≡ with_leaf s f.selection_set d
defined_judged None ty f d is = is_ok (definition_in None ty f.name) d is
    ∙ sym (unless_no_leaf (is_bare f.selection_set) d)
defined_judged (Some s) ty f d is =
    ap (with_subselections s (is_bare f.selection_set)) (is_ok (defined_in s ty f.name) d is)

-- what is made of a definition that may have its subselections, over its set
made_unless : {S B : Type 0} (make : NodeView FieldDefinition → S → B) (g : NodeView FieldDefinition → S)
    (bare : Bool) (d : NodeView FieldDefinition) (leaf : Option Wrong) (set : S)
    → Some set ≡ if_typable g (unless_leaf bare d leaf)
    → Some (make d set) ≡ if_typable (λ d. make d (g d)) (unless_leaf bare d leaf)
made_unless make g true d leaf set is = ap (option_map (make d)) is
made_unless make g false d None set is = ap (option_map (make d)) is
made_unless make g false d (Some wrong) set is = ap (option_map (make d)) is

module _ (s : Option Schema) where
  -- what elaboration gives of a list, below a field or a fragment
  abbrev pub typed_in : List ast.Selection → NameView → List Selection
  typed_in xs t = filter_map (elaborated_selection s t) xs

  abbrev each_typed : ast.Selection → TS
  each_typed x ty = elaborated_selection s ty x

  abbrev each_fault : ast.Selection → FS
  each_fault x ty path = faults_of_selection s ty path x

  module _ (ty : NameView) where
    pub elaborated-field : (f : ast_field.Field)
        → elaborated_field s ty f ≡ if_typable (typed_field f.alias f.name f.arguments f.directives
        (typed_in f.selection_set)) (typable_field s ty f.name (is_bare f.selection_set))
    elaborated-field f = (λ i. folds.fold_out-Field TS TF TI selection_step (field_step s) (fragment_step s) f
        i ty) ∙ below-each each_typed f.selection_set (typed_field f.alias f.name f.arguments f.directives)
        (typable_field s ty f.name)

    pub elaborated-fragment : (f : ast_inline.InlineFragment)
        → elaborated_fragment s ty f ≡ if_typable (typed_inline_fragment f.type_condition f.directives
        (typed_in f.selection_set)) (typable_fragment s ty f.type_condition)
    elaborated-fragment f = (λ i. folds.fold_out-InlineFragment TS TF TI selection_step (field_step s)
        (fragment_step s) f i ty) ∙ below-each each_typed f.selection_set (typed_inline_fragment
        f.type_condition f.directives) (λ _. typable_fragment s ty f.type_condition)

    module _ (location : Option SourceSpan) (path : SelectionPath) where
      pub faults-field : (f : ast_field.Field)
          → faults_of_field s ty location path f ≡ faults_within s ty location
          (inside path (response_key_of f.alias f.name)) f
      faults-field f =
          let within = inside path (response_key_of f.alias f.name) in
          (λ i. folds.fold_out-Field FS FN FN faults_step (field_faults_step s) (fragment_faults_step s) f i
          ty location path) ∙ (λ i. below_or_wrong (λ d. flat_map-map (λ (u : FS). u (child_of d) within)
          each_fault f.selection_set i) location within
          (typable_field s ty f.name (is_bare-map each_fault f.selection_set i)))

      pub faults-fragment : (f : ast_inline.InlineFragment)
          → faults_of_fragment s ty location path f ≡ below_or_wrong (λ child. faults_of_selections s child
          path f.selection_set) location path (typable_fragment s ty f.type_condition)
      faults-fragment f = (λ i. folds.fold_out-InlineFragment FS FN FN faults_step (field_faults_step s)
          (fragment_faults_step s) f i ty location path)
          ∙ (λ i. below_or_wrong (λ t. flat_map-map (λ (u : FS). u t path) each_fault f.selection_set i)
          location path (typable_fragment s ty f.type_condition))

    -- what the code makes of a field that is defined, and of an inline fragment
    module _ (f : ast_field.Field) (d : NodeView FieldDefinition)
        (is : Some d ≡ if_typable (λ d. d) (definition_in s ty f.name)) where
      judged : if_typable (typed_field f.alias f.name f.arguments f.directives (typed_in f.selection_set))
          (with_leaf s f.selection_set d) ≡ elaborated_field s ty f
      judged = ap (if_typable (typed_field f.alias f.name f.arguments f.directives
          (typed_in f.selection_set))) (sym (defined_judged s ty f d is)) ∙ sym (elaborated-field f)

      pub field_over_leaf : None ≡ set_below s d f.selection_set → None ≡ elaborated_field s ty f
      field_over_leaf none = none_made (λ d. elaborated s (child_of d) f.selection_set) (typed_field f.alias
          f.name f.arguments f.directives (typed_in f.selection_set)) (with_leaf s f.selection_set d) none
          ∙ judged

      pub field_made : (set : SelectionSet) → Some set ≡ set_below s d f.selection_set
          → Some (field_over f d set) ≡ elaborated_field s ty f
      field_made set typed =
          made_unless (field_over f) (λ d. elaborated s (child_of d) f.selection_set)
          (is_bare f.selection_set) d (leaf_in s (child_of d)) set typed ∙ judged

    -- what is noted of a field that is defined, and then of its subselections
    pub noted_within : (n : NodeView ast_field.Field) (d : NodeView FieldDefinition)
        (e mid last : Elaboration)
        → Some d ≡ if_typable (λ d. d) (definition_in s ty n.value.name)
        → mid ≡ noting (below_or_wrong (λ _. []) n.location e.path (definition_in s ty n.value.name)) e
        → last ≡ noting (set_faults s d n.location mid.path n.value.selection_set) mid
        → last ≡ noting (faults_within s ty n.location e.path n.value) e
    noted_within n d e mid last is first then =
        let below = n.value.selection_set in
        then ∙ (λ i. noting (set_faults s d n.location (first i).path below) (first i))
        ∙ ap (λ (l : List Fault). record e { faults = l ++ set_faults s d n.location e.path below })
        (one_found n.location e.path (definition_in s ty n.value.name) d e.faults is)
        ∙ ap (λ (r : Result (NodeView FieldDefinition) Wrong). noting (below_or_wrong
        (λ d. faults_of_selections s (child_of d) e.path below) n.location e.path r) e)
        (sym (defined_judged s ty n.value d is))

    pub fragment_made : (f : ast_inline.InlineFragment) (set : SelectionSet)
        → Some set ≡ if_typable (λ t. elaborated s t f.selection_set)
        (typable_fragment s ty f.type_condition)
        → Some (inline_over f.type_condition f.directives set) ≡ elaborated_fragment s ty f
    fragment_made f set typed =
        made_over (inline_over f.type_condition f.directives) (λ t. elaborated s t f.selection_set)
        (typable_fragment s ty f.type_condition) set typed ∙ sym (elaborated-fragment f)

-- a list without what was pushed last
pub unpushed : {A : Type 0} (xs old new : List A) (x : A) (size : ℕ) → size ≡ length old → old ≡ xs ++ x ∷ []
    → new ≡ take (size - 1) old → new ≡ xs
unpushed xs old new x size all is popped =
    let less : length (xs ++ x ∷ []) - 1 ≡ length xs = omega (arith, length-append xs (x ∷ [])) in
    rw (popped, all, is, less) (take-append_seam xs (x ∷ []))

-- one more selection of a list
pub kept_more : {X Y : Type 0} (h : X → Option Y) (bs cs : List Y) (xs : List X) (i : ℕ) (d : X)
    (o : Option Y) → i < length xs → bs ≡ filter_map h (take i xs) → o ≡ h (get_or xs i d)
    → cs ≡ bs ++ cons_option o [] → cs ≡ filter_map h (take (i + 1) xs)
kept_more h bs cs xs i d o w p q r = rw (take_more xs i d w, filter_map-append, r, p, q) refl

pub all_more : {X A : Type 0} (f : X → List A) (bs cs : List A) (xs : List X) (i : ℕ) (x : X) → i < length xs
    → x ≡ get_or xs i x → cs ≡ bs ++ flat_map f (take i xs) → cs ++ f x ≡ bs ++ flat_map f (take (i + 1) xs)
all_more f bs cs xs i x w is p = rw (take_more xs i x w, ← is, p) (flat_map_more f bs _ x)
