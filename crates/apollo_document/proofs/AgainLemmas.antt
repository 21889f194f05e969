-- A list builds one document, and a built document is that of its own write-out.
use Rattle.std.proofs.Common.{arith, ◌≡◌, ◌∙◌, ap, sym, subst, refl, Bool, true, List, [], ◌∷◌, ◌++◌, map}
use Rattle.std.proofs.Common.{filter, Option, None, Some, option_map, is_some, unwrap_or}
use Rattle.std.specs.List.{AllByRecursion, AllZip, IsDistinct, filter_map, flat_map, find}
use Rattle.std.proofs.lemmas.List.{map-append}
use Rattle.std.proofs.lemmas.List.Folds.{flat_map-map}
use Rattle.graphql_nodes.specs.NameView.{NameView}
use Rattle.graphql_nodes.specs.NodeView.{NodeView}
use Rattle.graphql_nodes.specs.SameText.{same_text}
use Rattle.graphql_nodes.specs.Tables.{values_of}
use Rattle.graphql_ast.specs.declared.definition.Definition.{Definition}
use Rattle.graphql_ast.specs.declared.definition.Definition.TheVariants as d
use Rattle.graphql_ast.specs.declared.operation.OperationDefinition.{OperationDefinition}
use Rattle.graphql_ast.specs.declared.operation.FragmentDefinition.{FragmentDefinition}
use Rattle.apollo_component.specs.FirstOfEach.{same_key}
use Rattle.apollo_component.proofs.Tabled.{first_of_each-distinct}
use Rattle.apollo_schema.specs.declared.schema.Schema.{Schema}
use Rattle.apollo_executable.specs.Listed.{listed}
use Rattle.apollo_executable.specs.Erasure.{at_place, erased_set, erased_operation, erased_fragment}
use Rattle.apollo_executable.specs.Erasure.{erased_definitions}
use Rattle.apollo_executable.specs.declared.operation.Operation.{Operation}
use Rattle.apollo_executable.specs.declared.operation.Fragment.{Fragment}
use Rattle.apollo_executable.specs.declared.selection.SelectionSet.{SelectionSet}
use Rattle.apollo_executable.specs.declared.document.ExecutableDocument.{ExecutableDocument}
use Rattle.apollo_document.specs.SelectionFaults.{faults_of_selections}
use Rattle.apollo_document.specs.Stripped.{stripped}
use Rattle.apollo_document.specs.TypedSelections.{IsTypedSet}
use Rattle.apollo_document.specs.declared.selection_path.ExecutableDefinitionName.{ExecutableDefinitionName}
use Rattle.apollo_document.specs.declared.selection_path.ExecutableDefinitionName.TheVariants as name
use Rattle.apollo_document.specs.declared.selection_path.SelectionPath.{SelectionPath}
use Rattle.apollo_document.specs.AddedDefinitions.{DocumentItem, document_list, operations, fragments}
use Rattle.apollo_document.specs.KeptDefinitions.{root_type_of, is_rooted, first_if_anonymous}
use Rattle.apollo_document.specs.KeptDefinitions.{operation_under_name, kept_anonymous, kept_named}
use Rattle.apollo_document.specs.KeptDefinitions.{is_on_type, fragment_under_name, kept_fragments}
use Rattle.apollo_document.specs.DocumentFaults.{ambiguous_if, rooted_faults, faults_in_operation}
use Rattle.apollo_document.specs.DocumentFaults.{on_type_faults, document_faults}
use Rattle.apollo_document.specs.TypedDefinitions.{stripped_operation, IsOperationOf, IsFragmentOf}
use Rattle.apollo_document.specs.Documents.{IsUnderName, IsDocumentOf}
use Rattle.apollo_document.specs.Stands.{entries_by, operation_over}
use Rattle.apollo_document.specs.WrittenAgain.{ambiguous_again}
use Rattle.apollo_document.proofs.BuiltLemmas.{with_selections, fragment_with}
use Rattle.apollo_component.proofs.FirstOfEachLemmas.{each-first}
use Rattle.apollo_document.proofs.WrittenLemmas.{IsSoundOperation, IsSoundFragment, IsSoundIf, fragment_item}
use Rattle.apollo_document.proofs.WrittenLemmas.{anonymous_items, written, AllKept, all_kept}
use Rattle.apollo_document.proofs.OperationLemmas.{Op, Frag}

abbrev erase_operation : NodeView Operation → Op
erase_operation o = at_place erased_operation o

abbrev erase_fragment : NodeView Fragment → Frag
erase_fragment f = at_place erased_fragment f

-- ---- lists that are related, place by place

module _ {A B : Type 0} (R : A → B → Type 0) where
  abbrev IsOne : Type 0
  IsOne = (x : A) (a b : B) → R x a → R x b → a ≡ b

  -- lists that are related to one list are one, where each thing has one value
  one_list : IsOne → (ks : List A) (es fs : List B) → AllZip R ks es → AllZip R ks fs → es ≡ fs
  one_list one [] [] fs h g = grind (arith, g)
  one_list one (k ∷ ks) (e ∷ es) [] h g = absurd g
  one_list one (k ∷ ks) (e ∷ es) (f ∷ fs) h g =
      let first = one k e f h.0 g.0 in let rest = one_list one ks es fs h.1 g.1 in λ i. first i ∷ rest i
  one_list one ks es fs h g = absurd h

  one_option : IsOne → (k : Option A) (e f : Option B) → AllZip R (listed k) (listed e)
      → AllZip R (listed k) (listed f) → e ≡ f
  one_option one k e f h g =
      let same : listed e ≡ listed f = one_list one _ _ _ h g in grind arith

  -- what follows for each of the second list, from what is so of each of the first
  each_second : {C : Type 0} (Q : A → Type 0) (f : B → C) (P : C → Type 0)
      → ((x : A) (y : B) → R x y → Q x → P (f y)) → (xs : List A) (ys : List B) → AllZip R xs ys
      → AllByRecursion Q xs → AllByRecursion P (map f ys)
  each_second Q f P so [] [] h a = tt
  each_second Q f P so (x ∷ xs) (y ∷ ys) h a = (so x y h.0 a.0, each_second Q f P so xs ys h.1 a.1)
  each_second Q f P so xs ys h a = absurd h

  module _ (erase : B → A) (self : (x : A) (b : B) → R x b → R (erase b) b) where
    self_list : (ks : List A) (es : List B) → AllZip R ks es → AllZip R (map erase es) es
    self_list [] [] h = tt
    self_list (k ∷ ks) (e ∷ es) h = (self k e h.0, self_list ks es h.1)
    self_list ks es h = absurd h

    self_option : (k : Option A) (e : Option B) → AllZip R (listed k) (listed e)
        → AllZip R (listed (option_map erase e)) (listed e)
    self_option k None h = tt
    self_option k (Some e) h = self_list _ (e ∷ []) h

-- ---- the same under names

module _ {A B : Type 0} (R : A → B → Type 0) where
  one_table : IsOne R → IsOne (IsUnderName R)
  one_table one k e f h g =
      let key : e.0 ≡ f.0 = h.0 ∙ sym g.0 in let value = one k.1 e.1 f.1 h.1 g.1 in λ i. (key i, value i)

  -- the names of entries differ as those of the kept definitions do
  distinct_table : (erase : B → A) (ks : List (NameView × A)) (es : List (NameView × B))
      → AllZip (IsUnderName R) ks es → IsDistinct (same_key same_text) ks
      → IsDistinct (same_key same_text) (entries_by erase es)
  unfolding IsDistinct
  distinct_table erase [] [] h g = tt
  distinct_table erase (k ∷ ks) (e ∷ es) h g = (
    each_second _ _ _ _ (λ l f z a. (λ i. same_text (h.0.0 i) (z.0 i)) ∙ a) ks es h.1 g.0,
    distinct_table erase ks es h.1 g.1,
  )
  distinct_table erase ks es h g = absurd h

-- ---- the names of kept definitions

-- they have the names that they are kept under
has_its_name : (os : List Op)
    → AllByRecursion (λ x. x.1.value.name ≡ Some x.0) (filter_map operation_under_name os)
has_its_name [] = tt
has_its_name (n ∷ os) = grind (arith, has_its_name os)

has_no_name : (o : Option Op) (n : Op) → first_if_anonymous o ≡ Some n → n.value.name ≡ None
has_no_name o n h = grind (arith, h)

-- ---- a write-out as a list

as_items : {A B : Type 0} (b : Bool) (erase : B → A) (make : A → Definition) (es : List (NameView × B))
    → map {B = DocumentItem} (λ x. (b, x)) (map (λ n. make (erase n)) (values_of es))
    ≡ map {B = DocumentItem} (λ e. (b, make e.1)) (entries_by erase es)
as_items b erase make [] = refl
as_items b erase make (e ∷ es) = ap (λ l. (b, make (erase e.1)) ∷ l) (as_items b erase make es)

anonymous-written : (b : Bool) (o : Option (NodeView Operation))
    → map (λ (x : Definition). (b, x)) (map (λ n. d.OperationDefinition (erase_operation n)) (listed o))
    ≡ anonymous_items b (option_map erase_operation o)
anonymous-written b o = grind arith

abbrev written_of : Bool → ExecutableDocument → List DocumentItem
written_of b document = written b (option_map erase_operation document.operations.anonymous)
    (entries_by erase_operation document.operations.named) (entries_by erase_fragment document.fragments)

is_written : (b : Bool) (document : ExecutableDocument)
    → document_list b (erased_definitions document) ≡ written_of b document
is_written b document =
    let op : NodeView Operation → Definition = λ n. d.OperationDefinition (erase_operation n) in
    let fragment : NodeView Fragment → Definition = λ n. d.FragmentDefinition (erase_fragment n) in
    let with : Definition → DocumentItem = λ x. (b, x) in
    let first = document.operations.anonymous in
    let named = document.operations.named in
    let others = document.fragments in
    map-append with (map op (listed first ++ values_of named)) (map fragment (values_of others))
    ∙ (λ i. map with (map-append op (listed first) (values_of named) i) ++ as_items b erase_fragment
    d.FragmentDefinition others i)
    ∙ ap (λ l. l ++ map (fragment_item b) (entries_by erase_fragment others)) (map-append with _ _
    ∙ (λ i. anonymous-written b first i ++ as_items b erase_operation d.OperationDefinition named i))

location-erased : (o : Option (NodeView Operation))
    → option_map (λ (n : Op). n.location) (option_map erase_operation o)
    ≡ option_map (λ (n : NodeView Operation). n.location) o
location-erased o = grind arith

-- what the law of typed sets says
pub record TypedSetsLaw : Type 0 where
  pub again : (s : Option Schema) (ty : NameView) (set : SelectionSet) → IsTypedSet s ty set
      → stripped s ty (erased_set set) ≡ erased_set set
  pub faultless : (s : Option Schema) (ty : NameView) (path : SelectionPath) (set : SelectionSet)
      → IsTypedSet s ty set → faults_of_selections s ty path (erased_set set) ≡ []
  pub unique : (s : Option Schema) (ty : NameView) (a b : SelectionSet) → IsTypedSet s ty a
      → IsTypedSet s ty b → erased_set a ≡ erased_set b → a ≡ b

module _ (sets : TypedSetsLaw) (s : Option Schema) where
  -- ---- one definition has one typed one

  one_operation : IsOne (IsOperationOf s)
  one_operation n a b h g =
      let root : g.0 ≡ h.0 = ap (λ o. unwrap_or o g.0) (sym g.1.0 ∙ h.1.0) in
      let same : erase_operation a ≡ erase_operation b =
      h.1.1.0 ∙ (λ i. at_place (stripped_operation s (sym root i)) n) ∙ sym g.1.1.0 in
      let set = sets.unique s h.0 a.value.selection_set b.value.selection_set h.1.1.1
      (subst (λ r. IsTypedSet s r b.value.selection_set) root g.1.1.1) (ap (λ z. z.value.selection_set)
      same) in
      λ i. at_place (λ (o : OperationDefinition). operation_over o (set i)) (same i)

  one_fragment : IsOne (IsFragmentOf s)
  one_fragment n a b h g =
      let same : erase_fragment a ≡ erase_fragment b = h.0 ∙ sym g.0 in
      let set = sets.unique s n.value.type_condition a.value.selection_set b.value.selection_set h.1 g.1
      (ap (λ z. z.value.selection_set) same) in
      λ i. at_place (λ (f : FragmentDefinition). record {
        name = f.name;
        directives = f.directives;
        selection_set = set i;
      }) (same i)

  pub one_document : (xs : List DocumentItem) (a b : ExecutableDocument) → IsDocumentOf s xs a
      → IsDocumentOf s xs b → a ≡ record b { sources = a.sources }
  one_document xs a b h g =
      let anonymous = one_option _ one_operation _ _ _ h.anonymous g.anonymous in
      let named = one_list _ (one_table _ one_operation) _ _ _ h.named g.named in
      let fragments = one_list _ (one_table _ one_fragment) _ _ _ h.fragments g.fragments in
      λ i. record {
        sources = a.sources;
        operations = record { anonymous = anonymous i; named = named i };
        fragments = fragments i;
      }

  -- ---- and is that of what it is erased to

  root_again : (n : Op) (o : NodeView Operation) (h : IsOperationOf s n o)
      → root_type_of s (erase_operation o).value.operation_type ≡ Some h.0
  root_again n o h = ap (λ (z : Op). root_type_of s z.value.operation_type) h.1.1.0 ∙ h.1.0

  self_operation : (n : Op) (o : NodeView Operation) → IsOperationOf s n o
      → IsOperationOf s (erase_operation o) o
  self_operation n o h =
      let again = sets.again s h.0 o.value.selection_set h.1.1.1 in
      (h.0, (root_again n o h, (ap (with_selections (erase_operation o)) (sym again), h.1.1.1)))

  typed_on : (n : Frag) (f : NodeView Fragment) → IsFragmentOf s n f
      → IsTypedSet s f.value.selection_set.ty f.value.selection_set
  typed_on n f h = subst (λ t. IsTypedSet s t f.value.selection_set)
      (ap (λ (z : Frag). z.value.type_condition) (sym h.0)) h.1

  self_fragment : (n : Frag) (f : NodeView Fragment) → IsFragmentOf s n f
      → IsFragmentOf s (erase_fragment f) f
  self_fragment n f h =
      let again = sets.again s f.value.selection_set.ty f.value.selection_set (typed_on n f h) in
      (ap (fragment_with (erase_fragment f)) (sym again), typed_on n f h)

  -- ---- nothing is wrong with the write-out of a built definition itself

  is_sound : (path : ExecutableDefinitionName) (n : Op) (o : NodeView Operation) → IsOperationOf s n o
      → (is_rooted s (erase_operation o) ≡ true) × (faults_in_operation s path (erase_operation o) ≡ [])
  is_sound path n o h = (
    ap (λ (r : Option NameView). is_some r) (root_again n o h),
    ap (rooted_faults s path (erase_operation o)) (root_again n o h)
        ∙ sets.faultless s h.0 (record { root = path; nested_fields = [] }) o.value.selection_set h.1.1.1,
  )

  sound_entry : (k : NameView × Op) (e : NameView × NodeView Operation) → IsUnderName (IsOperationOf s) k e
      → k.1.value.name ≡ Some k.0 → IsSoundOperation s (e.0, erase_operation e.1)
  sound_entry k e h a = (
    ap (λ (z : Op). z.value.name) h.1.1.1.0 ∙ a ∙ ap Some (sym h.0),
    is_sound _ k.1 e.1 h.1,
  )

  sound_fragment : (k : NameView × Frag) (e : NameView × NodeView Fragment) → IsUnderName (IsFragmentOf s) k e
      → (k.1.value.name ≡ k.0) × (is_on_type s k.1 ≡ true) → IsSoundFragment s (e.0, erase_fragment e.1)
  sound_fragment k e h a =
      let set = e.1.value.selection_set in
      let whole : SelectionPath = record { root = name.Fragment e.1.value.name; nested_fields = [] } in
      let on : is_on_type s (erase_fragment e.1) ≡ true = ap (is_on_type s) h.1.0 ∙ a.1 in (
        ap (λ (z : Frag). z.value.name) h.1.0 ∙ a.0 ∙ sym h.0,
        (
          on,
          ap (on_type_faults s (erase_fragment e.1)) on
              ∙ sets.faultless s set.ty whole set (typed_on k.1 e.1 h.1),
        ),
      )

  sound_option : (k : Option Op) (e : Option (NodeView Operation))
      → AllZip (IsOperationOf s) (listed k) (listed e) → ((n : Op) → k ≡ Some n → n.value.name ≡ None)
      → IsSoundIf s (option_map erase_operation e)
  sound_option k None h a = tt
  sound_option None (Some e) h a = absurd h
  sound_option (Some k) (Some e) h a = (
    ap (λ (z : Op). z.value.name) h.0.1.1.0 ∙ a k refl,
    is_sound _ k e h.0,
  )

  is_its_fragment : (ns : List Frag)
      → AllByRecursion (λ (x : NameView × Frag). (x.1.value.name ≡ x.0) × (is_on_type s x.1 ≡ true))
      (map fragment_under_name (filter (is_on_type s) ns))
  is_its_fragment [] = tt
  is_its_fragment (n ∷ ns) = grind (arith, is_its_fragment ns)

  module _ (xs : List DocumentItem) (b : Bool) (document : ExecutableDocument)
      (h : IsDocumentOf s xs document) where
    kept_again : AllKept s b (option_map erase_operation document.operations.anonymous)
        (entries_by erase_operation document.operations.named) (entries_by erase_fragment document.fragments)
    kept_again =
        let named = filter_map operation_under_name (filter (is_rooted s) (operations xs)) in
        let on = map fragment_under_name (filter (is_on_type s) (fragments xs)) in
        all_kept s b _ _ _ (sound_option (kept_anonymous s xs) document.operations.anonymous h.anonymous
        (has_no_name (find (is_rooted s) (operations xs)))) (each_second (IsUnderName (IsOperationOf s))
        (λ x. x.1.value.name ≡ Some x.0) (λ e. (e.0, erase_operation e.1)) (IsSoundOperation s)
        sound_entry (kept_named s xs) _ h.named (each-first (λ x. x.1.value.name ≡ Some x.0)
        (same_key same_text) named (has_its_name (filter (is_rooted s) (operations xs)))))
        (distinct_table (IsOperationOf s) erase_operation (kept_named s xs) _ h.named
        (first_of_each-distinct (same_key same_text) named)) (each_second (IsUnderName (IsFragmentOf s))
        (λ x. (x.1.value.name ≡ x.0) × (is_on_type s x.1 ≡ true)) (λ e. (e.0, erase_fragment e.1))
        (IsSoundFragment s) sound_fragment (kept_fragments s xs) _ h.fragments
        (each-first (λ x. (x.1.value.name ≡ x.0) × (is_on_type s x.1 ≡ true)) (same_key same_text) on
        (is_its_fragment (fragments xs)))) (distinct_table (IsFragmentOf s) erase_fragment
        (kept_fragments s xs) _ h.fragments (first_of_each-distinct (same_key same_text) on))

    self_document : IsDocumentOf s (written_of b document) document
    self_document = record {
      anonymous = rw kept_again.anonymous (self_option (IsOperationOf s) erase_operation self_operation
          (kept_anonymous s xs) _ h.anonymous);
      named = rw kept_again.named (self_list (IsUnderName (IsOperationOf s)) (λ e. (e.0, erase_operation e.1))
          (λ k e g. (refl, self_operation k.1 e.1 g.1)) (kept_named s xs) _ h.named);
      fragments = rw kept_again.fragments (self_list (IsUnderName (IsFragmentOf s))
          (λ e. (e.0, erase_fragment e.1)) (λ k e g. (refl, self_fragment k.1 e.1 g.1))
          (kept_fragments s xs) _ h.fragments);
    }

    pub document_is_itself : IsDocumentOf s (document_list b (erased_definitions document)) document
    document_is_itself = rw (is_written b document) self_document

    pub document_is_again : (again : ExecutableDocument)
        → IsDocumentOf s (document_list b (erased_definitions document)) again
        → again ≡ record document { sources = again.sources }
    document_is_again again g = one_document _ again document g document_is_itself

    pub faults_again : document_faults s (document_list b (erased_definitions document))
        ≡ ambiguous_again document.operations
    faults_again =
        let first = document.operations.anonymous in
        ap (document_faults s) (is_written b document) ∙ kept_again.faults ∙ flat_map-map {B = NameView × Op}
        (λ x. ambiguous_if (option_map (λ n. n.location) (option_map erase_operation first))) _
        document.operations.named ∙ ap (λ p. flat_map (λ x. ambiguous_if p) document.operations.named)
        (location-erased first)
