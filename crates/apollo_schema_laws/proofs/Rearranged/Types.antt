-- The types, the schema definitions and the schemas that lists mean. What `==` compares of them is decided by
-- the parts that they are made of, without locations and origins.
use Rattle.apollo_meaning.proofs.Prelude.{Added, added_items, ap, arith, Bool, ComponentName, ComponentOrigin}
use Rattle.apollo_meaning.proofs.Prelude.{cond, extensions_of, extensions_with_origin, false, Fault, find}
use Rattle.apollo_meaning.proofs.Prelude.{find-made, first, first_of_each, first_schema, flat_map}
use Rattle.apollo_meaning.proofs.Prelude.{folding_order}
use Rattle.apollo_meaning.proofs.Prelude.{kind_of, length, List, ListItem, map, map-map, Mutation, NameView}
use Rattle.apollo_meaning.proofs.Prelude.{NodeView, of_kind, OperationType, Option, option_map, parts, Query}
use Rattle.apollo_meaning.proofs.Prelude.{refl, same_operation, same_text, schema_definition_of}
use Rattle.apollo_meaning.proofs.Prelude.{schema_extensions, schema_parts, schema_sourced, SchemaDefinition}
use Rattle.apollo_meaning.proofs.Prelude.{SchemaPart, Some, Sourced, SourcedSchema, Subscription, subst, sym}
use Rattle.apollo_meaning.proofs.Prelude.{type_from, TypePart, unwrap_or, whole, ℕ, [], ◌∙◌, ◌∷◌, ◌≡◌}
use Rattle.apollo_schema_laws.proofs.Rearranged.Words.{AreRearranged, directive_meant, faults_of}
use Rattle.apollo_schema_laws.proofs.Rearranged.Words.{flat_map-map, IsPermutation, option_cases}
use Rattle.apollo_schema_laws.proofs.Rearranged.Words.{schema_meant, type_meant}
use Rattle.graphql_nodes.specs.Comparing.{bare_name}
use Rattle.graphql_ast.specs.BareDeclarations.{bare_item, bare_parts}
use Rattle.graphql_ast.specs.Parts.{Directives, Item, listed, Sort, with_lists}
use Rattle.graphql_ast.specs.declared.parts.Parts.{Parts}
use Rattle.graphql_ast.specs.declared.directive.Directive.{Directive}
use Rattle.apollo_component.specs.BareComponents.{bare_component_name}
use Rattle.apollo_types.specs.BareTypes.{bare_extended_type, bare_schema_definition, BareSchemaDefinition}
use Rattle.apollo_types.specs.BareTypes.{BareType}
use Rattle.apollo_meaning.specs.Items.Parts.{held_parts}
use Rattle.apollo_component.proofs.Lists.Reordered.{map-flat_map}
use Rattle.apollo_schema_laws.proofs.Rearranged.Bare.{bare_list, bare_part, equal-whole}
use Rattle.apollo_schema_laws.proofs.Rearranged.Bare.{extensions-unplaced, first-unplaced}
use Rattle.apollo_schema_laws.proofs.Rearranged.Bare.{first_schema-unplaced, of_kind-unplaced, of_type-bare}
use Rattle.apollo_schema_laws.proofs.Rearranged.Bare.{schema_extensions-unplaced, unplaced_schema_part}
use Rattle.apollo_schema_laws.proofs.Types.Kinds.{bare-made, bare_of, held, kept, kept-map, kept_by, shown_in}
use Rattle.apollo_schema_laws.specs.TypeSections.{is_keyed, name_of}
use Rattle.std.proofs.lemmas.List.{nil_from_length}
use Rattle.std.proofs.lemmas.List.Sorted.{length_permutation}
use Rattle.apollo_meaning.specs.Schema.Definition.{no_schema}
use Rattle.apollo_schema_laws.proofs.Rearranged.Found.{extensions-rearranged, faults-rearranged}
use Rattle.apollo_schema_laws.proofs.Rearranged.Found.{first-rearranged, first_schema-rearranged}
use Rattle.apollo_schema_laws.proofs.Rearranged.Found.{schema_extensions-rearranged}
use Rattle.apollo_schema_laws.specs.Equal.{AreEqualLists}
use Rattle.apollo_schema_laws.specs.BuiltAlike.{BuildEqualSchemas, BuildFaultlessTogether, BuildSameFaults}
use Rattle.apollo_schema_laws.specs.BuiltAlike.{MeanEqualSchemas, StandFor}
use Rattle.apollo_schema.specs.BuilderStands.{Building, Failed, IsOpenBy, IsOpenWith, OfAdded, Open}
use Rattle.apollo_schema.specs.BuilderStands.{sources_of, Standing, StandsFor}
use Rattle.apollo_schema.specs.Built.{IsFoundIn}
use Rattle.apollo_schema.specs.EqualSchemas.{AreEqualSchemas, bare_schema}
use Rattle.apollo_schema.specs.declared.schema.Schema.{Schema}
use Rattle.apollo_schema.specs.MeantSchema.{IsPartOf, MeansSchema}

-- parts without the origins of their components
abbrev parts_of : {P : Type 0} → List (ComponentOrigin × P) → List P
parts_of = map (λ s. s.1)

-- what a part without locations holds of a sort
holds : (s : Sort) (p : TypePart) → held s (bare_part p) ≡ map (bare_item s) (held s p)
holds s p = ap (λ d. listed d s) (of_type-bare p.kind p.parts) ∙ lists s (held_parts p)
  where
    lists : (s : Sort) (parts : Parts) → listed (bare_parts parts) s ≡ map (bare_item s) (listed parts s)
    lists Directives parts = refl
    lists s parts = refl

-- names are the same without locations
same-bare : (s : Sort) (a b : Item s)
    → same_text (name_of s a) (name_of s b) ≡ same_text (name_of s (bare_item s a))
    (name_of s (bare_item s b))
same-bare Directives a b = refl
same-bare s a b = refl

-- what parts without locations hold of a sort: where names differ, the first of each
abbrev plain_items : (s : Sort) → List TypePart → List (Item s)
plain_items s ps = kept_by s (name_of s) (flat_map (held s) ps)

-- a type that parts make keeps this, without locations
forget-items : (s : Sort) (ps : List Sourced)
    → map (bare_item s) (map (λ x. x.1) (kept s (shown_in (held s) ps)))
    ≡ plain_items s (map bare_part (parts_of ps))
forget-items s ps =
    let items : List (Item s) = map (λ x. x.1) (shown_in (held s) ps) in
    let bare : map (bare_item s) items ≡ flat_map (held s) (map bare_part (parts_of ps)) =
    simp (map-flat_map, map-map, flat_map-map) (λ i. flat_map (λ p. sym (holds s p.1) i) ps) in
    ap (map (bare_item s)) (kept-map s (name_of s) (λ x. x.1) (shown_in (held s) ps))
    ∙ (λ i. map (bare_item s) (cond (is_keyed s) (first_of_each (λ a b. same-bare s a b i) items) items))
    ∙ kept-map s (name_of s) (bare_item s) items ∙ ap (kept_by s (name_of s)) bare

-- what `==` compares of the type that parts make, by its head and its parts without locations
plain_type : TypePart → List TypePart → BareType
plain_type head ps = bare_of head.kind head.description head.name (with_lists (λ s. plain_items s ps))

forget-type : (head : TypePart) (ps : List Sourced)
    → bare_extended_type (type_from head ps) ≡ plain_type (bare_part head) (map bare_part (parts_of ps))
unfolding plain_type
forget-type head ps = bare-made head.kind head ps
    ∙ (λ i. bare_of head.kind (option_map bare_name head.description) (bare_name head.name)
    (with_lists (λ s. forget-items s ps i)))

-- a root with the operation that it is named for, without its location and origin
abbrev bare_root : OperationType × ComponentName → OperationType × NameView
bare_root r = (r.0, bare_component_name r.1)

-- the first root that parts name for an operation, and their directives
abbrev plain_root : OperationType → List SchemaPart → Option NameView
plain_root op ps = option_map (λ r. r.1) (find (λ r. same_operation op r.0)
    (flat_map (λ s. map (λ r. r.value) s.parts.roots) ps))

abbrev plain_schema_directives : List SchemaPart → List Directive
plain_schema_directives = flat_map (λ s. map (λ d. d.value) s.parts.directives)

-- they are what is compared of the root and the directives that the parts are joined to
find-root : (op : OperationType) (rs : List (OperationType × ComponentName))
    → option_map bare_component_name (option_map (λ r. r.1) (find (λ r. same_operation op r.0) rs))
    ≡ option_map (λ r. r.1) (find (λ r. same_operation op r.0) (map bare_root rs))
find-root op rs = rw (find-made (λ r. same_operation op r.0) bare_root rs) (grind arith)

-- what `==` compares of the definition, by its head and its parts without locations
plain_definition : SchemaPart → List SchemaPart → BareSchemaDefinition
plain_definition head ps = record {
  description = head.description;
  directives = plain_schema_directives ps;
  query = plain_root Query ps;
  mutation = plain_root Mutation ps;
  subscription = plain_root Subscription ps;
}

-- it is what is compared of the definition that the parts make
forget-definition : (head : SchemaPart) (ps : List SourcedSchema)
    → bare_schema_definition (schema_definition_of head ps)
    ≡ plain_definition (unplaced_schema_part false head) (map (unplaced_schema_part false) (parts_of ps))
unfolding plain_definition
forget-definition head ps = simp (find-root, map-flat_map, map-map, flat_map-map)

-- the type that a name means by its first definition and its extensions, without locations, and the schema
-- definition by its own
abbrev type_meant_of : Option TypePart → List TypePart → Option BareType
type_meant_of o es = option_map (λ d. plain_type d (d ∷ of_kind (kind_of d) es)) o

abbrev schema_meant_of : Option SchemaPart → List SchemaPart → Option BareSchemaDefinition
schema_meant_of o es = option_map (λ s. plain_definition s (s ∷ es)) o

-- the extensions that are folded for a name are those of its kind, in order
abbrev pub FoldsByKind : Type 0
FoldsByKind = (start : ℕ) (xs : List ListItem) (n : List ℕ) (d : TypePart) → first xs n ≡ Some d
    → map (λ s. s.1) (extensions_with_origin n start (folding_order xs))
    ≡ of_kind (kind_of d) (extensions_of xs n)

module _ (folds : FoldsByKind) where
  -- what a name means in a list is that of its first definition and its extensions there, without locations
  type-meant : (start : ℕ) (xs : List ListItem) (n : List ℕ)
      → type_meant start xs n ≡ type_meant_of (first (bare_list xs) n) (extensions_of (bare_list xs) n)
  type-meant start xs n = simp (first-unplaced, extensions-unplaced) (option_cases (first xs n) (λ e. simp e)
      (λ d e. simp (e, of_kind-unplaced) (ap Some (forget-type d (parts start (folding_order xs) n d)
      ∙ ap (plain_type (bare_part d)) (simp (folds start xs n d e))))))

  -- so the types that rearranged lists mean are equal
  pub types-rearranged : (start other : ℕ) (xs ys : List ListItem) (n : List ℕ) → AreRearranged xs ys
      → type_meant start xs n ≡ type_meant other ys n
  types-rearranged start other xs ys n r = rw (type-meant start xs n, type-meant other ys n)
      (simp (first-unplaced, extensions-unplaced, first-rearranged xs ys r, extensions-rearranged xs ys r))

  -- and those of equal lists
  pub types-alike : (start other : ℕ) (adopts : Bool) (xs ys : List Added) (n : List ℕ) → AreEqualLists xs ys
      → type_meant start (whole adopts xs) n ≡ type_meant other (whole adopts ys) n
  types-alike start other adopts xs ys n alike = simp (type-meant, equal-whole adopts xs ys alike)

-- the extensions that are folded for the schema are all of its extensions, in order
abbrev pub FoldsAll : Type 0
FoldsAll = (start : ℕ) (xs : List ListItem) (s : SchemaPart) → first_schema xs ≡ Some s
    → map (λ e. e.1) (schema_sourced start (folding_order xs)) ≡ schema_extensions xs

module _ (folds : FoldsAll) where
  -- what a list means is that of its first schema definition and the extensions of the schema
  schema-meant : (start : ℕ) (xs : List ListItem)
      → schema_meant start xs ≡ schema_meant_of (first_schema (bare_list xs))
      (schema_extensions (bare_list xs))
  schema-meant start xs = simp (first_schema-unplaced, schema_extensions-unplaced)
      (option_cases (first_schema xs) (λ e. simp e)
      (λ s e. simp e (ap Some (forget-definition s (schema_parts start (folding_order xs) s)
      ∙ ap (plain_definition (unplaced_schema_part false s)) (simp (folds start xs s e))))))

  -- so the schema definitions that rearranged lists mean are equal
  pub schema-rearranged : (start other : ℕ) (xs ys : List ListItem) → AreRearranged xs ys
      → schema_meant start xs ≡ schema_meant other ys
  schema-rearranged start other xs ys r = rw (schema-meant start xs, schema-meant other ys)
      (simp (first_schema-unplaced, schema_extensions-unplaced)
      (simp (first_schema-rearranged xs ys r, schema_extensions-rearranged xs ys r)))

  -- and those of equal lists
  pub schema-alike : (start other : ℕ) (adopts : Bool) (xs ys : List Added) → AreEqualLists xs ys
      → schema_meant start (whole adopts xs) ≡ schema_meant other (whole adopts ys)
  schema-alike start other adopts xs ys alike = simp (schema-meant, equal-whole adopts xs ys alike)

-- what `==` compares of the schema definition that a schema has, by what it compares of that of the list, if
-- there is one
bare-or_none : (o : Option (NodeView SchemaDefinition))
    → bare_schema_definition (unwrap_or o no_schema).value
    ≡ unwrap_or (option_map (λ d. bare_schema_definition d.value) o) (bare_schema_definition no_schema.value)
bare-or_none o = grind arith

-- the schemas that two lists mean are equal where the lists mean equal schema definitions, types and
-- directives
pub schemas-alike : (adopts : Bool) (xs ys : List Added)
    → ((start other : ℕ) → schema_meant start (whole adopts xs) ≡ schema_meant other (whole adopts ys))
    → ((start other : ℕ) (n : List ℕ) → type_meant start (whole adopts xs) n
    ≡ type_meant other (whole adopts ys) n)
    → ((n : List ℕ) → directive_meant (whole adopts xs) n ≡ directive_meant (whole adopts ys) n)
    → MeanEqualSchemas adopts xs ys
schemas-alike adopts xs ys definitions types directives start other s t a b = λ i. record {
  definition = same_definition i;
  directive_definitions = λ n. same_directive n i;
  types = λ n. same_type n i;
}
  where
    same_definition : (bare_schema s).definition ≡ (bare_schema t).definition
    same_definition = simp (a.definition, b.definition, bare-or_none, definitions start other)

    same_type : (n : List ℕ) → (bare_schema s).types n ≡ (bare_schema t).types n
    same_type n = simp (a.types.each n, types start other n, b.types.each n)

    same_directive : (n : List ℕ)
        → (bare_schema s).directive_definitions n ≡ (bare_schema t).directive_definitions n
    same_directive n = simp (a.directives.each, directives, b.directives.each)

-- what holds of what was added to a builder holds of the list that it stands for
of_list : (P : ℕ → List Added → Type 0) (start : ℕ) (xs : List Added) (b : Building) → StandsFor start xs b
    → OfAdded P b → P start xs
of_list P start xs b stands = by b.start b.standing stands.0 stands.1
  where
    by : (n : ℕ) (standing : Standing) → n ≡ start → IsOpenWith xs standing → IsOpenBy P n standing
        → P start xs
    by n (Open list files) first is holds = subst (P start) is (subst (λ m. P m list) first holds)
    by n (Failed source) first is holds = elim is [ ]

-- what is found of a builder's list is found of the list that it stands for
found : (start : ℕ) (xs : List Added) (b : Building) (s : Schema) (faults : List Fault) → StandsFor start xs b
    → IsFoundIn b s faults → IsPartOf start b.adopts xs (sources_of b) s faults
found start xs b s faults = of_list (λ first zs. IsPartOf first b.adopts zs (sources_of b) s faults) start xs
    b

-- builders that stand for lists that mean equal schemas are built to equal ones
module _ (xs ys : List Added) (schemas : (adopts : Bool) → MeanEqualSchemas adopts xs ys) (b c : Building)
    (stand : StandFor xs ys b c) where
  meant : (s t : Schema) → MeansSchema stand.start b.adopts xs s → MeansSchema stand.other c.adopts ys t
      → AreEqualSchemas s t
  meant s t m n = schemas b.adopts stand.start stand.other s t m
      (subst (λ (a : Bool). MeansSchema stand.other a ys t) (sym stand.one_setting) n)

  pub built-alike : BuildEqualSchemas b c
  built-alike s t m n = meant s t (of_list (λ start zs. MeansSchema start b.adopts zs s) stand.start xs b
      stand.first m) (of_list (λ start zs. MeansSchema start c.adopts zs t) stand.other ys c stand.second n)

-- and those that stand for rearranged lists find the same faults
module _ (xs ys : List Added) (r : AreRearranged (added_items xs) (added_items ys)) (b c : Building)
    (stand : StandFor xs ys b c) where
  same_faults : IsPermutation (faults_of b.adopts xs) (faults_of c.adopts ys)
  same_faults = subst (λ (a : Bool). IsPermutation (faults_of b.adopts xs) (faults_of a ys)) stand.one_setting
      (faults-rearranged b.adopts xs ys r)

  pub found-rearranged : ((adopts : Bool) → MeanEqualSchemas adopts xs ys) → BuildSameFaults b c
  found-rearranged schemas s t faults others f g =
      let first = found stand.start xs b s faults stand.first f in
      let second = found stand.other ys c t others stand.second g in
      (rw (first.1.0.0, second.1.0.0) same_faults, meant xs ys schemas b c stand s t first.0 second.0)

  pub faultless-rearranged : BuildFaultlessTogether b c
  faultless-rearranged faultless t others g =
      let its = (found stand.other ys c t others stand.second g).1.0 in
      its.1 (its.0 ∙ nil_from_length _ (length_permutation _ _ same_faults
      ∙ ap length (of_list (λ start zs. faults_of b.adopts zs ≡ []) stand.start xs b stand.first
      faultless)))
