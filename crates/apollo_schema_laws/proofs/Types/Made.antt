-- What holds of each component of a type, and of the schema's definition, that parts make.
use Rattle.apollo_schema_laws.proofs as laws
pub use laws.Words.{◌≡◌, ◌∙◌, Bool, true, false, cond, List, [], None, Some, ap, map, find, refl, subst, sym}
pub use laws.Words.{option_map, AllByRecursion, cons_option, flat_map, IfSome, same_text, OperationType}
pub use laws.Words.{Mutation, Query, Subscription, TypeKind, first_of_each, SourcedPart, ComponentName}
pub use laws.Words.{ComponentOrigin, each-first, each-append, each-weaken, of_directive, of_root}
pub use laws.Words.{schema_components, type_components, SchemaPart, TypePart, SourcedSchema, root_in}
pub use laws.Words.{roots_of, same_operation, schema_definition_of, Sourced, component, component_name}
pub use laws.Words.{type_of_kind, as_parts, in_sections, name_of}
pub use laws.Types.Kinds.{held, kept, sections-made, shown_in}
pub use laws.Types.WrittenParts.{components-sections}
pub use laws.Words.{each-flat_map, each-map, each-of, if-found}
pub use Rattle.graphql_ast.specs.Parts.{Sort, Directives, has, sorts}
use Rattle.graphql_ast.specs.Parts.{part_of}

-- what is made of one sort of some parts
each-sourced : {S A C : Type 0} (Q : C → Type 0) (make : ComponentOrigin → A → C) (held : S
    → List A) (ps : List (ComponentOrigin × S))
    → AllByRecursion (λ s. AllByRecursion (λ x. Q (make s.0 x)) (held s.1)) ps
    → AllByRecursion Q (flat_map (λ s. map (make s.0) (held s.1)) ps)
each-sourced Q make held ps a = each-flat_map Q _ ps (each-weaken _ _ (λ s h. each-map Q _ _ h) ps a)

module _ (P : SourcedPart → Type 0) where
  module _ (ps : List Sourced) where
    -- it holds of the parts of a sort, with their origins
    abbrev Holds : Sort → Type 0
    Holds s = AllByRecursion (λ q. AllByRecursion (λ x. P (q.0, part_of s x)) (held s q.1)) ps

    -- the type that the parts make
    pub type-made : (kind : TypeKind) (head : TypePart) → ((s : Sort) → has kind s ≡ true → Holds s)
        → AllByRecursion P (type_components (type_of_kind kind head ps))
    type-made kind head a =
        subst (AllByRecursion P) (sym (components-sections _ ∙ ap in_sections (sections-made kind head ps)))
        (each-flat_map P parts sorts (each-of _ (λ s. by s (has kind s) refl) sorts))
      where
        parts : Sort → List SourcedPart
        parts s = as_parts (part_of s) (cond (has kind s) (kept s (shown_in (held s) ps)) [])

        shown : (s : Sort) → Holds s → AllByRecursion (λ x. P (x.0, part_of s x.1)) (shown_in (held s) ps)
        shown s h = each-sourced _ _ _ ps h

        first : (s : Sort) → Holds s → (b : Bool)
            → AllByRecursion (λ x. P (x.0, part_of s x.1))
            (cond b (first_of_each (λ x y. same_text (name_of s x.1) (name_of s y.1)) (shown_in (held s) ps))
            (shown_in (held s) ps))
        first s h true = each-first _ _ _ (shown s h)
        first s h false = shown s h

        by : (s : Sort) (b : Bool) → has kind s ≡ b
            → AllByRecursion P (as_parts (part_of s) (cond b (kept s (shown_in (held s) ps)) []))
        by s true e = each-map P _ _ (first s (a s e) _)
        by s false e = tt

  -- it holds of a root of a name, whatever its operation
  abbrev pub Roots-hold : ComponentName → Type 0
  Roots-hold n = (op : OperationType) → P (of_root (op, n))

  -- the schema's definition
  module _ (ps : List SourcedSchema)
      (a : AllByRecursion (λ q. AllByRecursion (λ d. P (q.0, part_of Directives d)) q.1.parts.directives) ps)
      (b : AllByRecursion (λ q. AllByRecursion (λ r. Roots-hold (component_name q.0 r.value.1))
      q.1.parts.roots) ps) where
    -- the first of an operation, if there is one, and the rest
    root : (op : OperationType) (rest : List (OperationType × ComponentName))
        → AllByRecursion (λ r. P (of_root r)) rest
        → AllByRecursion (λ r. P (of_root r)) (cons_option (option_map (λ n. (op, n)) (root_in op ps)) rest)
    root op rest more = (elim (find (λ r. same_operation op r.0) (flat_map roots_of ps)) as (λ o. IfSome o
        (λ r. Roots-hold r.1)
        → AllByRecursion (λ r. P (of_root r))
        (cons_option (option_map (λ n. (op, n)) (option_map (λ r. r.1) o)) rest))
        [ None ↦ λ h. more | Some r ↦ λ h. (h op, more) ]) (if-found (λ r. Roots-hold r.1) _ _
        (each-sourced (λ r. Roots-hold r.1) _ _ ps b))

    pub schema-made : (head : SchemaPart)
        → AllByRecursion P (schema_components (schema_definition_of head ps))
    schema-made head = each-append P _ _ (each-map P of_directive _ (each-sourced _ component _ ps a))
        (each-map P of_root _ (root Query _ (root Mutation _ (root Subscription [] tt))))

-- what holds of the origin of each part holds of the origin of each component
module _ (P : ComponentOrigin → Type 0) where
  each-from : {S A : Type 0} (held : S → List A) (ps : List (ComponentOrigin × S))
      → AllByRecursion (λ s. P s.0) ps → AllByRecursion (λ s. AllByRecursion (λ _. P s.0) (held s.1)) ps
  each-from held = each-weaken _ _ (λ s h. each-of _ (λ _. h) _)

  pub each-of_type : (ps : List Sourced) → AllByRecursion (λ s. P s.0) ps
      → (kind : TypeKind) (head : TypePart)
      → AllByRecursion (λ c. P c.0) (type_components (type_of_kind kind head ps))
  each-of_type ps a kind head = type-made _ ps kind head (λ s there. each-from _ ps a)

  pub each-of_schema : (ps : List SourcedSchema) → AllByRecursion (λ s. P s.0) ps → (head : SchemaPart)
      → AllByRecursion (λ c. P c.0) (schema_components (schema_definition_of head ps))
  each-of_schema ps a =
      schema-made _ ps (each-from _ ps a)
      (each-weaken _ _ (λ s h. each-of _ (λ _ op. h) s.1.parts.roots) ps a)
