-- The components of a schema definition, whose roots stand in the order of the operation types, and the
-- definition that written parts make again.
use Rattle.apollo_schema_laws.proofs as laws
pub use laws.Words.{◌≡◌, Bool, true, cond, List, [], ◌∷◌, ◌++◌, None, Option, Some, map, filter, flat_map}
pub use laws.Words.{option_map, refl, sym, ap, subst, ◌∙◌, slice_get, append-nil, filter-append, filter_map}
pub use laws.Words.{list_any, AllByRecursion, map-map, unwrap_or, filter-map, arith, OperationType, Query}
pub use laws.Words.{Mutation, Subscription, Parts, no_parts, same_id, same_origin, of_origin, of_extensions}
pub use laws.Words.{SourcedPart, by_origin, ComponentName, ComponentOrigin, Extension, ExtensionId, of_root}
pub use laws.Words.{root_node, schema_components, root_of, operation_types, SchemaDefinition, PartsByOrigin}
pub use laws.Words.{Root, same_operation, component_name, Sections, as_parts, in_sections, joined}
pub use laws.Words.{with_origins, node_with_origin, one-element-permutation, ℕ, ◌==◌, each-weaken}
pub use laws.Words.{IsPermutation, find-first, find-made, bare_name, NodeView, bare_directive, Directive}
pub use laws.Words.{bare_component, bare_component_name, extension_location, Component}
pub use laws.Words.{bare_schema_definition, SchemaPart, root_in, roots_of, schema_definition_of}
pub use laws.Words.{schema_directives_of, schema_extension_source, placed}
use laws.Words.{IsDistinct, Definition}
pub use laws.Words.{in_order, in_order-map, each-both, shown, each-flat_map_back, each-from_map, each-made}
pub use laws.Words.{each-map, option_map-twice}
pub use laws.Sections.{ids_in, ids_in-append, ids_in-sections, picked, picked-append, of_origin-sections}
pub use laws.Sections.{parts_in, has_some, has_some-picked, written-in_order, definition-alone, each-alone}
pub use laws.Sections.{extension-alone, marks, of-alone, parts-again, shown-joined, kept, sort-there}
pub use laws.Sections.{HasOrigins, directives-in_order}
pub use laws.Types.{made-shown, same-located, parts_from, parts-distinct, parts-placed, shown-parts}
pub use laws.Types.{nodes-shown, IsMadeBy}
pub use Rattle.apollo_types.specs.SchemaRoots.{named_root}
pub use Rattle.graphql_ast.specs.Parts.{Directives, Roots, of_schema, Sort}
use Rattle.graphql_ast.specs.declared.parts.Part.TheVariants as parts

-- the root of an operation type with its origin, if there is one
abbrev pub entries : OperationType → Option ComponentName → List (ComponentOrigin × Root)
entries op None = []
entries op (Some n) = (n.origin, root_node (op, n)) ∷ []

abbrev pub root_entries : SchemaDefinition → List (ComponentOrigin × Root)
root_entries d = flat_map (λ op. entries op (root_of d op)) operation_types

abbrev pub schema_sections : SchemaDefinition → Sections
schema_sections d Directives = map node_with_origin d.directives.0
schema_sections d Roots = root_entries d
schema_sections d _ = []

-- they are those that are written
pub schema-components : (d : SchemaDefinition) → schema_components d ≡ in_sections (schema_sections d)
schema-components d = simp (map-map, each, append-nil)
  where
    each : (ops : List OperationType)
        → map of_root (filter_map (named_root d) ops)
        ≡ as_parts parts.Root (flat_map (λ op. entries op (root_of d op)) ops)
    each [] = refl
    each (op ∷ ops) = grind (arith, (each ops))

abbrev pub is_op : OperationType → Root → Bool
is_op op r = same_operation op r.value.0

-- the roots of an operation type among parts
abbrev pub roots_for : OperationType → Parts → List Root
roots_for op d = filter (is_op op) d.roots

module _ (o : ComponentOrigin) (d : SchemaDefinition) where
  pub picked-roots : picked o (root_entries d) ≡ flat_map (λ op. picked o (entries op (root_of d op)))
      operation_types
  picked-roots = simp (picked-append o)

  -- of one operation type there is its root
  pub picked-for : (op : OperationType)
      → filter (is_op op) (picked o (root_entries d)) ≡ picked o (entries op (root_of d op))
  picked-for op = grind arith

-- parts of a schema definition: nothing but directives, and roots in the order of the operation types
pub record IsSchemaRow (d : Parts) : Type 0 where
  pub own : of_schema d ≡ d
  pub roots : flat_map (λ op. roots_for op d) operation_types ≡ d.roots

-- whether parts have directives, and a root of each operation type
abbrev pub schema_sorts : List (Parts → Bool)
schema_sorts = (λ p. has_some p.directives) ∷ map (λ op p. has_some (roots_for op p)) operation_types

module _ (d : SchemaDefinition) where
  pub of_schema-origin : (o : ComponentOrigin)
      → of_origin o (schema_components d) ≡ parts_in o (schema_sections d)
  of_schema-origin o = simp (schema-components, of_origin-sections)

  pub roots-origin : (o : ComponentOrigin) (op : OperationType)
      → roots_for op (of_origin o (schema_components d)) ≡ picked o (entries op (root_of d op))
  roots-origin o op = ap (roots_for op) (of_schema-origin o) ∙ picked-for o d op

  pub schema-row : (o : ComponentOrigin) → IsSchemaRow (of_origin o (schema_components d))
  schema-row o = record {
    own = subst (λ p. of_schema p ≡ p) (sym (of_schema-origin o)) refl;
    roots = (λ i. flat_map (λ op. roots-origin o op i) operation_types)
        ∙ sym (picked-roots o d) ∙ sym (ap (λ p. p.roots) (of_schema-origin o));
  }

  abbrev id_lists : List (List ExtensionId)
  id_lists = ids_in (map node_with_origin d.directives.0) ∷ map (λ op. ids_in (entries op (root_of d op)))
      operation_types

  -- the parts of extensions are written in the order of these
  pub schema-in_order : in_order schema_sorts (map (λ e. e.1) (of_extensions (schema_components d))) ≡ true
  schema-in_order = written-in_order (schema_components d) schema_sorts id_lists
      (ap ids_in (schema-components d) ∙ ids_in-sections (schema_sections d)
      ∙ simp (append-nil, ids_in-append)) (λ i. directives i ∷ map (λ op. roots op i) operation_types)
    where
      directives : ◌≡◌ {A = ExtensionId → Bool} (λ e. has_some (of_origin (Extension e) (schema_components
          d)).directives) (λ e. list_any (same_id e) (ids_in (map node_with_origin d.directives.0)))
      directives = λ i e. (ap (λ (p : Parts). has_some p.directives) (of_schema-origin (Extension e))
          ∙ has_some-picked e (map node_with_origin d.directives.0)) i

      roots : (op : OperationType)
          → ◌≡◌ {A = ExtensionId → Bool} (λ e. has_some (roots_for op (of_origin (Extension e)
          (schema_components d)))) (λ e. list_any (same_id e) (ids_in (entries op (root_of d op))))
      roots op = λ i e. (ap has_some (roots-origin (Extension e) op)
          ∙ has_some-picked e (entries op (root_of d op))) i

-- the sections that written parts make, with the roots in the order of the operation types
abbrev pub in_operation_order : PartsByOrigin → Sections
in_operation_order p Directives = joined (λ d. d.directives) (with_origins p)
in_operation_order p Roots = flat_map (λ op. joined (roots_for op) (with_origins p)) operation_types
in_operation_order p _ = []

-- where one group alone is of the origin
row-again : (p : PartsByOrigin) (o : ComponentOrigin) (g : ComponentOrigin × Parts)
    → filter (λ g. same_origin o g.0) (with_origins p) ≡ g ∷ [] → IsSchemaRow g.1
    → of_origin o (in_sections (in_operation_order p)) ≡ g.1
row-again p o g alone row = of_origin-sections o (in_operation_order p)
    ∙ (λ i. record no_parts { directives = of_sort (λ d. d.directives) i; roots = roots i }) ∙ row.own
  where
    of_sort : {A : Type 0} (sort : Parts → List A) → picked o (joined sort (with_origins p)) ≡ sort g.1
    of_sort sort = of-alone o sort (with_origins p) g alone

    each : (ops : List OperationType)
        → picked o (flat_map (λ op. joined (roots_for op) (with_origins p)) ops)
        ≡ flat_map (λ op. roots_for op g.1) ops
    each [] = refl
    each (op ∷ ops) = picked-append o _ _ ∙ (λ i. of_sort (roots_for op) i ++ each ops i)

    roots : picked o (in_operation_order p Roots) ≡ g.1.roots
    roots = each operation_types ∙ row.roots

module _ (p : PartsByOrigin) (distinct : IsDistinct same_id (map (λ e. e.0) p.extensions))
    (first_row : IsSchemaRow p.definition) (rows : AllByRecursion (λ e. IsSchemaRow e.1) p.extensions)
    (ordered : in_order schema_sorts (map (λ e. e.1) p.extensions) ≡ true) where
  abbrev comps : List SourcedPart
  comps = in_sections (in_operation_order p)

  -- parts in the order in which they are written are written again as themselves
  pub schema-parts_again : by_origin comps ≡ p
  schema-parts_again = parts-again p distinct comps ((λ e. marks e.1.directives)
      ∷ map (λ op e. marks (roots_for op e.1)) operation_types) (ids_in-sections (in_operation_order p)
      ∙ (λ i. shown-joined p (λ d. d.directives) i ++ (append-nil _ ∙ roots operation_types) i))
      (sym (in_order-map _ schema_sorts p.extensions) ∙ ordered) (row-again p Definition
      (Definition, p.definition) (definition-alone p) first_row)
      (each-both _ _ _ (λ e alone row. row-again p (Extension e.0) (Extension e.0, e.1)
      (extension-alone p e alone) row) p.extensions (each-alone p distinct) rows)
    where
      roots : (ops : List OperationType)
          → ids_in (flat_map (λ op. joined (roots_for op) (with_origins p)) ops)
          ≡ flat_map (λ op. shown (λ e. e.0) (λ e. marks (roots_for op e.1)) p.extensions) ops
      roots [] = refl
      roots (op ∷ ops) = ids_in-append (joined (roots_for op) (with_origins p)) _
          ∙ (λ i. shown-joined p (roots_for op) i ++ roots ops i)

-- a root is found where there is one alone
pub from-values : (op : OperationType) (xs : List (ComponentOrigin × Root)) (n : Option ComponentName)
    → map (λ x. x.1) xs ≡ map (λ x. x.1) (entries op n)
    → (entries op (option_map (λ x. component_name x.0 x.1.value.1) (slice_get xs 0)) ≡ xs)
    × (option_map (λ c. c.name) (option_map (λ x. component_name x.0 x.1.value.1) (slice_get xs 0))
    ≡ option_map (λ c. c.name) n)
from-values op [] None h = (refl, refl)
from-values op (x ∷ []) (Some n) h =
    let e = ap (λ l. unwrap_or (slice_get l 0) x.1) h in (
      ap (λ (y : Root). (x.0, root_node (op, component_name x.0 y.value.1)) ∷ []) e
          ∙ sym (ap (λ (y : Root). (x.0, y) ∷ []) e),
      ap (λ (y : Root). Some y.value.1) e,
    )
from-values op xs n h = absurd (grind (arith, h))

pub filter-joined : {A : Type 0} (q : A → Bool) (sort : Parts → List A) (gs : List (ComponentOrigin × Parts))
    → filter (λ x. q x.1) (joined sort gs) ≡ joined (λ d. filter q (sort d)) gs
filter-joined q sort [] = refl
filter-joined q sort (g ∷ gs) = simp (filter-append, filter-map, filter-joined q sort gs)

-- an extension's identity with what is written of it
abbrev pub extension_written : SchemaDefinition → ExtensionId → ExtensionId × Parts
extension_written d e = (e, of_origin (Extension e) (schema_components d))

-- a root under its operation type
abbrev pub root_under : ComponentOrigin → Root → OperationType × ComponentName
root_under o r = (r.value.0, component_name o r.value.1)

-- the parts that are written of it, and its extensions as parts of a list
abbrev pub written_parts_of : SchemaDefinition → PartsByOrigin
written_parts_of d = by_origin (schema_components d)

abbrev pub schema_extension_of : ExtensionId × Parts → SchemaPart
schema_extension_of e = record {
  location = extension_location e.0;
  description = None;
  parts = of_schema e.1;
}

abbrev pub written_extensions : SchemaDefinition → List SchemaPart
written_extensions d = map schema_extension_of (written_parts_of d).extensions

-- the schema definition of a part and of extensions with numbers
abbrev pub made_schema : SchemaPart → List (ℕ × SchemaPart) → SchemaDefinition
made_schema head es = schema_definition_of head ((Definition, head) ∷ map schema_extension_source es)

-- a root of it is that of its parts
pub root-made : (head : SchemaPart) (es : List (ℕ × SchemaPart)) (op : OperationType)
    → root_of (made_schema head es) op ≡ root_in op ((Definition, head) ∷ map schema_extension_source es)
root-made head es Query = refl
root-made head es op = refl

-- what a part of the schema holds
abbrev pub schema_held : SchemaPart → Parts
schema_held s = of_schema s.parts

-- the part has what is written of the definition
pub record IsWrittenHead (d : SchemaDefinition) (head : SchemaPart) : Type 0 where
  pub description : head.description ≡ d.description
  pub parts : schema_held head ≡ (written_parts_of d).definition

-- another schema definition has the same parts and says the same
pub record IsSchemaAgain (d u : SchemaDefinition) : Type 0 where
  pub description : u.description ≡ d.description
  pub definition : (written_parts_of u).definition ≡ (written_parts_of d).definition
  pub extensions : placed (written_parts_of u).extensions ≡ placed (written_parts_of d).extensions
  pub directives : map (λ c. c.node) u.directives.0 ≡ map (λ c. c.node) d.directives.0
  pub roots : (op : OperationType) → option_map (λ c. c.name) (root_of u op)
      ≡ option_map (λ c. c.name) (root_of d op)

-- then they are equal
pub equal-again : (d u : SchemaDefinition) → IsSchemaAgain d u
    → bare_schema_definition u ≡ bare_schema_definition d
equal-again d u a = λ i. record {
  description = option_map bare_name (a.description i);
  directives = directives i;
  query = root Query i;
  mutation = root Mutation i;
  subscription = root Subscription i;
}
  where
    directives : map (bare_component bare_directive) u.directives.0 ≡ map (bare_component bare_directive)
        d.directives.0
    directives = simp map-map at (ap (map (λ (n : NodeView Directive). bare_directive n.value)) a.directives)

    root : (op : OperationType)
        → option_map bare_component_name (root_of u op) ≡ option_map bare_component_name (root_of d op)
    root op = simp option_map-twice at (ap (option_map bare_name) (a.roots op))

-- the directives stand in the order of the definition and the extensions
pub directives-in_parts : (head : SchemaPart) (es : List (ℕ × SchemaPart))
    → map node_with_origin (flat_map schema_directives_of ((Definition, head) ∷ map schema_extension_source
    es)) ≡ joined (λ d. d.directives) (with_origins (parts_from (λ s. s.location) schema_held head es))
directives-in_parts head es = nodes-shown (λ (s : SchemaPart). s.parts.directives) ((Definition, head)
    ∷ map schema_extension_source es) ∙ shown-parts _ schema_held (λ d. d.directives) head es

perm-entries : (op : OperationType) (n : Option ComponentName) (ys : List Root)
    → IsPermutation (map (λ x. x.1) (entries op n)) ys → ys ≡ map (λ x. x.1) (entries op n)
perm-entries op None ys p = sym (one-element-permutation [] [] ys p tt)
perm-entries op (Some n) ys p = sym (one-element-permutation _ _ ys p (refl, tt))

-- the root that stands for an entry
abbrev named_entry : ComponentOrigin × Root → OperationType × ComponentName
named_entry x = (x.1.value.0, component_name x.0 x.1.value.1)

module _ (d : SchemaDefinition) (m : IsMadeBy made_schema d) (head : SchemaPart) (h : IsWrittenHead d head)
    (es : List (ℕ × SchemaPart)) (apart : IsDistinct ◌==◌ (map (λ e. e.0) es)) (written : map (λ e. e.1) es
    ≡ written_extensions d) where
  abbrev s : Sections
  s = schema_sections d

  abbrev p : PartsByOrigin
  p = parts_from (λ s. s.location) schema_held head es

  abbrev u : SchemaDefinition
  u = made_schema head es

  each-row : AllByRecursion (λ e. IsSchemaRow e.1) (written_parts_of d).extensions
  each-row = each-made _ _ (λ e. schema-row d (Extension e)) _

  placed_there : placed p.extensions ≡ placed (written_parts_of d).extensions
  placed_there = parts-placed _ schema_held schema_extension_of (λ e. refl) (written_parts_of d).extensions
      (each-weaken _ _ (λ e row. row.own) (written_parts_of d).extensions each-row) head es written

  same_exts : map (λ e. e.1) p.extensions ≡ map (λ e. e.1) (written_parts_of d).extensions
  same_exts = same-located (λ w. w.1) p.extensions (written_parts_of d).extensions placed_there

  same_definition : p.definition ≡ of_origin Definition (in_sections s)
  same_definition = simp (h.parts, schema-components)

  same_parts : map (λ e. e.1) p.extensions ≡ map (λ e. e.1) (of_extensions (in_sections s))
  same_parts = simp (same_exts, schema-components)

  roots-listed : flat_map roots_of ((Definition, head) ∷ map schema_extension_source es)
      ≡ map named_entry (joined (λ d. d.roots) (with_origins p))
  roots-listed = simp (
    made-shown root_under (λ (s : SchemaPart). s.parts.roots)
        ((Definition, head) ∷ map schema_extension_source es),
    shown-parts (λ (s : SchemaPart). s.location) schema_held (λ d. d.roots) head es,
  )

  -- of each operation type there is the root that was there
  root-found : (op : OperationType)
      → root_in op ((Definition, head) ∷ map schema_extension_source es) ≡ option_map (λ x. component_name x.0
      x.1.value.1) (slice_get (joined (roots_for op) (with_origins p)) 0)
  root-found op = rw (roots-listed, find-made, option_map-twice, find-first, filter-joined (is_op op) _ _)

  there : (op : OperationType) → HasOrigins s p same_definition same_parts (entries op (root_of d op))
  there op =
      let a = each-flat_map_back _ (λ op. entries op (root_of d op)) operation_types
      (sort-there s p same_definition same_parts Roots) in
      elim op as (λ op. HasOrigins s p same_definition same_parts (entries op (root_of d op)))
      [ Query ↦ a.0 | Mutation ↦ a.1.0 | Subscription ↦ a.1.1.0 ]

  root-values : (op : OperationType)
      → map (λ x. x.1) (joined (roots_for op) (with_origins p)) ≡ map (λ x. x.1) (entries op (root_of d op))
  root-values op = perm-entries op _ _ (kept s p same_definition same_parts (roots_for op)
      (entries op (root_of d op)) (λ o. ap (λ cs. roots_for op (of_origin o cs)) (sym (schema-components d))
      ∙ roots-origin d o op) (there op))

  entries-again : (op : OperationType) → entries op (root_of u op) ≡ joined (roots_for op) (with_origins p)
  entries-again op = rw (root-made, root-found op, (from-values op _ _ (root-values op)).0)

  sections-again : (s : Sort) → schema_sections u s ≡ in_operation_order p s
  sections-again Directives = directives-in_parts head es
  sections-again Roots = λ i. flat_map (λ op. entries-again op i) operation_types
  sections-again s = refl

  rows-again : written_parts_of u ≡ p
  rows-again = ap by_origin (schema-components u ∙ ap in_sections (λ i s. sections-again s i))
      ∙ schema-parts_again p (parts-distinct _ schema_held head es apart)
      (subst IsSchemaRow (sym h.parts) (schema-row d Definition)) (each-from_map IsSchemaRow _
      p.extensions (subst (AllByRecursion IsSchemaRow) (sym same_exts)
      (each-map IsSchemaRow _ (written_parts_of d).extensions each-row)))
      (ap (in_order schema_sorts) same_exts ∙ schema-in_order d)

  pub schema-again : IsSchemaAgain d u
  schema-again = record {
    description = h.description;
    definition = ap (λ q. q.definition) rows-again ∙ h.parts;
    extensions = ap (λ q. placed q.extensions) rows-again ∙ placed_there;
    directives = nodes u.directives.0 ∙ ap (map (λ x. x.1)) (directives-in_parts head es)
        ∙ (directives-in_order s (parts_from (λ s. s.location) schema_held m.head m.extensions) p
        (parts-distinct (λ (s : SchemaPart). s.location) schema_held m.head m.extensions m.apart)
        (ap (λ (v : SchemaDefinition). map node_with_origin v.directives.0) m.is ∙ directives-in_parts m.head
        m.extensions) same_definition same_parts) ∙ sym (nodes d.directives.0);
    roots = (λ op. ap (option_map (λ (c : ComponentName). c.name)) (root-made head es op ∙ root-found op)
        ∙ (from-values op (joined (roots_for op) (with_origins p)) (root_of d op) (root-values op)).1);
  }
    where
      nodes : (cs : List (Component Directive))
          → map (λ c. c.node) cs ≡ map (λ x. x.1) (map node_with_origin cs)
      nodes cs = sym (map-map (λ (x : ComponentOrigin × NodeView Directive). x.1) node_with_origin cs)
