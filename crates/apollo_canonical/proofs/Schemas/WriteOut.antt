-- What the schema of a well-formed list is written out as: the schema's definition, directive definitions and
-- types.
use Rattle.apollo_canonical.proofs as canonical
use canonical.Prelude.{Added, AllByRecursion, AreDirectivesOf, AreTypesOf, AreWellFormed, Bool, Definition}
use canonical.Prelude.{DirectiveDefinition, Directives, ExtendedType, Fields, FoldsAll, FoldsByKind, IfSome}
use canonical.Prelude.{InputFields, IsName, IsWellFormed, IsWellFormedDefinition, IsWellFormedPart, Item}
use canonical.Prelude.{List, ListItem, MeansSchema, NameView, Names, NodeView, None, Roots, Schema}
use canonical.Prelude.{SchemaDefinition, SchemaPart, Sort, Sourced, SourcedSchema, TypeKind, TypePart, Values}
use canonical.Prelude.{[], added, and_parts, cond, definition_parts, directive_definitions, directive_of}
use canonical.Prelude.{document_parts, drop, each-append, each-weaken, false, first_of_each-map}
use canonical.Prelude.{folding_order, has, has_own_root, is_built_in, is_written, list_any-append}
use canonical.Prelude.{list_any-map, map, named_roots, no_schema, of_sort, or_right, part_of, refl, same_text}
use canonical.Prelude.{schema-made, schema_components, schema_definition_of, schema_extension_source}
use canonical.Prelude.{schema_has, schema_of, subst, sym, true, type-made, type_components, type_kind}
use canonical.Prelude.{type_location, type_name, type_of_kind, unwrap_or, values_of, whole, with_built_ins}
use canonical.Prelude.{write_directives, write_held_type, write_schema, write_type, ℕ, ◌∙◌, ◌∷◌, ◌≡◌, ◌≢◌}
use canonical.Schemas.WellFormedLists.{each-flat_map, each-from_flat_map, each-map, each-passing, each-value}
use canonical.Schemas.WellFormedLists.{if-either, if-found, if-last}
use canonical.Schemas.BuiltIn.{built_in}
use canonical.Schemas.Items.{EachWellFormed, IsWellFormedItem, IsWellFormedSchema, IsWellFormedType}
use canonical.Schemas.Items.{each-directive, trees}
use canonical.Schemas.Components.{Suits}
use canonical.Schemas.Whole.{each-type, each-written, schema-meant}
use canonical.Schemas.WholeList.{each-whole}
use canonical.Schemas.Written.{has_root, schema_written, type_written}
use Rattle.apollo_meaning.specs.BuiltInTable.{built_in_definitions}
use Rattle.apollo_component.specs.declared.extension.ComponentOrigin.TheVariants as origins
use Rattle.apollo_types.specs.Components.{of_directive, of_root}
use Rattle.graphql_nodes.specs.declared.type_kind.TypeKind.TheVariants as k
use Rattle.graphql_ast.specs.declared.definition.Definition.TheVariants as ast

-- ---- documents, and lists of their definitions

all-added : (ignores : Bool) (ds : List Definition) → AllByRecursion IsWellFormedDefinition ds
    → AreWellFormed (added ignores ds)
all-added ignores ds = each-map _ _ ds

pub document-added : (ignores : Bool) (ds : List Definition) → IsWellFormed (document_parts ds)
    → AreWellFormed (added ignores ds)
document-added ignores ds h = all-added ignores ds (each-from_flat_map IsWellFormedPart definition_parts ds
    h.1)

pub document-joined : (ds : List Definition) → ds ≢ [] → AllByRecursion IsWellFormedDefinition ds
    → IsWellFormed (document_parts ds)
document-joined [] some a = absurd (some refl)
document-joined (d ∷ ds) some a = (refl, each-flat_map IsWellFormedPart definition_parts (d ∷ ds) a)

-- with the built-in definitions before them
pub after_built_ins : (more : List Added) → AreWellFormed more → AreWellFormed (with_built_ins more)
after_built_ins more a = each-append _ _ more (all-added false built_in_definitions built_in) a

-- ---- the components that well-formed parts make

well : (s t : Sort) (x : Item s) → IsWellFormed (trees s x)
    → IfSome (of_sort t (part_of s x)) (λ n. IsWellFormed (trees t n))
well Directives Directives x h = h
well Names Names x h = h
well Fields Fields x h = h
well Values Values x h = h
well InputFields InputFields x h = h
well Roots Roots x h = h
well _ _ x h = tt

-- a well-formed one of a sort that may be there suits
suits : (is_there : Sort → Bool) (s : Sort) → is_there s ≡ true → (x : Item s) → IsWellFormed (trees s x)
    → Suits is_there (part_of s x)
suits is_there Directives there x h = (λ t. well Directives t x h, there)
suits is_there s there x h = (λ t. well s t x h, there)

each-suits : (is_there : Sort → Bool) (s : Sort) → is_there s ≡ true → (xs : List (Item s))
    → EachWellFormed (trees s) xs → AllByRecursion (λ x. Suits is_there (part_of s x)) xs
each-suits is_there s there = each-weaken _ _ (suits is_there s there)

-- a type with a name, of which each component is well-formed and of its kind
pub record IsWellFormedMeaning (t : ExtendedType) : Type 0 where
  pub name : IsName (type_name t).text
  pub components : AllByRecursion (λ c. Suits (has (type_kind t)) c.1) (type_components t)

-- the type that parts make
module _ (ps : List Sourced) (a : AllByRecursion (λ s. IsWellFormedType s.1) ps) where
  components : (kind : TypeKind) (head : TypePart)
      → AllByRecursion (λ c. Suits (has kind) c.1) (type_components (type_of_kind kind head ps))
  components kind head = type-made _ ps kind head (λ s there. each-weaken _ _ (λ q h. each-suits (has kind) s
      there _ (h.parts s)) ps a)

  pub type_made : (kind : TypeKind) (head : TypePart) → IsName head.name.text
      → IsWellFormedMeaning (type_of_kind kind head ps)
  type_made k.Scalar head n = record { name = n; components = components k.Scalar head }
  type_made kind head n = record { name = n; components = components kind head }

-- and the schema's definition
pub schema_made : (ps : List SourcedSchema) → AllByRecursion (λ s. IsWellFormedSchema s.1) ps
    → (head : SchemaPart)
    → AllByRecursion (λ c. Suits schema_has c.1) (schema_components (schema_definition_of head ps))
schema_made ps a = schema-made _ ps (each-weaken _ _ (λ q h. each-suits schema_has Directives refl
    q.1.parts.directives (h Directives)) ps a) (each-weaken _ _
    (λ q h. each-weaken _ _ (λ r g op. (λ t. well Roots t _ g, refl)) q.1.parts.roots (h Roots)) ps a)

-- the components of the schema's definition are well-formed
abbrev IsSchema : NodeView SchemaDefinition → Type 0
IsSchema n = AllByRecursion (λ c. Suits schema_has c.1) (schema_components n.value)

-- ---- types

-- a well-formed type is written out well-formed, also without its definition
held_type : (t : ExtendedType) → IsWellFormedMeaning t
    → AllByRecursion IsWellFormedDefinition (write_held_type t)
held_type t h = by (is_built_in (type_location t))
  where
    all : AllByRecursion IsWellFormedDefinition (write_type t)
    all = type_written _ h.name _ _ _ _ h.components

    by : (b : Bool) → AllByRecursion IsWellFormedDefinition (cond b (drop 1 (write_type t)) (write_type t))
    by true = all.1
    by false = all

module _ (start : ℕ) (xs : List ListItem) (a : AllByRecursion IsWellFormedItem xs) where
  types : FoldsByKind → (table : List (NameView × ExtendedType))
      → AreTypesOf start (folding_order xs) xs table
      → AllByRecursion (λ t. AllByRecursion IsWellFormedDefinition (write_held_type t)) (values_of table)
  types folds table are = each-weaken _ _ held_type _ (each-type IsWellFormedItem IsWellFormedMeaning
      (λ d es h g. type_made _ (h, each-map _ _ _ g) d.kind d h.name) folds start xs a table are)

  -- ---- directive definitions

  abbrev IsDirective : NodeView DirectiveDefinition → Type 0
  IsDirective n = IsWellFormedDefinition (ast.DirectiveDefinition n)

  one_directive : (n : List ℕ) → IfSome (directive_of (directive_definitions xs) n) IsDirective
  one_directive n =
      let ds = directive_definitions xs in
      let all : AllByRecursion IsDirective ds = each-directive xs a in
      if-either IsDirective _ _ (if-found _ _ ds all) (if-last IsDirective None _ tt (each-passing _ _ _ all))

  directives : (table : List (NameView × NodeView DirectiveDefinition))
      → AreDirectivesOf (directive_definitions xs) table
      → AllByRecursion IsWellFormedDefinition (write_directives (values_of table))
  directives table are =
      each-map _ _ _ (each-passing _ _ _ (each-value IsDirective table _ (are.names
      ∙ first_of_each-map same_text (λ d. d.value.name) _) (λ n. subst (λ o. IfSome o IsDirective)
      (sym (are.each n)) (one_directive n))))

  -- ---- the schema's definition

  one_schema : FoldsAll → IsSchema (unwrap_or (schema_of start (folding_order xs) xs) no_schema)
  one_schema folds = schema-meant IsWellFormedItem IsSchema tt (λ s es h g. schema_made
      ((origins.Definition, s) ∷ map schema_extension_source es) (h, each-map _ _ _ g) s) folds start xs a

-- a root of its own is a root of the definition among the components
own_root : (s : SchemaDefinition) → has_own_root s ≡ true
    → has_root origins.Definition (schema_components s) ≡ true
own_root s h = list_any-append _ (map of_directive s.directives.0) _
    ∙ or_right _ _ (list_any-map _ of_root (named_roots s) ∙ h)

-- ---- the whole write-out

pub written : FoldsByKind → FoldsAll → (start : ℕ) (adopts : Bool) (xs : List Added) (schema : Schema)
    → MeansSchema start adopts xs schema → AreWellFormed xs
    → AllByRecursion IsWellFormedDefinition (write_schema schema)
written folded schema_folded start adopts xs schema means a =
    let all : AllByRecursion IsWellFormedItem (whole adopts xs) = each-whole adopts xs a in
    let s : NodeView SchemaDefinition = schema.schema_definition in
    each-written IsWellFormedDefinition schema (schema_written (is_written schema.types s.value)
    s.value.description (schema_components s.value) s.location (subst IsSchema (sym means.definition)
    (one_schema start (whole adopts xs) all schema_folded))
    (λ h. own_root s.value (and_parts (has_own_root s.value) _ h).0)) (directives start (whole adopts xs)
    all schema.directive_definitions means.directives) (types start (whole adopts xs) all folded
    schema.types means.types)
