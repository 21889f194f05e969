-- What a schema is written out as is not marked built-in, where what was added is not.
use Rattle.apollo_canonical.proofs as canonical
use canonical.Prelude.{Added, AllByRecursion, AreTypesOf, Bool, ComponentOrigin, Definition}
use canonical.Prelude.{DirectiveDefinition, Extended, ExtendedType, ExtensionId, FoldsAll, FoldsByKind, List}
use canonical.Prelude.{ListItem, MeansSchema, NameView, NodeView, Option, Parts, Schema, SchemaDefined}
use canonical.Prelude.{SchemaDefinition, SchemaExtended, SourceSpan, SourcedPart, [], added, added_item}
use canonical.Prelude.{added_items, arith, by_origin, cond, definition_location, drop, each-append}
use canonical.Prelude.{each-first, each-of_schema, each-of_type, each-weaken, extension_location, false}
use canonical.Prelude.{filter_map, folding_order, id_of, is_built_in, is_handed_in, is_written, list_all, map}
use canonical.Prelude.{map-append, no_schema, not, not-true, origins_in, refl, same_id, schema_components}
use canonical.Prelude.{schema_definition, schema_extension, schema_extension_source, schema_of, subst, sym}
use canonical.Prelude.{true, type_components, type_extension, type_kind, type_location, type_name, unwrap_or}
use canonical.Prelude.{values_of, whole, with_built_ins, write_directives, write_held_type, write_schema}
use canonical.Prelude.{write_schema_definition, write_type, ℕ, ◌++◌, ◌∙◌, ◌∷◌, ◌≡◌}
use canonical.Schemas.Alike.{IsUnmarked}
use canonical.Schemas.WellFormedLists.{each-map, each-tested, passes}
use canonical.Schemas.Whole.{each-completed, each-type, each-written, schema-meant}
use Rattle.apollo_component.specs.declared.extension.ComponentOrigin.TheVariants as origins
unfoldable use Rattle.apollo_meaning.specs.BuiltInTable.{built_in_definitions}

-- an origin that is not marked built-in
abbrev IsHandedIn : ComponentOrigin → Type 0
IsHandedIn origins.Definition = Unit {0}
IsHandedIn (origins.Extension e) = is_built_in e.location ≡ false

abbrev AreHandedIn : List SourcedPart → Type 0
AreHandedIn cs = AllByRecursion (λ c. IsHandedIn c.0) cs

-- ---- what is written of components

ids : (cs : List SourcedPart) → AreHandedIn cs
    → AllByRecursion (λ e. is_built_in (extension_location e) ≡ false) (filter_map id_of (origins_in cs))
ids [] a = tt
ids ((origins.Definition, part) ∷ cs) a = ids cs a.1
ids ((origins.Extension e, part) ∷ cs) a = (a.0, ids cs a.1)

written : (make : Parts → Option SourceSpan → Definition)
    → ((ps : Parts) (at : Option SourceSpan) → is_built_in (definition_location (make ps at))
    ≡ is_built_in at) → (cs : List SourcedPart) → AreHandedIn cs
    → AllByRecursion IsUnmarked (map (λ (e : ExtensionId × Parts). make e.1 (extension_location e.0))
    (by_origin cs).extensions)
written make located cs a =
    each-map _ _ _ (each-map _ _ _ (each-weaken _ _ (λ e h. located _ (extension_location e) ∙ h) _
    (each-first _ same_id _ (ids cs a))))

held : (t : ExtendedType) → AreHandedIn (type_components t) → AllByRecursion IsUnmarked (write_held_type t)
held t a = by (is_built_in (type_location t)) refl
  where
    extensions : AllByRecursion IsUnmarked (map (λ (e : ExtensionId × Parts). type_extension (type_kind t)
        (type_name t) e.1 (extension_location e.0)) (by_origin (type_components t)).extensions)
    extensions = written (type_extension (type_kind t) (type_name t)) (λ ps at. grind arith) _ a

    by : (b : Bool) → is_built_in (type_location t) ≡ b
        → AllByRecursion IsUnmarked (cond b (drop 1 (write_type t)) (write_type t))
    by true e = extensions
    by false e = (grind (arith, e), extensions)

directives : (ds : List (NodeView DirectiveDefinition)) → AllByRecursion IsUnmarked (write_directives ds)
directives ds = each-map _ _ _ (each-weaken _ _ (λ d. not-true _) _ (passes is_handed_in ds))

-- ---- what a list extends

-- an extension, or a definition of the schema, that is not marked built-in
abbrev is_by_hand : ListItem → Bool
is_by_hand (Extended p) = not (is_built_in p.location)
is_by_hand (SchemaDefined s) = not (is_built_in s.location)
is_by_hand (SchemaExtended s) = not (is_built_in s.location)
is_by_hand _ = true

abbrev IsByHand : ListItem → Type 0
IsByHand x = is_by_hand x ≡ true

built-in_by_hand : list_all is_by_hand (added_items (added false built_in_definitions)) ≡ true
unfolding built_in_definitions
built-in_by_hand = refl

item-by_hand : (b : Bool) (d : Definition) → IsUnmarked d → is_by_hand (added_item (b, d)) ≡ true
item-by_hand b d h = grind (arith, h)

by_hand : (adopts : Bool) (more : List Added) → AllByRecursion (λ a. IsUnmarked a.1) more
    → AllByRecursion IsByHand (whole adopts (with_built_ins more))
by_hand adopts more handed = each-completed IsByHand (λ e h. refl) (λ xs. refl) adopts _
    (subst (AllByRecursion IsByHand) (sym (map-append added_item _ more))
    (each-append IsByHand _ _ (each-tested IsByHand is_by_hand (λ x h. h) _ built-in_by_hand)
    (each-map IsByHand added_item more (each-weaken _ _ (λ a h. item-by_hand a.0 a.1 h) _ handed))))

-- ---- the write-out

abbrev IsHandedNode : NodeView SchemaDefinition → Type 0
IsHandedNode n = AreHandedIn (schema_components n.value) × (is_built_in n.location ≡ false)

module _ (start : ℕ) (xs : List ListItem) (a : AllByRecursion IsByHand xs) where
  types : FoldsByKind → (table : List (NameView × ExtendedType))
      → AreTypesOf start (folding_order xs) xs table
      → AllByRecursion (λ t. AllByRecursion IsUnmarked (write_held_type t)) (values_of table)
  types folds table are = each-weaken _ _ held _ (each-type IsByHand _ (λ d es h g. each-of_type IsHandedIn _
      (tt, each-map _ _ _ (each-weaken _ _ (λ e. not-true _) es g)) d.kind d) folds start xs a table are)

  node-handed : FoldsAll → IsHandedNode (unwrap_or (schema_of start (folding_order xs) xs) no_schema)
  node-handed folds = schema-meant IsByHand IsHandedNode (tt, refl) (λ s es h g. (
    each-of_schema IsHandedIn ((origins.Definition, s) ∷ map schema_extension_source es)
        (tt, each-map _ _ _ (each-weaken _ _ (λ e. not-true _) es g)) s,
    not-true _ h,
  )) folds start xs a

definition : (n : NodeView SchemaDefinition) (types : List (NameView × ExtendedType)) → IsHandedNode n
    → AllByRecursion IsUnmarked (write_schema_definition n.value n.location types)
definition n types a = by (is_written types n.value)
  where
    by : (b : Bool)
        → AllByRecursion IsUnmarked
        (cond b (schema_definition n.value.description (by_origin (schema_components n.value)).definition
        n.location ∷ []) [] ++ map (λ (e : ExtensionId × Parts). schema_extension e.1
        (extension_location e.0)) (by_origin (schema_components n.value)).extensions)
    by true = (a.1, written schema_extension (λ ps at. refl) _ a.0)
    by false = written schema_extension (λ ps at. refl) _ a.0

pub unmarked-written : FoldsByKind → FoldsAll
    → (start : ℕ) (adopts : Bool) (more : List Added) (schema : Schema)
    → AllByRecursion (λ a. IsUnmarked a.1) more → MeansSchema start adopts (with_built_ins more) schema
    → AllByRecursion IsUnmarked (write_schema schema)
unmarked-written folds folds_schema start adopts more schema handed means =
    let a : AllByRecursion IsByHand (whole adopts (with_built_ins more)) = by_hand adopts more handed in
    each-written IsUnmarked schema (definition schema.schema_definition schema.types
    (subst IsHandedNode (sym means.definition) (node-handed start _ a folds_schema))) (directives
    (values_of schema.directive_definitions)) (types start _ a folds schema.types means.types)
