-- What well-formed definitions say of types and of the schema, sort by sort.
use Rattle.apollo_canonical.proofs as canonical
use canonical.Prelude.{Added, AllByRecursion, AreWellFormed, Bool, Declaration, Defined, Directives, Extended}
use canonical.Prelude.{Fields, IfSome, InputFields, IsName, IsWellFormed, IsWellFormedDefinition}
use canonical.Prelude.{IsWellFormedPart, Item, List, ListItem, Name, Names, OfDirective, OfFragment}
use canonical.Prelude.{OfOperation, Other, Parts, Roots, SchemaDefined, SchemaExtended, SchemaPart, Sort}
use canonical.Prelude.{TreePart, TypeKind, TypePart, Values, [], added_items, body_parts, declaration_parts}
use canonical.Prelude.{directive_definitions, directive_list, directive_part, directive_parts}
use canonical.Prelude.{directives_parts, enum_value_parts, false, field_parts, flat_map, front_parts}
use canonical.Prelude.{held_parts, input_value_parts, listed, name_parts, node_parts, of_type, root_parts}
use canonical.Prelude.{roots_parts, true, ◌++◌, ◌∷◌}
use canonical.Schemas.WellFormedLists.{each-chosen, each-from_flat_map, each-split}
use Rattle.graphql_nodes.specs.declared.type_kind.TypeKind.TheVariants as k
use Rattle.graphql_ast.specs.Declarations.{OfSchema, OfType}
use Rattle.graphql_ast.specs.Parts.{of_schema}
use Rattle.graphql_ast.specs.declared.definition.Definition.TheVariants as d
use Rattle.apollo_meaning.specs.Items.ListItems.{ignorable_if, item_from}

-- each of these could have come of a text
abbrev pub EachWellFormed : {A : Type 0} → (A → List TreePart) → List A → Type 0
EachWellFormed parts xs = AllByRecursion (λ x. IsWellFormed (parts x)) xs

-- what one of a sort is made of
abbrev pub trees : (s : Sort) → Item s → List TreePart
trees Directives = node_parts (directive_parts true)
trees Names = name_parts
trees Fields = node_parts field_parts
trees Values = node_parts enum_value_parts
trees InputFields = node_parts input_value_parts
trees Roots = node_parts root_parts

-- the parts of a definition or extension, sort by sort
abbrev pub AreWellFormedParts : Parts → Type 0
AreWellFormedParts ps = (s : Sort) → EachWellFormed (trees s) (listed ps s)

-- a definition or extension of a type
pub record IsWellFormedType (p : TypePart) : Type 0 where
  pub name : IsName p.name.text
  pub parts : AreWellFormedParts (held_parts p)

-- a definition or extension of the schema
abbrev pub IsWellFormedSchema : SchemaPart → Type 0
IsWellFormedSchema s = AreWellFormedParts (of_schema s.parts)

-- an entry of a list
abbrev pub IsWellFormedItem : ListItem → Type 0
IsWellFormedItem (Defined p) = IsWellFormedType p
IsWellFormedItem (Extended p) = IsWellFormedType p
IsWellFormedItem (SchemaDefined s) = IsWellFormedSchema s
IsWellFormedItem (SchemaExtended s) = IsWellFormedSchema s
IsWellFormedItem (Other x) = IsWellFormedDefinition x

split : (xs ys : List TreePart) → IsWellFormed (xs ++ ys) → IsWellFormed xs × IsWellFormed ys
split = each-split IsWellFormedPart

each : {A : Type 0} (parts : A → List TreePart) (xs : List A) → IsWellFormed (flat_map parts xs)
    → EachWellFormed parts xs
each parts xs = each-from_flat_map IsWellFormedPart parts xs

-- what stands behind the name of a type of a kind is well-formed, sort by sort
module _ (ps : Parts) where
  -- directives, and the parts of a sort behind them
  directed : (s : Sort)
      → IsWellFormed (directives_parts true (directive_list ps) ++ flat_map (trees s) (listed ps s))
      → EachWellFormed (trees Directives) ps.directives × EachWellFormed (trees s) (listed ps s)
  directed s h =
      let both = split _ _ h in
      (each (trees Directives) ps.directives both.0, each (trees s) _ both.1)

  -- interfaces, directives and fields
  fielded : IsWellFormed (body_parts k.Object ps) → (s : Sort)
      → EachWellFormed (trees s) (listed (of_type k.Object ps) s)
  fielded h Names = each name_parts ps.names (split _ _ h).0
  fielded h Directives = (directed Fields (split _ _ h).1).0
  fielded h Fields = (directed Fields (split _ _ h).1).1
  fielded h _ = tt

  behind_name : (kind : TypeKind) → IsWellFormed (body_parts kind ps) → (s : Sort)
      → EachWellFormed (trees s) (listed (of_type kind ps) s)
  behind_name k.Scalar h Directives = each (trees Directives) ps.directives h
  behind_name k.Object h s = fielded h s
  behind_name k.Interface h s = fielded h s
  behind_name k.Union h Directives = (directed Names h).0
  behind_name k.Union h Names = (directed Names h).1
  behind_name k.Enum h Directives = (directed Values h).0
  behind_name k.Enum h Values = (directed Values h).1
  behind_name k.InputObject h Directives = (directed InputFields h).0
  behind_name k.InputObject h InputFields = (directed InputFields h).1
  behind_name _ h _ = tt

  -- directives and roots of the schema
  pub rooted : EachWellFormed (trees Directives) ps.directives → EachWellFormed (trees Roots) ps.roots
      → (s : Sort) → EachWellFormed (trees s) (listed (of_schema ps) s)
  rooted ds rs Directives = ds
  rooted ds rs Roots = rs
  rooted ds rs _ = tt

-- what a well-formed definition says is well-formed
declared : (x : Declaration) → IsWellFormed (declaration_parts x) → IsWellFormedItem (item_from x)
declared (OfOperation n) h = h
declared (OfFragment n) h = h
declared (OfDirective n) h = h
declared (OfType t) h = by t.is_extension (split (front_parts t.is_extension t.description _) _ h.1).1
  where
    by : (b : Bool) → IsWellFormed (Name t.name ∷ body_parts t.kind t.parts)
        → IsWellFormedItem (item_from (OfType (record t { is_extension = b })))
    by true g = record { name = g.0; parts = behind_name t.parts t.kind g.1 }
    by false g = record { name = g.0; parts = behind_name t.parts t.kind g.1 }
declared (OfSchema s) h = by s.is_extension (split _ _ h.1).1
  where
    by : (b : Bool)
        → IsWellFormed (directives_parts true (directive_list s.parts) ++ roots_parts b s.parts.roots)
        → IsWellFormedItem (item_from (OfSchema (record s { is_extension = b })))
    by true g = let both = directed s.parts Roots g in rooted s.parts both.0 both.1
    by false g =
        let both = split _ _ g in
        rooted s.parts (each (trees Directives) s.parts.directives both.0)
        (each (trees Roots) s.parts.roots both.1.1)

-- whether a definition may be ignored makes no difference
ignorable : (b : Bool) (x : ListItem) → IsWellFormedItem x → IsWellFormedItem (ignorable_if b x)
ignorable b (Defined p) h = record { name = h.name; parts = h.parts }
ignorable b _ h = h

pub each-added : (xs : List Added) → AreWellFormed xs → AllByRecursion IsWellFormedItem (added_items xs)
each-added [] a = tt
each-added (x ∷ xs) a = (ignorable x.0 _ (declared _ a.0), each-added xs a.1)

-- the directive definitions of well-formed entries
pub each-directive : (xs : List ListItem) → AllByRecursion IsWellFormedItem xs
    → AllByRecursion (λ n. IsWellFormedDefinition (d.DirectiveDefinition n)) (directive_definitions xs)
each-directive = each-chosen _ IsWellFormedItem directive_part chosen
  where
    chosen : (x : ListItem) → IsWellFormedItem x
        → IfSome (directive_part x) (λ n. IsWellFormedDefinition (d.DirectiveDefinition n))
    chosen (Other (d.DirectiveDefinition n)) h = h
    chosen _ h = tt
