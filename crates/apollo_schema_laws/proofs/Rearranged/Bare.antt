-- What definitions say without their locations, with or without the mark of what is built-in, and what is
-- found in a list of them and in what completes it.
use Rattle.apollo_meaning.proofs.Prelude.{Added, added_item, added_items, adopted_by, ap, arith, Bool}
use Rattle.apollo_meaning.proofs.Prelude.{completed, cond, Defined, defined_part, defined_schema, Definition}
use Rattle.apollo_meaning.proofs.Prelude.{directive_definitions, DirectiveDefinition, Directives, Extended}
use Rattle.apollo_meaning.proofs.Prelude.{extended_names, extended_part, extended_schema, extensions_of}
use Rattle.apollo_meaning.proofs.Prelude.{false, filter_map, find, find-made, first, first_schema}
use Rattle.apollo_meaning.proofs.Prelude.{implied_schema, is_built_in, item_of, kind_of, List, ListItem}
use Rattle.apollo_meaning.proofs.Prelude.{lookup-keyed, map, map-append, map-map, NodeView, None, of_kind}
use Rattle.apollo_meaning.proofs.Prelude.{OperationType, Option, option_map, option_map_or, orphans_of, Other}
use Rattle.apollo_meaning.proofs.Prelude.{refl, Root, roots_in, schema_extensions, schema_for, SchemaDefined}
use Rattle.apollo_meaning.proofs.Prelude.{SchemaExtended, SchemaPart, Some, sym, true, TypeKind, TypePart}
use Rattle.apollo_meaning.proofs.Prelude.{whole, with_adopted, ℕ, [], ◌&&◌, ◌∙◌, ◌∷◌, ◌≡◌}
use Rattle.apollo_schema_laws.proofs.Rearranged.Words.{directive_meant, directive_of, directive_part}
use Rattle.apollo_schema_laws.proofs.Rearranged.Words.{filter-map, flat_map-map, has_text, implicit_roots}
use Rattle.apollo_schema_laws.proofs.Rearranged.Words.{is_handed_in, last_or}
use Rattle.std.proofs.lemmas.Option.{slice_get-map}
use Rattle.graphql_nodes.specs.Comparing.{bare_name, bare_node}
use Rattle.graphql_nodes.specs.declared.source.SourceSpan.{SourceSpan}
use Rattle.graphql_ast.specs.BareDeclarations.{bare_parts}
use Rattle.graphql_ast.specs.BareDocuments.{bare_definition}
use Rattle.graphql_ast.specs.BareTypeSystem.{bare_directive_definition, bare_root_operation}
use Rattle.graphql_ast.specs.Parts.{of_type}
use Rattle.graphql_ast.specs.declared.definition.Definition.TheVariants as ast
use Rattle.graphql_ast.specs.declared.parts.Parts.{Parts}
use Rattle.apollo_schema_laws.specs.Equal.{AreEqualLists, compared}
use Rattle.apollo_meaning.specs.Completion.ImpliedSchema.{implicit_root}
use Rattle.apollo_component.proofs.Lists.Reordered.{map-flat_map}

-- of a location only whether it is marked built-in
abbrev pub marked : Bool → Option SourceSpan
marked true = Some (record { file = record { 0 = 0 }; start = 0; end = 0 })
marked false = None

abbrev pub mark : Option SourceSpan → Option SourceSpan
mark l = marked (is_built_in l)

pub mark-kept : (l : Option SourceSpan) → is_built_in (mark l) ≡ is_built_in l
mark-kept l = grind arith

-- a directive definition keeps its mark
abbrev pub bare_directive_node : NodeView DirectiveDefinition → NodeView DirectiveDefinition
bare_directive_node n = record { value = bare_directive_definition n.value; location = mark n.location }

abbrev pub bare_other : Definition → Definition
bare_other (ast.DirectiveDefinition n) = ast.DirectiveDefinition (bare_directive_node n)
bare_other d = bare_definition d

-- what a kind has of parts
pub of_type-bare : (kind : TypeKind) (ps : Parts)
    → of_type kind (bare_parts ps) ≡ bare_parts (of_type kind ps)
of_type-bare kind ps = grind arith

-- the rest keeps its mark too, and whether it may be ignored, or neither
module _ (marks : Bool) where
  -- a part of a type, and of the schema
  abbrev pub unplaced_part : TypePart → TypePart
  unplaced_part p = record p {
    name = bare_name p.name;
    location = cond marks (mark p.location) None;
    description = option_map bare_name p.description;
    parts = bare_parts p.parts;
    ignorable = marks && p.ignorable;
  }

  abbrev pub unplaced_schema_part : SchemaPart → SchemaPart
  unplaced_schema_part s = record {
    location = cond marks (mark s.location) None;
    description = option_map bare_name s.description;
    parts = bare_parts s.parts;
  }

  -- what a definition says
  abbrev pub unplaced_item : ListItem → ListItem
  unplaced_item (Defined p) = Defined (unplaced_part p)
  unplaced_item (Extended p) = Extended (unplaced_part p)
  unplaced_item (SchemaDefined s) = SchemaDefined (unplaced_schema_part s)
  unplaced_item (SchemaExtended s) = SchemaExtended (unplaced_schema_part s)
  unplaced_item (Other d) = Other (bare_other d)

  abbrev pub unplaced_list : List ListItem → List ListItem
  unplaced_list = map unplaced_item

  -- what is chosen of bare items is what is chosen of the items, bare
  module _ {P : Type 0} (which : ListItem → Option P) (bare : P → P) (agree : (x : ListItem)
      → which (unplaced_item x) ≡ option_map bare (which x)) where
    chosen-unplaced : (xs : List ListItem)
        → filter_map which (unplaced_list xs) ≡ map bare (filter_map which xs)
    chosen-unplaced [] = refl
    chosen-unplaced (x ∷ xs) = grind (arith, agree x, chosen-unplaced xs)

  -- so with the definitions of types, their extensions, and the directive definitions
  pub defined-unplaced : (xs : List ListItem)
      → filter_map defined_part (unplaced_list xs) ≡ map unplaced_part (filter_map defined_part xs)
  defined-unplaced = chosen-unplaced defined_part unplaced_part (λ x. grind arith)

  extended-unplaced : (xs : List ListItem)
      → filter_map extended_part (unplaced_list xs) ≡ map unplaced_part (filter_map extended_part xs)
  extended-unplaced = chosen-unplaced extended_part unplaced_part (λ x. grind arith)

  pub directives-unplaced : (xs : List ListItem)
      → directive_definitions (unplaced_list xs) ≡ map bare_directive_node (directive_definitions xs)
  directives-unplaced = chosen-unplaced directive_part bare_directive_node (λ x. grind arith)

  module _ (xs : List ListItem) where
    -- the first definition and the extensions of a name
    pub first-unplaced : (n : List ℕ) → first (unplaced_list xs) n ≡ option_map unplaced_part (first xs n)
    first-unplaced n = simp (lookup-keyed, defined-unplaced, find-made)

    pub extensions-unplaced : (n : List ℕ)
        → extensions_of (unplaced_list xs) n ≡ map unplaced_part (extensions_of xs n)
    extensions-unplaced n = simp (extended-unplaced, filter-map)

    -- those of the schema
    pub first_schema-unplaced : first_schema (unplaced_list xs) ≡ option_map unplaced_schema_part
        (first_schema xs)
    first_schema-unplaced =
        simp (chosen-unplaced defined_schema unplaced_schema_part (λ x. grind arith) xs, slice_get-map)

    pub schema_extensions-unplaced : schema_extensions (unplaced_list xs)
        ≡ map unplaced_schema_part (schema_extensions xs)
    schema_extensions-unplaced = chosen-unplaced extended_schema unplaced_schema_part (λ x. grind arith) xs

  -- the parts of a kind
  pub of_kind-unplaced : (d : TypePart) (es : List TypePart)
      → of_kind (kind_of (unplaced_part d)) (map unplaced_part es)
      ≡ map unplaced_part (of_kind (kind_of d) es)
  of_kind-unplaced d = filter-map _ unplaced_part

-- what is there unless something is found
pub unless-unplaced : {P R : Type 0} (bare : P → P) (other : R → R) (o : Option R) (ps : List P)
    → option_map_or (λ _. []) (option_map other o) (map bare ps) ≡ map bare (option_map_or (λ _. []) o ps)
unless-unplaced bare other o ps = grind arith

-- without marks
abbrev pub bare_part : TypePart → TypePart
bare_part = unplaced_part false

abbrev pub bare_list : List ListItem → List ListItem
bare_list = unplaced_list false

-- what is compared of a definition says as much
abbrev said : Bool × Definition → ListItem
said (b, ast.DirectiveDefinition n) = Other (ast.DirectiveDefinition (record n { location = marked b }))
said (b, d) = item_of d

added-said : (a : Added) → unplaced_item false (added_item a) ≡ said (compared a)
added-said a = grind arith

-- so equal lists say the same without locations
equal-said : (xs ys : List Added) → AreEqualLists xs ys
    → bare_list (added_items xs) ≡ bare_list (added_items ys)
equal-said xs ys alike =
    let each : (zs : List Added) → bare_list (added_items zs) ≡ map said (map compared zs) =
    λ zs. simp (map-map, added-said) in
    simp (each, alike)

-- the definition that a directive's name means is found among bare ones
module _ (n : List ℕ) where
  last-bare : (o : Option (NodeView DirectiveDefinition)) (ds : Directives)
      → last_or (option_map bare_directive_node o) (map bare_directive_node ds)
      ≡ option_map bare_directive_node (last_or o ds)
  last-bare o [] = refl
  last-bare o (d ∷ ds) = last-bare (Some d) ds

  -- the first that isn't marked, among bare ones
  pub find-bare : (ds : Directives)
      → find (λ d. has_text n d && is_handed_in d) (map bare_directive_node ds)
      ≡ option_map bare_directive_node (find (λ d. has_text n d && is_handed_in d) ds)
  find-bare ds = simp (find-made, mark-kept)

  -- the one that is meant
  pub directive_of-bare : (ds : Directives)
      → directive_of (map bare_directive_node ds) n ≡ option_map bare_directive_node (directive_of ds n)
  directive_of-bare ds = grind (arith, find-bare ds, filter-map, last-bare)

  meant-bare : (xs : List ListItem)
      → directive_meant xs n
      ≡ option_map (λ d. d.value) (directive_of (directive_definitions (bare_list xs)) n)
  meant-bare xs = grind (arith, directives-unplaced false xs, directive_of-bare)

-- What a list is completed with, types that are adopted and an implied schema definition, comes without
-- locations of a list without locations.

module _ (marks : Bool) where
  -- what extensions of a name are given
  adopted_by-unplaced : (ps : List TypePart)
      → adopted_by (map (unplaced_part marks) ps) ≡ unplaced_list marks (adopted_by ps)
  adopted_by-unplaced ps = grind arith

  -- roots of joined parts
  pub roots-unplaced : (ss : List SchemaPart)
      → roots_in (map (unplaced_schema_part marks) ss) ≡ map (bare_node bare_root_operation) (roots_in ss)
  roots-unplaced ss = simp (flat_map-map, map-flat_map)

  -- the schema definition that stands for such roots
  schema_for-unplaced : (adopts : Bool) (named implicit : List Root)
      → schema_for adopts (map (bare_node bare_root_operation) named) (map (bare_node bare_root_operation)
      implicit) ≡ unplaced_list marks (schema_for adopts named implicit)
  schema_for-unplaced adopts named implicit = grind arith

  module _ (xs : List ListItem) where
    -- the names that are extended, and the extensions of a name without a definition
    pub extended_names-unplaced : extended_names (unplaced_list marks xs) ≡ extended_names xs
    extended_names-unplaced = simp (extended-unplaced, map-map)

    pub orphans-unplaced : (n : List ℕ)
        → orphans_of (unplaced_list marks xs) n ≡ map (unplaced_part marks) (orphans_of xs n)
    orphans-unplaced n = simp (first-unplaced, extensions-unplaced, unless-unplaced)

    pub with_adopted-unplaced : (adopts : Bool)
        → with_adopted adopts (unplaced_list marks xs) ≡ unplaced_list marks (with_adopted adopts xs)
    with_adopted-unplaced true = simp (extended_names-unplaced, orphans-unplaced, adopted_by-unplaced)
        (simp (map-append, map-flat_map))
    with_adopted-unplaced false = refl

    -- the roots that the names of object types imply
    implicit-unplaced : implicit_roots (unplaced_list marks xs) ≡ map (bare_node bare_root_operation)
        (implicit_roots xs)
    implicit-unplaced = simp (one, map-append)
      where
        one : (op : OperationType)
            → implicit_root (unplaced_list marks xs) op ≡ map (bare_node bare_root_operation)
            (implicit_root xs op)
        one op = grind (arith, first-unplaced marks xs)

    -- the schema definition that is implied
    pub implied_schema-unplaced : (adopts : Bool)
        → implied_schema adopts (unplaced_list marks xs) ≡ unplaced_list marks (implied_schema adopts xs)
    implied_schema-unplaced adopts =
        simp (first_schema-unplaced marks xs, schema_extensions-unplaced marks xs, roots-unplaced)
        (simp (implicit-unplaced, schema_for-unplaced, unless-unplaced))

  -- all that the list is completed with
  pub completed-unplaced : (adopts : Bool) (xs : List ListItem)
      → completed adopts (unplaced_list marks xs) ≡ unplaced_list marks (completed adopts xs)
  completed-unplaced adopts xs = simp (with_adopted-unplaced, implied_schema-unplaced, map-append)

-- all that equal lists mean is the same without locations
pub equal-whole : (adopts : Bool) (xs ys : List Added) → AreEqualLists xs ys
    → bare_list (whole adopts xs) ≡ bare_list (whole adopts ys)
equal-whole adopts xs ys alike = sym (completed-unplaced false adopts _)
    ∙ ap (completed adopts) (equal-said xs ys alike) ∙ completed-unplaced false adopts _

-- so equal lists mean equal definitions of a directive
pub directives-alike : (adopts : Bool) (xs ys : List Added) (n : List ℕ) → AreEqualLists xs ys
    → directive_meant (whole adopts xs) n ≡ directive_meant (whole adopts ys) n
directives-alike adopts xs ys n alike = simp (meant-bare, equal-whole adopts xs ys alike)
