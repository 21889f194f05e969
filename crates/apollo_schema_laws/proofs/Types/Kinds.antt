-- Types by their kinds, and what they hold by sorts. Of each sort that its kind has, a type that parts make
-- has what the parts show, and of each name the first.
use Rattle.apollo_schema_laws.proofs as laws
pub use laws.Words.{◌≡◌, ℕ, Bool, false, cond, List, [], ◌∷◌, Option, None, map, find, option_map, flat_map}
pub use laws.Words.{refl, sym, ap, ◌∙◌, arith, list_any, list_any-map, map-map, map-id, map-flat_map}
pub use laws.Words.{bare_name, entries_by_text, members_by_text, NameView, NodeView, same_text, by_text}
pub use laws.Words.{lookup, values_of, TypeKind, Directive, Parts, bare_directive, bare_enum_value_definition}
pub use laws.Words.{bare_field_definition, bare_input_value_definition, bare_component, BareType}
pub use laws.Words.{bare_extended_type, ComponentOrigin, first_of_each, first_of_each-map, TypePart}
pub use laws.Words.{held_parts, Sourced, component, component_name, same_component_name, sourced_directives}
pub use laws.Words.{names_of, fields_of, input_fields_of, distinct_names, distinct_entries, type_of_kind}
pub use laws.Words.{is_keyed, name_of, node_with_origin, name_with_origin, type_sections}
use laws.Words.{IsDistinct}
pub use Rattle.graphql_ast.specs.Parts.{Sort, Directives, Names, Fields, Values, InputFields, Item, listed}
pub use Rattle.graphql_ast.specs.Parts.{has, with_lists}
pub use Rattle.graphql_nodes.specs.Comparing.{bare_node}
pub use Rattle.graphql_ast.specs.BareDeclarations.{bare_parts}
pub use Rattle.graphql_ast.specs.declared.type_system.EnumValueDefinition.{EnumValueDefinition}
pub use Rattle.graphql_ast.specs.declared.type_system.FieldDefinition.{FieldDefinition}
pub use Rattle.graphql_ast.specs.declared.type_system.InputValueDefinition.{InputValueDefinition}
pub use Rattle.apollo_component.specs.BareComponents.{bare_directives}
use Rattle.graphql_nodes.specs.declared.type_kind.TypeKind.TheVariants as kinds
use Rattle.apollo_meaning.specs.Types.Components as components

-- a part has each name of a sort once
abbrev pub HasOwnNames : TypePart → Type 0
HasOwnNames p = (s : Sort) → IsDistinct same_text (map (name_of s) (listed p.parts s))

-- what a part holds of a sort, if its kind has it
abbrev pub held : (s : Sort) → TypePart → List (Item s)
held s p = listed (held_parts p) s

-- what parts have of one sort, with their origins
abbrev pub shown_in : {P A : Type 0} → (P → List A) → List (ComponentOrigin × P) → List (ComponentOrigin × A)
shown_in sort = flat_map (λ s. map (λ x. (s.0, x)) (sort s.1))

-- what is made of each part is made of all that the parts show
pub made-shown : {P A C : Type 0} (make : ComponentOrigin → A → C) (sort : P
    → List A) (ss : List (ComponentOrigin × P))
    → flat_map (λ s. map (make s.0) (sort s.1)) ss ≡ map (λ x. make x.0 x.1) (shown_in sort ss)
made-shown make sort ss = simp (map-flat_map, map-map)

-- and the first of each that is made, of the first of each that they show
pub firsts-made : {P A C : Type 0} (same : C → C → Bool) (make : ComponentOrigin → A → C) (sort : P
    → List A) (ss : List (ComponentOrigin × P))
    → first_of_each same (flat_map (λ s. map (make s.0) (sort s.1)) ss) ≡ map (λ x. make x.0 x.1)
    (first_of_each (λ x y. same (make x.0 x.1) (make y.0 y.1)) (shown_in sort ss))
firsts-made same make sort ss = rw (made-shown make sort ss, first_of_each-map same _ _)

-- nodes that are made components are shown by these
pub nodes-shown : {P T : Type 0} (sort : P → List (NodeView T)) (ss : List (ComponentOrigin × P))
    → map node_with_origin (flat_map (λ s. map (component s.0) (sort s.1)) ss) ≡ shown_in sort ss
nodes-shown sort ss = simp (map-flat_map, map-map)

-- the first of each name
abbrev pub firsts : {X : Type 0} → (X → NameView) → List X → List X
firsts name = first_of_each (λ a b. same_text (name a) (name b))

-- what is kept of a sort: where it has names of its own, the first of each
abbrev pub kept_by : {X : Type 0} → Sort → (X → NameView) → List X → List X
kept_by s name xs = cond (is_keyed s) (firsts name xs) xs

-- so with components of the sort
abbrev pub kept : (s : Sort) → List (ComponentOrigin × Item s) → List (ComponentOrigin × Item s)
kept s = kept_by s (λ x. name_of s x.1)

pub kept-map : {X Y : Type 0} (s : Sort) (name : Y → NameView) (f : X → Y) (xs : List X)
    → map f (kept_by s (λ x. name (f x)) xs) ≡ kept_by s name (map f xs)
kept-map s name f xs = grind (arith, first_of_each-map (λ a b. same_text (name a) (name b)) f xs)

-- entries that are made of nodes show these, the first of each name
entries-viewed : {T : Type 0} (name : NodeView T → NameView) (sort : TypePart → List (NodeView T))
    (ps : List Sourced)
    → map node_with_origin
    (values_of (distinct_entries (flat_map (λ s. map (λ n. (name n, component s.0 n)) (sort s.1)) ps)))
    ≡ firsts (λ x. name x.1) (shown_in sort ps)
entries-viewed name sort ps = ap (λ es. map node_with_origin (values_of es)) (firsts-made _ _ sort ps)
    ∙ simp (map-map, map-id)

-- so a type that parts make has of each sort what they show, if its kind has it
pub sections-made : (kind : TypeKind) (head : TypePart) (ps : List Sourced)
    → type_sections (type_of_kind kind head ps) ≡ (λ s. cond (has kind s) (kept s (shown_in (held s) ps)) [])
sections-made kind head ps = λ i s. by kind s i
  where
    by : (kind : TypeKind) (s : Sort)
        → type_sections (type_of_kind kind head ps) s ≡ cond (has kind s) (kept s (shown_in (held s) ps)) []
    by kinds.Object Fields = entries-viewed (λ f. f.value.name) (held Fields) ps
    by kinds.Interface Fields = entries-viewed (λ f. f.value.name) (held Fields) ps
    by kinds.Enum Values = entries-viewed (λ v. v.value.value) (held Values) ps
    by kinds.InputObject InputFields = entries-viewed (λ f. f.value.name) (held InputFields) ps
    by kind Directives = nodes-shown (held Directives) ps
    by kind s = grind (arith, names)
      where
        names : map name_with_origin (distinct_names (flat_map names_of ps))
            ≡ kept Names (shown_in (held Names) ps)
        names = simp (firsts-made same_component_name component_name (held Names) ps, map-map, map-id)

-- what `==` compares of a type of a kind
abbrev pub bare_with : TypeKind → Option NameView → NameView → List Directive → (List ℕ → Bool)
    → (List ℕ → Option FieldDefinition) → (List ℕ → Option EnumValueDefinition)
    → (List ℕ → Option InputValueDefinition) → BareType
bare_with kind d n x i f v h = record {
  kind = kind;
  description = d;
  name = n;
  directives = x;
  names = cond (has kind Names) i (λ _. false);
  fields = cond (has kind Fields) f (λ _. None);
  values = cond (has kind Values) v (λ _. None);
  input_fields = cond (has kind InputFields) h (λ _. None);
}

-- the node of a name
abbrev pub found_by : {T : Type 0} → (NodeView T → NameView) → List (NodeView T) → List ℕ → Option T
found_by name ns = λ text. option_map (λ n. n.value) (find (λ n. by_text text (name n)) ns)

-- of a type that has these parts, which are without locations
abbrev pub bare_of : TypeKind → Option NameView → NameView → Parts → BareType
bare_of kind d n parts = bare_with kind d n (map (λ x. x.value) parts.directives)
    (members_by_text (λ x. x) parts.names) (found_by (λ f. f.value.name) parts.fields)
    (found_by (λ v. v.value.value) parts.values) (found_by (λ f. f.value.name) parts.input_fields)

-- of a type that has these parts
abbrev pub seen_as : TypeKind → Option NameView → NameView → Parts → BareType
seen_as kind d n parts = bare_of kind (option_map bare_name d) (bare_name n) (bare_parts parts)

-- what a type that parts make keeps, if its kind has it
abbrev pub kept_parts : List Sourced → Parts
kept_parts ps = with_lists (λ s. map (λ x. x.1) (kept s (shown_in (held s) ps)))

entries-bare : {T : Type 0} (name : NodeView T → NameView) (bare : T → T)
    → ((n : NodeView T) → (name (bare_node bare n)).text ≡ (name n).text)
    → (sort : TypePart → List (NodeView T)) (ps : List Sourced)
    → entries_by_text (bare_component bare)
    (distinct_entries (flat_map (λ s. map (λ n. (name n, component s.0 n)) (sort s.1)) ps))
    ≡ found_by name (map (bare_node bare) (map (λ x. x.1) (firsts (λ x. name x.1) (shown_in sort ps))))
entries-bare {T} name bare named sort ps = ap (entries_by_text (bare_component bare))
    (firsts-made _ _ sort ps) ∙ (λ i text. by text (firsts (λ x. name x.1) (shown_in sort ps)) i)
  where
    by : (text : List ℕ) (xs : List (ComponentOrigin × NodeView T))
        → option_map (bare_component bare) (lookup (by_text text) (map (λ x. (name x.1, component x.0 x.1))
        xs)) ≡ found_by name (map (bare_node bare) (map (λ x. x.1) xs)) text
    by text [] = refl
    by text (x ∷ xs) = grind (arith, named x.1, by text xs)

pub bare-made : (kind : TypeKind) (head : TypePart) (ps : List Sourced)
    → bare_extended_type (type_of_kind kind head ps) ≡ seen_as kind head.description head.name (kept_parts ps)
bare-made kind head ps =
    by kind ∙ (λ i. bare_with kind (option_map bare_name head.description) (bare_name head.name)
    (directives i) (names i) (entries-bare (λ f. f.value.name) bare_field_definition (λ n. refl) (held Fields)
    ps i) (entries-bare (λ v. v.value.value) bare_enum_value_definition (λ n. refl) (held Values) ps i)
    (entries-bare (λ f. f.value.name) bare_input_value_definition (λ n. refl) (held InputFields) ps i))
  where
    by : (kind : TypeKind)
        → bare_extended_type (type_of_kind kind head ps)
        ≡ bare_with kind (option_map bare_name head.description) (bare_name head.name)
        (bare_directives (record { 0 = flat_map sourced_directives ps })) (members_by_text (λ c. c.name)
        (distinct_names (flat_map names_of ps))) (entries_by_text (bare_component bare_field_definition)
        (distinct_entries (flat_map fields_of ps)))
        (entries_by_text (bare_component bare_enum_value_definition)
        (distinct_entries (flat_map components.values_of ps))) (entries_by_text
        (bare_component bare_input_value_definition) (distinct_entries (flat_map input_fields_of ps)))
    by kinds.Scalar = refl
    by kind = refl

    directives : bare_directives (record { 0 = flat_map sourced_directives ps })
        ≡ map (λ d. d.value) (bare_parts (kept_parts ps)).directives
    directives = ap (map (bare_component bare_directive)) (made-shown component _ ps) ∙ simp map-map

    names : members_by_text (λ c. c.name) (distinct_names (flat_map names_of ps))
        ≡ members_by_text (λ n. n) (bare_parts (kept_parts ps)).names
    names = ap (members_by_text (λ c. c.name)) (firsts-made same_component_name component_name _ ps)
        ∙ (λ i text. seen text (kept Names (shown_in (held Names) ps)) i)
      where
        seen : (text : List ℕ) (ks : List (ComponentOrigin × NameView))
            → list_any (λ c. by_text text c.name) (map (λ x. component_name x.0 x.1) ks)
            ≡ list_any (by_text text) (map bare_name (map (λ x. x.1) ks))
        seen text ks = simp (list_any-map, map-map)
