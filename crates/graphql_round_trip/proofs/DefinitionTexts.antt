-- Texts of directives that are defined: GraphQL specification of October 2021, section 3.13.
use Rattle.std.proofs.Common.{◌≡◌, ◌≤◌, ℕ, Bool, true, false, not, List, [], ◌∷◌, ◌++◌, map, map-id}
use Rattle.std.proofs.Common.{option_map, Option, None, Some, refl, sym, ap, subst, ◌∙◌}
use Rattle.std.specs.Prelude.{codes, if◌then◌else◌}
use Rattle.std.specs.List.{AllByRecursion}
use Rattle.graphql_nodes.specs.Comparing.{bare_name, bare_node}
use Rattle.graphql_nodes.specs.LocationTexts.{location_text}
use Rattle.graphql_nodes.specs.NameView.{NameView}
use Rattle.graphql_nodes.specs.NodeView.{NodeView}
use Rattle.graphql_nodes.specs.declared.directive_location.DirectiveLocation.{DirectiveLocation}
use Rattle.graphql_nodes.specs.declared.source.FileId.{FileId}
use Rattle.graphql_ast.specs.BareTypeSystem.{bare_input_value_definition}
use Rattle.graphql_ast.specs.declared.definition.Definition.{Definition}
use Rattle.graphql_ast.specs.declared.type_system.DirectiveDefinition.{DirectiveDefinition}
use Rattle.graphql_ast.specs.declared.type_system.InputValueDefinition.{InputValueDefinition}
use Rattle.graphql_grammar.specs.declared.kind.Kind.{Kind}
use Rattle.graphql_grammar.specs.Kinds.{is_name, only}
use Rattle.graphql_grammar.specs.Pieces.{optional, separated, sign, Piece, choose}
use Rattle.graphql_grammar.specs.WordsOfText.{name_kind}
use Rattle.graphql_productions.specs.DefinitionTreeParts.{input_values_parts, declaration_parts}
use Rattle.graphql_productions.specs.DefinitionTreeParts.{definition_parts, body_parts, description_parts}
use Rattle.graphql_productions.specs.DefinitionTreeParts.{roots_parts}
use Rattle.graphql_productions.specs.Locations.{location_of}
use Rattle.graphql_productions.specs.TreeParts.{Name, Wanted, directives_parts}
use Rattle.graphql_productions.specs.TypeSystem.{Described, described, directive_body, directive_of, is_none}
use Rattle.graphql_productions.specs.TypeSystem.{is_there, location, location_word, no_described, no_location}
use Rattle.graphql_productions.specs.TypeSystem.{extension, system_definition, expecting, described_pick}
use Rattle.graphql_productions.specs.WellFormed.{IsWellFormed}
use Rattle.graphql_productions.proofs.LocationLemmas.{by_name}
use Rattle.graphql_printing.specs.Layout.{separated as separated_text}
use Rattle.graphql_printing.specs.TypeSystem.{argument_definitions_text, directive_shape, repeatable_text}
use Rattle.graphql_printing.specs.TypeSystem.{schema_shape}
use Rattle.graphql_round_trip.specs.Nesting.{between, input_nesting, declaration_nesting, definition_nesting}
use Rattle.graphql_round_trip.specs.Printed.{Heads, Prints, ends_token, anything}
use Rattle.graphql_round_trip.proofs.TypeDefinitionTexts.{bare_described, described_seen}
use Rattle.graphql_round_trip.proofs.TypeDefinitionTexts.{described_definition, extended_extension}
use Rattle.graphql_round_trip.proofs.TypeDefinitionTexts.{front_heads, front_kinds, is_system, bare_schema_of}
use Rattle.graphql_round_trip.proofs.TypeDefinitionTexts.{schema_definition_prints, bare_type_of}
use Rattle.graphql_round_trip.proofs.TypeDefinitionTexts.{type_definition_prints, schema_extension_prints}
use Rattle.graphql_round_trip.proofs.TypeDefinitionTexts.{schema_heads, keyword_is_described}
use Rattle.graphql_round_trip.proofs.TypeDefinitionTexts.{type_extension_prints, type_heads}
use Rattle.graphql_round_trip.proofs.TypeDefinitionTexts.{bare_schema_extension_of, bare_extension_of}
use Rattle.graphql_round_trip.proofs.PieceTexts.{same_heads}
use Rattle.graphql_round_trip.proofs.PieceTexts.{grouped6, regrouped, keyword_prints, sign_before}
use Rattle.graphql_round_trip.proofs.PieceTexts.{sign_prints, loosely, node_prints, behind_blank, branch_at}
use Rattle.graphql_round_trip.proofs.PieceTexts.{heads_on, mapped_text, none_text, one_text, seq_text, there}
use Rattle.graphql_round_trip.proofs.PieceTexts.{word_text, branch_text, IsApart, apart_joined, name_prints}
use Rattle.graphql_round_trip.proofs.HeadTexts.{keyword_before, keyword_heads, first_text, is_none_of}
use Rattle.graphql_round_trip.proofs.HeadTexts.{second_text}
use Rattle.graphql_round_trip.proofs.ListTexts.{part_of_front, picked_text, separated_prints}
use Rattle.graphql_round_trip.proofs.TokenTexts.{at_is_token, kind_of_name, names, pipe_is_token}
use Rattle.graphql_round_trip.proofs.TokenTexts.{word_is_token}
use Rattle.graphql_ast.specs.BareDeclarations.{bare_declaration}
use Rattle.graphql_ast.specs.BareDocuments.{bare_definition}
use Rattle.graphql_ast.specs.Declarations.{OfDirective, OfSchema, OfType, made, Declaration, OfOperation}
use Rattle.graphql_ast.specs.Declarations.{OfFragment, declaration_of}
use Rattle.graphql_ast.specs.declared.declaration.SchemaDeclaration.{SchemaDeclaration}
use Rattle.graphql_ast.specs.declared.declaration.TypeDeclaration.{TypeDeclaration}
use Rattle.graphql_printing.specs.Documents.{declaration_text, definition_text, operation_behind}
use Rattle.graphql_nodes.specs.declared.operation_type.OperationType.{OperationType}
use Rattle.graphql_ast.specs.declared.operation.FragmentDefinition.{FragmentDefinition}
use Rattle.graphql_ast.specs.declared.operation.OperationDefinition.{OperationDefinition}
use Rattle.graphql_productions.specs.Documents.{definition, definition_pick, fragment, operation_definition}
use Rattle.graphql_productions.specs.Documents.{shorthand_definition}
use Rattle.graphql_productions.specs.Operations.{is_operation_type}
use Rattle.graphql_printing.specs.Operations.{is_short, long_text}
use Rattle.graphql_printing.specs.Selections.{selections_text}
use Rattle.graphql_round_trip.proofs.OperationTexts.{fragment_prints, keyword_kind, long_head}
use Rattle.graphql_round_trip.proofs.OperationTexts.{operation_prints, shorthand_prints, fragment_head}
use Rattle.graphql_round_trip.proofs.OperationTexts.{applied, selections_head}
use Rattle.graphql_nodes.specs.declared.directive_location.DirectiveLocation.TheVariants as l
use Rattle.graphql_ast.specs.declared.definition.Definition.TheVariants as d
use Rattle.graphql_tokens.specs.declared.token.TokenKind.TheVariants as t
use Rattle.graphql_grammar.specs.declared.fault.Item.TheVariants as i
use Rattle.graphql_grammar.specs.declared.kind.Kind.TheVariants as k
use Rattle.graphql_nodes.specs.declared.operation_type.OperationType.TheVariants as o
use Rattle.graphql_round_trip.proofs.TypedTexts.{argument_definitions_print, arguments_apart}
use Rattle.graphql_ast.specs.Parts.{directive_list}
use Rattle.graphql_grammar.specs.declared.fault.FaultKind.TheVariants.{Expected}

-- ---- locations

location_is_name : (place : DirectiveLocation) → names (location_text place) ≡ true
location_is_name l.Query = refl
location_is_name place = refl

-- the location that a word names, by what the word is and its bytes
abbrev named : Kind × List ℕ → Option DirectiveLocation
named w = if is_name w.0 then location_of w.1 else None

-- the name of a location
location_prints : (place : DirectiveLocation)
    → Prints location (λ x. x) place (location_text place) ends_token
unfolding location
location_prints place =
    let own : named (name_kind (location_text place), location_text place) ≡ Some place =
    rw (kind_of_name (location_text place)) (sym (by_name (Some place) (location_text place) refl)) in
    picked_text no_location location_word place (λ w same. ap named same ∙ own) (word_text is_name no_location
    t.Name (word_is_token (location_text place) (location_is_name place))
    (kind_of_name (location_text place)))

each_location : (places : List DirectiveLocation)
    → AllByRecursion (λ place. Prints location (λ x. x) place (location_text place) ends_token) places
each_location [] = tt
each_location (place ∷ places) = (location_prints place, each_location places)

-- ---- whether a directive may be repeated

-- the keyword, where it is there
abbrev repeatable_sign : Bool → Option (Unit {0})
repeatable_sign true = Some tt
repeatable_sign false = None

repeatable_prints : (is : Bool)
    → Prints (optional (sign k.Repeatable)) (option_map there) (repeatable_sign is) (repeatable_text is)
    ends_token
repeatable_prints true =
    one_text (behind_blank (codes " ") refl (keyword_prints k.Repeatable (codes "repeatable") refl refl))
repeatable_prints false = none_text (sign k.Repeatable) there ends_token

repeatable_apart : (is : Bool) → IsApart (repeatable_text is)
repeatable_apart true = λ rest end. refl
repeatable_apart false = λ rest end. end

there_seen : (x : Option (Unit {0})) → is_there (option_map there x) ≡ is_there x
there_seen None = refl
there_seen (Some x) = refl

sign_says : (is : Bool) → is_there (repeatable_sign is) ≡ is
sign_says true = refl
sign_says false = refl

-- ---- directives

-- the definition of a directive that stands nowhere, for its description
abbrev directive_made : NameView → List (NodeView InputValueDefinition) → Bool → List DirectiveLocation
    → Option NameView → Definition
directive_made name arguments repeatable places description = d.DirectiveDefinition (record {
  value = record {
    description = description;
    name = name;
    arguments = arguments;
    repeatable = repeatable;
    locations = places;
  };
  location = None;
})

-- the definition of a directive without locations, for its description
abbrev pub bare_directive_of : DirectiveDefinition → Option NameView → Definition
bare_directive_of directive =
    directive_made (bare_name directive.name) (map (bare_node bare_input_value_definition)
    directive.arguments) directive.repeatable directive.locations

-- what is read of a directive, behind its description
abbrev Read : Type 0
Read = Unit {0} × (Unit {0} × (NameView × (List (NodeView InputValueDefinition)
    × (Option (Unit {0}) × (Unit {0} × List DirectiveLocation)))))

-- a directive of what was read
abbrev read_made : Read → Described
read_made x = bare_described (directive_made x.1.1.0 x.1.1.1.0 (is_there x.1.1.1.1.0) x.1.1.1.1.1.1)

-- a directive of the same is the same
made_same : (name : NameView) (arguments : List (NodeView InputValueDefinition)) (a b : Bool)
    (xs ys : List DirectiveLocation) → a ≡ b → xs ≡ ys
    → bare_described (directive_made name arguments a xs)
    ≡ bare_described (directive_made name arguments b ys)
made_same name arguments a b xs ys repeatable places =
    ap (λ (is : Bool). bare_described (directive_made name arguments is xs)) repeatable
    ∙ ap (λ (at : List DirectiveLocation). bare_described (directive_made name arguments b at)) places

-- the text of a directive behind its keyword and `@`, grouped as the grammar groups it
abbrev behind_at : DirectiveDefinition → List ℕ
behind_at directive = directive.name.text ++ (argument_definitions_text 0 directive.arguments
    ++ (repeatable_text directive.repeatable ++ (codes " on " ++ separated_text (codes " | ") location_text
    directive.locations)))

shape_grouped : (directive : DirectiveDefinition)
    → codes "directive @" ++ behind_at directive ≡ directive_shape directive
shape_grouped directive = grouped6 (codes "directive @") directive.name.text _ _ _
    (separated_text (codes " | ") location_text directive.locations)

-- the definition of a directive begins with its keyword
pub directive_heads : (directive : DirectiveDefinition)
    → Heads (only k.Directive) (directive_shape directive) ends_token
directive_heads directive = same_heads (shape_grouped directive) (heads_on _ ends_token
    (keyword_heads k.Directive (codes "directive") refl refl) (λ rest _. refl))

module _ (file : FileId) (depth : ℕ) where
  -- where there is a location
  body_at_prints : (directive : DirectiveDefinition) (place : DirectiveLocation)
      (places : List DirectiveLocation) → directive.locations ≡ place ∷ places
      → IsWellFormed (Name directive.name ∷ input_values_parts directive.arguments)
      → between input_nesting directive.arguments ≤ depth
      → Prints (directive_body file depth) described_seen (bare_described (bare_directive_of directive))
      (directive_shape directive) ends_token
  unfolding directive_body
  body_at_prints directive place places are well fits =
      let arguments : List ℕ = argument_definitions_text 0 directive.arguments in
      let repeatable : List ℕ = repeatable_text directive.repeatable in
      let more : List ℕ = codes " on " ++ separated_text (codes " | ") location_text directive.locations in
      let listed = subst (λ (xs : List DirectiveLocation). Prints (separated k.Pipe location) (map (λ x. x))
      (map (λ x. x) xs) (separated_text (codes " | ") location_text xs) ends_token) (sym are)
      (separated_prints k.Pipe location (λ x. x) location_text
      (sign_before k.Pipe (λ _. Expected (i.Word k.Pipe)) t.Pipe (codes "|") (codes " ") refl
      pipe_is_token refl) place places (each_location (place ∷ places))) in
      regrouped _ (directive_shape directive) (shape_grouped directive)
      (mapped_text directive_of described_seen (bare_described (bare_directive_of directive))
      (λ x same. sym (made_same (bare_name x.1.1.0) (map (bare_node bare_input_value_definition)
      x.1.1.1.0) (is_there (option_map there x.1.1.1.1.0)) (is_there x.1.1.1.1.0)
      (map (λ at. at) x.1.1.1.1.1.1) x.1.1.1.1.1.1 (there_seen x.1.1.1.1.0) (map-id x.1.1.1.1.1.1))
      ∙ ap read_made same ∙ made_same (bare_name directive.name)
      (map (bare_node bare_input_value_definition) directive.arguments)
      (is_there (repeatable_sign directive.repeatable)) directive.repeatable
      (map (λ at. at) directive.locations) directive.locations (sign_says directive.repeatable)
      (map-id directive.locations)) (seq_text (keyword_before k.Directive (codes "directive") refl refl)
      (seq_text (sign_prints k.At t.At at_is_token refl)
      (seq_text (name_prints file directive.name well.0)
      (seq_text (argument_definitions_print file depth 0 directive.arguments well.1 fits)
      (seq_text (repeatable_prints directive.repeatable)
      (seq_text (behind_blank (codes " ") refl (keyword_before k.On (codes "on") refl refl)) listed
      (λ rest _. refl)) (λ rest _. refl)) (apart_joined repeatable more
      (repeatable_apart directive.repeatable) (λ rest _. refl))) (apart_joined arguments (repeatable
      ++ more) (arguments_apart 0 directive.arguments) (apart_joined repeatable more (repeatable_apart
      directive.repeatable) (λ rest _. refl)))) (λ rest _. refl)) (λ rest _. refl)))

  -- there is a location, where one is wanted
  body_prints : (directive : DirectiveDefinition) (places : List DirectiveLocation)
      → directive.locations ≡ places → not (is_none places) ≡ true
      → IsWellFormed (Name directive.name ∷ input_values_parts directive.arguments)
      → between input_nesting directive.arguments ≤ depth
      → Prints (directive_body file depth) described_seen (bare_described (bare_directive_of directive))
      (directive_shape directive) ends_token
  body_prints directive [] are wanted well fits = absurd cc
  body_prints directive (place ∷ places) are wanted well fits = body_at_prints directive place places are well
      fits

  -- the definition of a directive, behind its description
  pub directive_definition_prints : (directive : DirectiveDefinition)
      → IsWellFormed (Name directive.name ∷ (input_values_parts directive.arguments
      ++ (Wanted (not (is_none directive.locations)) ∷ [])))
      → between input_nesting directive.arguments ≤ depth
      → Prints (described file depth) described_seen (bare_described (bare_directive_of directive))
      (directive_shape directive) ends_token
  directive_definition_prints directive well fits =
      let both = part_of_front (input_values_parts directive.arguments)
      (Wanted (not (is_none directive.locations)) ∷ []) well.1 in
      branch_at (described_pick file depth) no_described k.Directive (directive_heads directive)
      (body_prints directive directive.locations refl both.1.0 (well.0, both.0) fits)

-- ---- texts of definitions and extensions of the type system: GraphQL specification of October 2021, section
-- 3

-- ---- what they begin with

pub directive_begins : (braces : Bool) (n : NodeView DirectiveDefinition)
    → Heads (front_kinds false) (declaration_text braces (OfDirective n)) ends_token
directive_begins braces n = front_heads false n.value.description k.Directive _ refl (directive_heads n.value)

pub schema_begins : (braces : Bool) (s : SchemaDeclaration)
    → Heads (front_kinds s.is_extension) (declaration_text braces (OfSchema s)) ends_token
schema_begins braces s = front_heads s.is_extension s.description k.Schema (schema_shape s.parts) refl
    (schema_heads (directive_list s.parts) s.parts.roots)

pub type_begins : (braces : Bool) (t : TypeDeclaration)
    → Heads (front_kinds t.is_extension) (declaration_text braces (OfType t)) ends_token
type_begins braces t = front_heads t.is_extension t.description _ _ (keyword_is_described t.kind)
    (type_heads t.kind t.name t.parts)

-- ---- how they are read

module _ (file : FileId) (depth : ℕ) where
  -- what is defined or extended
  abbrev pub fronted : Bool → Piece Definition
  fronted is_extension = choose is_extension (extension file depth) (system_definition file depth)

  -- what says this is read as itself, defined or extended
  abbrev FrontPrints : Bool → Bool → Declaration → Type 0
  FrontPrints braces is_extension x = IsWellFormed (declaration_parts x) → declaration_nesting x ≤ depth
      → Prints (fronted is_extension) bare_definition (made (bare_declaration x)) (declaration_text braces x)
      ends_token

  -- the definition of a directive
  pub directive_prints : (braces : Bool) (n : NodeView DirectiveDefinition)
      → FrontPrints braces false (OfDirective n)
  directive_prints braces n well fits =
      let behind = (part_of_front (description_parts n.value.description) (Name n.value.name
      ∷ (input_values_parts n.value.arguments ++ (Wanted (not (is_none n.value.locations)) ∷ [])))
      well.1).1 in
      described_definition file depth (bare_directive_of n.value) n.value.description
      (directive_definition_prints file depth n.value behind fits)

  -- the definition or an extension of the schema
  pub schema_prints : (braces is_extension : Bool) (s : SchemaDeclaration)
      → FrontPrints braces is_extension (OfSchema (record s { is_extension = is_extension }))
  schema_prints braces true s well fits =
      extended_extension file depth (bare_schema_extension_of (directive_list s.parts) s.parts.roots)
      (schema_extension_prints file depth (directive_list s.parts) s.parts.roots well.1.1 fits well.1.0)
  schema_prints braces false s well fits =
      let behind = (part_of_front (description_parts s.description)
      (directives_parts true (directive_list s.parts) ++ roots_parts false s.parts.roots) well.1).1 in
      described_definition file depth (bare_schema_of (directive_list s.parts) s.parts.roots) s.description
      (schema_definition_prints file depth (directive_list s.parts) s.parts.roots behind fits)

  -- the definition or an extension of a type
  pub type_prints : (braces is_extension : Bool) (t : TypeDeclaration)
      → FrontPrints braces is_extension (OfType (record t { is_extension = is_extension }))
  type_prints braces true t well fits = extended_extension file depth (bare_extension_of t.kind t.name
      t.parts) (type_extension_prints file depth t.kind t.name t.parts well.1.1.0 well.1.1.1 fits well.1.0)
  type_prints braces false t well fits =
      let behind = (part_of_front (description_parts t.description) (Name t.name ∷ body_parts t.kind t.parts)
      well.1).1 in
      described_definition file depth (bare_type_of t.kind t.name t.parts) t.description
      (type_definition_prints file depth t.kind t.name t.parts behind.0 behind.1 fits)

-- ---- texts of definitions of any sort: GraphQL specification of October 2021, section 2.2

-- a definition without locations is made of what it says, without them
bare_made : (x : Definition) → made (bare_declaration (declaration_of x)) ≡ bare_definition x
bare_made (d.OperationDefinition n) = refl
bare_made x = refl

module _ (file : FileId) (depth : ℕ) where
  -- ---- what tells definitions apart

  -- one of the type system: a description or its keyword
  system_picked : (kind : Kind) {y : Definition} {text : List ℕ} → is_system kind ≡ true
      → Prints (system_definition file depth) bare_definition y text ends_token
      → Prints (definition_pick file depth kind) bare_definition y text ends_token
  system_picked kind at t = second_text _ _ _ (is_none_of is_system (only k.LeftBrace) refl kind at)
      (second_text _ _ _ (is_none_of is_system (only k.Fragment) refl kind at)
      (second_text (only k.Extend kind) _ _ (is_none_of is_system (only k.Extend) refl kind at)
      (second_text (is_operation_type kind) _ _ (is_none_of is_system is_operation_type refl kind at)
      (first_text (is_system kind) _ _ at t))))

  -- one of the type system that is defined, or an extension: `extend`
  front_prints : (is_extension : Bool) {y : Definition} {text : List ℕ}
      → Heads (front_kinds is_extension) text ends_token
      → Prints (fronted file depth is_extension) bare_definition y text ends_token
      → Prints (definition file depth) bare_definition y text ends_token
  front_prints true head t = branch_at (definition_pick file depth) (expecting i.Definition) k.Extend head t
  front_prints false head t = branch_text (definition_pick file depth) (expecting i.Definition) is_system head
      (λ kind at. system_picked kind at t)

  -- a fragment: its keyword
  fragment_definition_prints : (n : NodeView FragmentDefinition)
      → IsWellFormed (definition_parts (d.FragmentDefinition n))
      → definition_nesting (d.FragmentDefinition n) ≤ depth
      → Prints (definition file depth) bare_definition (bare_definition (d.FragmentDefinition n))
      (definition_text false (d.FragmentDefinition n)) anything
  unfolding fragment
  fragment_definition_prints n well fits = branch_at (definition_pick file depth) (expecting i.Definition)
      k.Fragment (fragment_head n.value) (mapped_text (λ x. d.FragmentDefinition x) bare_definition
      (bare_definition (d.FragmentDefinition n)) (λ x same. ap (λ (y : NodeView FragmentDefinition).
      d.FragmentDefinition y) same) (node_prints file (fragment_prints file depth n.value well.1 fits)))

  -- an operation: its keyword
  operation_picked : (type : OperationType)
      → definition_pick file depth (keyword_kind type) ≡ operation_definition file depth
  operation_picked o.Query = refl
  operation_picked type = refl

  long_prints : (n : NodeView OperationDefinition) → IsWellFormed (definition_parts (d.OperationDefinition n))
      → definition_nesting (d.OperationDefinition n) ≤ depth
      → Prints (definition file depth) bare_definition (bare_definition (d.OperationDefinition n))
      (long_text n.value) anything
  unfolding operation_definition
  long_prints n well fits = branch_at (definition_pick file depth) (expecting i.Definition)
      (keyword_kind n.value.operation_type) (long_head n.value well.1)
      (rw (operation_picked n.value.operation_type) (mapped_text (λ x. d.OperationDefinition x)
      bare_definition (bare_definition (d.OperationDefinition n))
      (λ x same. ap (λ (y : NodeView OperationDefinition). d.OperationDefinition y) same)
      (node_prints file (operation_prints file depth n.value well.1 fits))))

  -- one that is its selections alone: `{`
  short_prints : (n : NodeView OperationDefinition)
      → IsWellFormed (definition_parts (d.OperationDefinition n))
      → definition_nesting (d.OperationDefinition n) ≤ depth
      → is_short n.value.operation_type n.value.name n.value.variables n.value.directives.0 ≡ true
      → Prints (definition file depth) bare_definition (bare_definition (d.OperationDefinition n))
      (selections_text 0 n.value.selection_set) anything
  unfolding shorthand_definition
  short_prints n well fits is = branch_at (definition_pick file depth) (expecting i.Definition) k.LeftBrace
      (selections_head 0 n.value.selection_set (applied n.value well.1).1)
      (mapped_text (λ x. d.OperationDefinition x) bare_definition (bare_definition (d.OperationDefinition n))
      (λ x same. ap (λ (y : NodeView OperationDefinition). d.OperationDefinition y) same)
      (node_prints file (shorthand_prints file depth n.value well.1 fits is)))

  -- with its keyword where the flag is set, or else as short as it may be
  operation_behind_prints : (braces : Bool) (n : NodeView OperationDefinition)
      → IsWellFormed (definition_parts (d.OperationDefinition n))
      → definition_nesting (d.OperationDefinition n) ≤ depth
      → Prints (definition file depth) bare_definition (bare_definition (d.OperationDefinition n))
      (operation_behind braces n.value) anything
  operation_behind_prints true n well fits = long_prints n well fits
  operation_behind_prints false n well fits =
      by (is_short n.value.operation_type n.value.name n.value.variables n.value.directives.0) refl
    where
      by : (short : Bool)
          → is_short n.value.operation_type n.value.name n.value.variables n.value.directives.0 ≡ short
          → Prints (definition file depth) bare_definition (bare_definition (d.OperationDefinition n))
          (if short then selections_text 0 n.value.selection_set else long_text n.value) anything
      by true is = short_prints n well fits is
      by false is = long_prints n well fits

  -- ---- all sorts

  -- what says this is read as it is printed, also where it is printed behind one that takes braces
  declaration_prints : (braces : Bool) (x : Declaration) → IsWellFormed (declaration_parts x)
      → declaration_nesting x ≤ depth
      → Prints (definition file depth) bare_definition (made (bare_declaration x)) (declaration_text braces x)
      ends_token
  declaration_prints braces (OfOperation n) well fits =
      loosely ends_token (operation_behind_prints braces n well fits)
  declaration_prints braces (OfFragment n) well fits =
      loosely ends_token (fragment_definition_prints n well fits)
  declaration_prints braces (OfDirective n) well fits = front_prints false (directive_begins braces n)
      (directive_prints file depth braces n well fits)
  declaration_prints braces (OfSchema s) well fits = front_prints s.is_extension (schema_begins braces s)
      (schema_prints file depth braces s.is_extension s well fits)
  declaration_prints braces (OfType t) well fits = front_prints t.is_extension (type_begins braces t)
      (type_prints file depth braces t.is_extension t well fits)

  -- a definition is so read
  pub definition_prints : (braces : Bool) (x : Definition) → IsWellFormed (definition_parts x)
      → definition_nesting x ≤ depth
      → Prints (definition file depth) bare_definition (bare_definition x) (definition_text braces x)
      ends_token
  definition_prints braces x well fits =
      let text : List ℕ = definition_text braces x in
      subst (λ (y : Definition). Prints (definition file depth) bare_definition y text ends_token)
      (bare_made x) (declaration_prints braces (declaration_of x) well fits)
