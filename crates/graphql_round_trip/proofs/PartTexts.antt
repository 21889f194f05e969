-- Texts of fields, enum values and roots that are defined: GraphQL specification of October 2021, sections
-- 3.3, 3.6 and 3.9.
use Rattle.std.proofs.Common.{arith, ◌≤◌, ℕ, true, List, ◌∷◌, ◌++◌, map, refl, ap, [], sym, append-nil}
use Rattle.std.specs.Prelude.{codes}
use Rattle.std.specs.List.{flat_map, AllByRecursion}
use Rattle.graphql_nodes.specs.Comparing.{bare_name, bare_node}
use Rattle.graphql_nodes.specs.NameView.{NameView}
use Rattle.graphql_nodes.specs.NodeView.{NodeView}
use Rattle.graphql_nodes.specs.declared.source.FileId.{FileId}
use Rattle.graphql_nodes.specs.declared.operation_type.OperationType.{OperationType}
use Rattle.graphql_ast.specs.BareTypeSystem.{bare_enum_value_definition, bare_field_definition}
use Rattle.graphql_ast.specs.BareTypeSystem.{bare_root_operation}
use Rattle.graphql_ast.specs.declared.type_system.EnumValueDefinition.{EnumValueDefinition}
use Rattle.graphql_ast.specs.declared.type_system.FieldDefinition.{FieldDefinition}
use Rattle.graphql_grammar.specs.Kinds.{names_of}
use Rattle.graphql_productions.specs.DefinitionTreeParts.{enum_value_parts, enum_values_parts, field_parts}
use Rattle.graphql_productions.specs.DefinitionTreeParts.{fields_parts, root_parts, body_parts, names_parts}
use Rattle.graphql_productions.specs.DefinitionTreeParts.{description_parts, input_values_parts}
use Rattle.graphql_productions.specs.Nodes.{behind, name}
use Rattle.graphql_productions.specs.Operations.{is_operation_type, no_root}
use Rattle.graphql_productions.specs.TreeParts.{EnumName, Name, directives_parts, node_parts, type_parts}
use Rattle.graphql_productions.specs.TypeSystem.{enum_value_definition, enum_value_name, enum_value_node}
use Rattle.graphql_productions.specs.TypeSystem.{enum_value_of, enum_values, field_definition, field_node}
use Rattle.graphql_productions.specs.TypeSystem.{field_of, fields, is_described_name, is_enum_value}
use Rattle.graphql_productions.specs.TypeSystem.{no_enum_value, optional_roots, root, root_node, root_of}
use Rattle.graphql_productions.specs.TypeSystem.{roots, enum_parts, fielded, fielded_parts, input_parts}
use Rattle.graphql_productions.specs.TypeSystem.{names_behind, names_body, parts, scalar_parts, union_parts}
use Rattle.graphql_productions.specs.TypeSystem.{expecting}
use Rattle.graphql_productions.specs.WellFormed.{IsWellFormed, IsWellFormedPart}
use Rattle.graphql_printing.specs.Layout.{braces, enclosed, separated}
use Rattle.graphql_printing.specs.Texts.{directives_text, type_text}
use Rattle.graphql_printing.specs.TypeSystem.{argument_definitions_text, described, enum_value_text}
use Rattle.graphql_printing.specs.TypeSystem.{field_definition_text, root_text, behind_name, fielded_text}
use Rattle.graphql_printing.specs.TypeSystem.{input_value_text, interfaces_text, members_text, name_text}
use Rattle.graphql_round_trip.specs.Nesting.{between, enum_value_nesting, field_nesting, body_nesting}
use Rattle.graphql_round_trip.specs.Nesting.{directives_nesting, input_nesting, parts_nesting}
use Rattle.graphql_round_trip.specs.Printed.{Prints, ends_token}
use Rattle.graphql_round_trip.proofs.ListTexts.{braced_or_none_print, braced_print, braces_apart}
use Rattle.graphql_round_trip.proofs.ListTexts.{enclosed_apart, part_of_front, left_out_prints, put_prints}
use Rattle.graphql_round_trip.proofs.ListTexts.{ReadAsItself, separated_prints}
use Rattle.graphql_round_trip.proofs.HeadTexts.{enum_kind, keyword_before, operation_type_prints}
use Rattle.graphql_round_trip.proofs.DescriptionTexts.{described_prints}
use Rattle.graphql_round_trip.proofs.DirectiveTexts.{directives_print}
use Rattle.graphql_round_trip.proofs.PieceTexts.{grouped3, regrouped, name_prints, name_seen, node_prints}
use Rattle.graphql_round_trip.proofs.PieceTexts.{sign_before, Opens, item_text, mapped_text, seq_text}
use Rattle.graphql_round_trip.proofs.PieceTexts.{word_text, behind_blank, apart_joined, directives_apart}
use Rattle.graphql_round_trip.proofs.PieceTexts.{IsApart, grouped6}
use Rattle.graphql_round_trip.proofs.TypedTexts.{argument_definitions_print, type_prints, arguments_apart}
use Rattle.graphql_round_trip.proofs.TypedTexts.{input_fields_print}
use Rattle.graphql_round_trip.proofs.TokenTexts.{colon_is_token, name_is_token, ampersand_is_token}
use Rattle.graphql_round_trip.proofs.TokenTexts.{equals_is_token, pipe_is_token}
use Rattle.graphql_nodes.specs.declared.type_kind.TypeKind.{TypeKind}
use Rattle.graphql_ast.specs.BareDeclarations.{bare_parts}
use Rattle.graphql_ast.specs.Parts.{directive_list, of_type}
use Rattle.graphql_ast.specs.declared.directive.DirectiveList.{DirectiveList}
use Rattle.graphql_ast.specs.declared.parts.Parts.{Parts}
use Rattle.graphql_grammar.specs.declared.kind.Kind.{Kind}
use Rattle.graphql_tokens.specs.declared.token.TokenKind.TheVariants as token
use Rattle.graphql_grammar.specs.declared.kind.Kind.TheVariants as k
use Rattle.graphql_grammar.specs.declared.kind.Names.TheVariants as names
use Rattle.graphql_nodes.specs.declared.type_kind.TypeKind.TheVariants as t
use Rattle.graphql_nodes.specs.OperationTexts.{operation_text}
use Rattle.graphql_grammar.specs.declared.fault.FaultKind.TheVariants.{Expected}
use Rattle.graphql_grammar.specs.declared.fault.Item.TheVariants as i

module _ (file : FileId) where
  -- a field that is defined
  pub field_definition_prints : (indent depth : ℕ)
      → ReadAsItself (node_parts field_parts) field_nesting depth (field_definition file depth)
      (bare_node bare_field_definition) (field_definition_text indent)
  unfolding field_node
  field_definition_prints indent depth field well fits =
      let f = field.value in
      let arguments : List ℕ = argument_definitions_text indent f.arguments in
      let behind = part_of_front (description_parts f.description) (Name f.name
      ∷ (input_values_parts f.arguments ++ (type_parts f.ty ++ directives_parts true f.directives)))
      well.1 in
      let behind_name = part_of_front (input_values_parts f.arguments) (type_parts f.ty
      ++ directives_parts true f.directives) behind.1.1 in
      let behind_arguments = part_of_front (type_parts f.ty) (directives_parts true f.directives)
      behind_name.1 in
      regrouped _ (field_definition_text indent field) (grouped6 (described indent f.description) f.name.text
      arguments (codes ": ") (type_text f.ty) (directives_text f.directives.0))
      (item_text is_described_name (expecting i.FieldDefinition)
      (node_prints file (mapped_text field_of bare_field_definition (bare_field_definition f)
      (λ x same. ap field_of same) (seq_text (described_prints file indent f.description)
      (seq_text (name_prints file f.name behind.1.0)
      (seq_text (argument_definitions_print file depth indent f.arguments behind_name.0 (omega arith))
      (seq_text (sign_before k.Colon (λ _. Expected (i.Word k.Colon)) token.Colon (codes ":") (codes " ")
      refl colon_is_token refl) (seq_text (type_prints file depth f.ty behind_arguments.0 (omega arith))
      (directives_print file true depth f.directives behind_arguments.1 (omega arith))
      (directives_apart f.directives.0)) (λ rest _. refl)) (λ rest _. refl))
      (apart_joined arguments (codes ": " ++ (type_text f.ty ++ directives_text f.directives.0))
      (arguments_apart indent f.arguments) (λ rest _. refl))) (λ rest _. refl)))))

  -- fields
  pub fields_print : (depth : ℕ) (xs : List (NodeView FieldDefinition)) → IsWellFormed (fields_parts xs)
      → between field_nesting xs ≤ depth
      → Prints (fields file depth) (map (bare_node bare_field_definition))
      (map (bare_node bare_field_definition) xs) (braces (codes " {") 0 field_definition_text xs) ends_token
  unfolding fields
  fields_print depth xs well fits = braced_or_none_print (expecting i.FieldDefinition) (field_definition file)
      (bare_node bare_field_definition) field_definition_text (node_parts field_parts) field_nesting
      (field_definition_prints 2) depth xs well fits

  -- the name of an enum value
  enum_value_name_prints : (n : NameView) → IsWellFormedPart (EnumName n)
      → Prints (enum_value_name file) bare_name (bare_name n) n.text ends_token
  unfolding enum_value_name
  enum_value_name_prints n well = mapped_text _ bare_name (bare_name n) (λ w same. ap name_seen same)
      (word_text (names_of names.EnumValue) no_enum_value token.Name (name_is_token n.text well.0)
      (enum_kind n.text well.1 well.2 well.3))

  -- an enum value that is defined
  pub enum_value_prints : (indent depth : ℕ)
      → ReadAsItself (node_parts enum_value_parts) enum_value_nesting depth (enum_value_definition file depth)
      (bare_node bare_enum_value_definition) (enum_value_text indent)
  unfolding enum_value_node
  enum_value_prints indent depth value well fits =
      let v = value.value in
      let behind = part_of_front (description_parts v.description) (EnumName v.value ∷ directives_parts true
      v.directives) well.1 in
      regrouped _ (enum_value_text indent value) (grouped3 (described indent v.description) v.value.text
      (directives_text v.directives.0)) (item_text is_enum_value no_enum_value
      (node_prints file (mapped_text enum_value_of bare_enum_value_definition
      (bare_enum_value_definition v) (λ x same. ap enum_value_of same)
      (seq_text (described_prints file indent v.description)
      (seq_text (enum_value_name_prints v.value behind.1.0) (directives_print file true depth v.directives
      behind.1.1 fits) (directives_apart v.directives.0)) (λ rest _. refl)))))

  -- enum values
  pub enum_values_print : (depth : ℕ) (xs : List (NodeView EnumValueDefinition))
      → IsWellFormed (enum_values_parts xs) → between enum_value_nesting xs ≤ depth
      → Prints (enum_values file depth) (map (bare_node bare_enum_value_definition))
      (map (bare_node bare_enum_value_definition) xs) (braces (codes " {") 0 enum_value_text xs) ends_token
  unfolding enum_values
  enum_values_print depth xs well fits = braced_or_none_print no_enum_value (enum_value_definition file)
      (bare_node bare_enum_value_definition) enum_value_text (node_parts enum_value_parts) enum_value_nesting
      (enum_value_prints 2) depth xs well fits

-- a root of the schema
root_prints : (file : FileId) (r : NodeView (OperationType × NameView))
    → IsWellFormed (node_parts root_parts r)
    → Prints (root file) (bare_node bare_root_operation) (bare_node bare_root_operation r) (root_text 2 r)
    ends_token
unfolding root_node
root_prints file r well = regrouped _ (root_text 2 r) (grouped3 (operation_text r.value.0) (codes ": ")
    r.value.1.text) (item_text is_operation_type no_root
    (node_prints file (mapped_text root_of bare_root_operation (bare_root_operation r.value)
    (λ x same. ap root_of same) (seq_text (operation_type_prints r.value.0)
    (seq_text (sign_before k.Colon (λ _. Expected (i.Word k.Colon)) token.Colon (codes ":") (codes " ") refl
    colon_is_token refl) (name_prints file r.value.1 well.1.0) (λ rest _. refl)) (λ rest _. refl)))))

-- the roots of the schema, of which there is one at least
pub roots_print : (file : FileId) (depth : ℕ) (x : NodeView (OperationType × NameView)) (xs : List
    (NodeView (OperationType × NameView))) → IsWellFormed (flat_map (node_parts root_parts) (x ∷ xs))
    → between (λ _. 0) (x ∷ xs) ≤ depth
    → Prints (roots file depth) (map (bare_node bare_root_operation)) (map (bare_node bare_root_operation)
    (x ∷ xs)) (braces (codes " {") 0 root_text (x ∷ xs)) ends_token
roots_print file depth x xs well fits = braced_print no_root (λ _. root file) (bare_node bare_root_operation)
    root_text (node_parts root_parts) (λ _. 0) (λ inside r of _. root_prints file r of) depth x xs well fits

-- the roots that an extension may add
pub added_roots_print : (file : FileId) (depth : ℕ) (xs : List (NodeView (OperationType × NameView)))
    → IsWellFormed (flat_map (node_parts root_parts) xs) → between (λ _. 0) xs ≤ depth
    → Prints (optional_roots file depth) (map (bare_node bare_root_operation))
    (map (bare_node bare_root_operation) xs) (braces (codes " {") 0 root_text xs) ends_token
added_roots_print file depth xs well fits = braced_or_none_print no_root (λ _. root file)
    (bare_node bare_root_operation) root_text (node_parts root_parts) (λ _. 0) (λ inside r of _. root_prints
    file r of) depth xs well fits

-- ---- texts of what stands behind the name of a type: GraphQL specification of October 2021, sections 3.5 to
-- 3.10

-- ---- interfaces and members

each_name : (file : FileId) (xs : List NameView) → IsWellFormed (names_parts xs)
    → AllByRecursion (λ n. Prints (name file) bare_name (bare_name n) (name_text n) ends_token) xs
each_name file [] well = tt
each_name file (n ∷ xs) well = (name_prints file n well.0, each_name file xs well.1)

-- names behind a sign or keyword, with signs between them
names_print : (file : FileId) (opening between : Kind) {open_text sign_text : List ℕ}
    → Opens opening open_text → Opens between sign_text → (xs : List NameView) → IsWellFormed (names_parts xs)
    → Prints (names_behind file opening between) (map bare_name) (map bare_name xs)
    (enclosed open_text (codes " " ++ sign_text) [] name_text xs) ends_token
unfolding names_behind
names_print file opening between opens signs [] well = left_out_prints (names_body file opening between)
    bare_name ends_token
names_print file opening between {open_text} {sign_text} opens signs (n ∷ xs) well =
    let items : List ℕ = separated (codes " " ++ sign_text) name_text (n ∷ xs) in
    put_prints (names_body file opening between) bare_name (regrouped (open_text ++ items) (open_text
    ++ items ++ []) (sym (append-nil (open_text ++ items))) (mapped_text behind (map bare_name)
    (map bare_name (n ∷ xs)) (λ x same. ap (λ (y : Unit {0} × List NameView). y.1) same)
    (seq_text opens (separated_prints between (name file) bare_name name_text signs n xs
    (each_name file (n ∷ xs) well)) (λ rest _. refl))))

-- the interfaces of a type
interfaces_print : (file : FileId) (xs : List NameView) → IsWellFormed (names_parts xs)
    → Prints (names_behind file k.Implements k.Ampersand) (map bare_name) (map bare_name xs)
    (interfaces_text xs) ends_token
interfaces_print file xs well = names_print file k.Implements k.Ampersand (behind_blank (codes " ") refl
    (keyword_before k.Implements (codes "implements") refl refl)) (sign_before k.Ampersand (λ _. Expected
    (i.Word k.Ampersand)) token.Ampersand (codes "&") (codes " ") refl ampersand_is_token refl) xs well

-- the members of a union
members_print : (file : FileId) (xs : List NameView) → IsWellFormed (names_parts xs)
    → Prints (names_behind file k.Equals k.Pipe) (map bare_name) (map bare_name xs) (members_text xs)
    ends_token
members_print file xs well =
    names_print file k.Equals k.Pipe (behind_blank (codes " ") refl
    (sign_before k.Equals (λ _. Expected (i.Word k.Equals)) token.Equals (codes "=") (codes " ") refl
    equals_is_token refl)) (sign_before k.Pipe (λ _. Expected (i.Word k.Pipe)) token.Pipe (codes "|")
    (codes " ") refl pipe_is_token refl) xs well

-- interfaces stand apart from the name before them
interfaces_apart : (xs : List NameView) → IsApart (interfaces_text xs)
interfaces_apart xs = enclosed_apart (codes " implements ") (codes " & ") [] name_text (λ rest. refl) xs

-- members stand apart from what is before them
members_apart : (xs : List NameView) → IsApart (members_text xs)
members_apart xs = enclosed_apart (codes " = ") (codes " | ") [] name_text (λ rest. refl) xs

-- ---- what stands behind a name

-- a depth that is enough for directives and what is between braces is enough for each
pub body_fits : {A : Type 0} (directives : DirectiveList) (nesting : A → ℕ) (xs : List A) (depth : ℕ)
    → body_nesting directives nesting xs ≤ depth
    → (directives_nesting directives ≤ depth) × (between nesting xs ≤ depth)
body_fits directives nesting xs depth fits = (omega arith, omega arith)

module _ (file : FileId) (depth : ℕ) where
  -- interfaces, directives and fields
  fielded_print : (p : Parts)
      → IsWellFormed (names_parts p.names ++ (directives_parts true (directive_list p)
      ++ fields_parts p.fields)) → body_nesting (directive_list p) field_nesting p.fields ≤ depth
      → Prints (fielded file depth) bare_parts (bare_parts (of_type t.Object p)) (fielded_text p) ends_token
  unfolding fielded
  fielded_print p well fits =
      let applied : List ℕ = directives_text p.directives in
      let body : List ℕ = braces (codes " {") 0 field_definition_text p.fields in
      let names = part_of_front (names_parts p.names) (directives_parts true (directive_list p)
      ++ fields_parts p.fields) well in
      let others = part_of_front (directives_parts true (directive_list p)) (fields_parts p.fields) names.1 in
      let fit = body_fits (directive_list p) field_nesting p.fields depth fits in
      regrouped _ (fielded_text p) (grouped3 (interfaces_text p.names) applied body)
      (mapped_text fielded_parts bare_parts (bare_parts (of_type t.Object p))
      (λ x same. ap fielded_parts same) (seq_text (interfaces_print file p.names names.0)
      (seq_text (directives_print file true depth (directive_list p) others.0 fit.0)
      (fields_print file depth p.fields others.1 fit.1) (braces_apart field_definition_text p.fields))
      (apart_joined applied body (directives_apart p.directives) (braces_apart field_definition_text
      p.fields))))

  -- what stands behind the name of a type of this kind
  pub parts_print : (kind : TypeKind) (p : Parts) → IsWellFormed (body_parts kind p)
      → parts_nesting kind p ≤ depth
      → Prints (parts file kind depth) bare_parts (bare_parts (of_type kind p)) (behind_name kind p)
      ends_token
  unfolding parts
  parts_print t.Scalar p well fits =
      mapped_text scalar_parts bare_parts (bare_parts (scalar_parts (directive_list p)))
      (λ x same. ap scalar_parts same) (directives_print file true depth (directive_list p) well fits)
  parts_print t.Object p well fits = fielded_print p well fits
  parts_print t.Interface p well fits = fielded_print p well fits
  parts_print t.Union p well fits =
      let both = part_of_front (directives_parts true (directive_list p)) (names_parts p.names) well in
      mapped_text union_parts bare_parts (bare_parts (union_parts (directive_list p, p.names)))
      (λ x same. ap union_parts same) (seq_text (directives_print file true depth (directive_list p)
      both.0 fits) (members_print file p.names both.1) (members_apart p.names))
  parts_print t.Enum p well fits =
      let both = part_of_front (directives_parts true (directive_list p)) (enum_values_parts p.values) well in
      let fit = body_fits (directive_list p) enum_value_nesting p.values depth fits in
      mapped_text enum_parts bare_parts (bare_parts (enum_parts (directive_list p, p.values)))
      (λ x same. ap enum_parts same) (seq_text (directives_print file true depth (directive_list p) both.0
      fit.0) (enum_values_print file depth p.values both.1 fit.1) (braces_apart enum_value_text p.values))
  parts_print t.InputObject p well fits =
      let both = part_of_front (directives_parts true (directive_list p)) (input_values_parts p.input_fields)
      well in
      let fit = body_fits (directive_list p) input_nesting p.input_fields depth fits in
      mapped_text input_parts bare_parts (bare_parts (input_parts (directive_list p, p.input_fields)))
      (λ x same. ap input_parts same) (seq_text (directives_print file true depth (directive_list p)
      both.0 fit.0) (input_fields_print file depth p.input_fields both.1 fit.1)
      (braces_apart input_value_text p.input_fields))

-- interfaces, directives and fields stand apart from the name before them
fielded_apart : (p : Parts) → IsApart (fielded_text p)
fielded_apart p = apart_joined (interfaces_text p.names ++ directives_text p.directives)
    (braces (codes " {") 0 field_definition_text p.fields) (apart_joined (interfaces_text p.names)
    (directives_text p.directives) (interfaces_apart p.names) (directives_apart p.directives))
    (braces_apart field_definition_text p.fields)

-- what stands behind a name stands apart from it
pub behind_name_apart : (kind : TypeKind) (p : Parts) → IsApart (behind_name kind p)
behind_name_apart t.Scalar p = directives_apart p.directives
behind_name_apart t.Object p = fielded_apart p
behind_name_apart t.Interface p = fielded_apart p
behind_name_apart t.Union p = apart_joined (directives_text p.directives) (members_text p.names)
    (directives_apart p.directives) (members_apart p.names)
behind_name_apart t.Enum p = apart_joined (directives_text p.directives) (braces (codes " {") 0
    enum_value_text p.values) (directives_apart p.directives) (braces_apart enum_value_text p.values)
behind_name_apart t.InputObject p = apart_joined (directives_text p.directives)
    (braces (codes " {") 0 input_value_text p.input_fields) (directives_apart p.directives)
    (braces_apart input_value_text p.input_fields)
