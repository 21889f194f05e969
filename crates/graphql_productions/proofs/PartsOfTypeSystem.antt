-- All parts of what definitions of the type system hold are as is asked.
use Rattle.std.proofs.Common.{Bool, List, [], ap, false, not, refl, true, ℕ, ◌&&◌, ◌∷◌, ◌≡◌}
use Rattle.graphql_nodes.specs.declared.source.FileId.{FileId}
use Rattle.graphql_nodes.specs.declared.type_kind.TypeKind.{TypeKind}
use Rattle.graphql_nodes.specs.declared.type_kind.TypeKind.TheVariants as t
use Rattle.graphql_ast.specs.declared.parts.Parts.{Parts}
use Rattle.graphql_grammar.specs.declared.fault.FaultKind.TheVariants.{Expected}
use Rattle.graphql_grammar.specs.declared.fault.Item.TheVariants as i
use Rattle.graphql_grammar.specs.declared.kind.Kind.{Kind}
use Rattle.graphql_grammar.specs.declared.kind.Kind.TheVariants as k
use Rattle.graphql_grammar.specs.declared.kind.Names.TheVariants as names
use Rattle.graphql_grammar.specs.Kinds.{names_of}
use Rattle.graphql_grammar.specs.Pieces.{optional, sign}
use Rattle.graphql_grammar.specs.Words.{WordView}
use Rattle.graphql_productions.specs.DefinitionTreeParts.{body_parts, description_parts, enum_value_parts}
use Rattle.graphql_productions.specs.DefinitionTreeParts.{enum_values_parts, field_parts, fields_parts}
use Rattle.graphql_productions.specs.DefinitionTreeParts.{input_value_parts, input_values_parts}
use Rattle.graphql_productions.specs.DefinitionTreeParts.{is_directives, names_parts, root_parts}
use Rattle.graphql_productions.specs.Operations.{is_operation_type, no_root, operation_type}
use Rattle.graphql_productions.specs.TreeParts.{Description, EnumName, TreePart, name_parts, node_parts}
use Rattle.graphql_productions.specs.TreeParts.{wanted_parts}
use Rattle.graphql_productions.specs.TypeSystem.{description, description_body, enum_value_definition}
use Rattle.graphql_productions.specs.TypeSystem.{enum_value_name, enum_value_node, enum_values, expecting}
use Rattle.graphql_productions.specs.TypeSystem.{field_definition, field_node, fielded, fields, has_part}
use Rattle.graphql_productions.specs.TypeSystem.{input_node, input_value, input_values, is_described_name}
use Rattle.graphql_productions.specs.TypeSystem.{is_description, is_enum_value, is_none, names_behind}
use Rattle.graphql_productions.specs.TypeSystem.{no_enum_value, parts, root, root_node, roots}
use Rattle.graphql_productions.proofs.TypeSystemLaws.{enum_value_tame, field_definition_tame}
use Rattle.graphql_productions.proofs.TypeSystemLaws.{input_value_tame, root_tame}
use Rattle.graphql_productions.proofs.PartLaws.{Covered, Holds, Serves, Yields, headed_covered, item_covered}
use Rattle.graphql_productions.proofs.PartLaws.{list_covered, listed_covered, mapped_covered, mapped_yields}
use Rattle.graphql_productions.proofs.PartLaws.{no_parts, node_covered, optional_covered, separated_covered}
use Rattle.graphql_productions.proofs.PartLaws.{seq_covered, word_covered, yielded}
use Rattle.graphql_productions.proofs.PartsOfValues.{directives_covered, name_covered, type_covered}
use Rattle.graphql_productions.proofs.PartsOfOperations.{typed_covered}

and_all : (b : Bool) → (b && true) ≡ b
and_all true = refl
and_all false = refl

module _ {asked : TreePart → Type 0} {file : FileId} {Known : List WordView → Type 0}
    (serves : Serves asked file Known) where
  pub optional_description_covered : Covered serves (optional (description file)) description_parts
  unfolding description_body
  optional_description_covered =
      optional_covered (headed_covered (word_covered is_description (λ _. Expected i.Definition)
      {g = λ n. Description n ∷ []} (λ w known h. (serves.description w known h, tt))))

  -- ---- input values

  input_value_covered : (depth : ℕ) → Covered serves (input_value file depth) (node_parts input_value_parts)
  unfolding input_node
  input_value_covered depth =
      item_covered (expecting i.InputValue) (node_covered is_described_name
      (mapped_covered (seq_covered optional_description_covered (seq_covered (name_covered serves)
      (typed_covered serves depth))) (λ x all. all)) (input_value_tame file depth).law.begun)

  pub input_values_covered : (opening closing : Kind) (depth : ℕ)
      → Covered serves (input_values file opening closing depth) input_values_parts
  unfolding input_values
  input_values_covered opening closing depth = listed_covered (node_parts input_value_parts)
      (list_covered opening closing (expecting i.InputValue) depth (input_value file) input_value_covered)

  -- ---- fields

  field_covered : (depth : ℕ) → Covered serves (field_definition file depth) (node_parts field_parts)
  unfolding field_node
  field_covered depth = item_covered (expecting i.FieldDefinition) (node_covered is_described_name
      (mapped_covered (seq_covered optional_description_covered (seq_covered (name_covered serves)
      (seq_covered (input_values_covered k.LeftParen k.RightParen depth)
      (seq_covered (no_parts (sign k.Colon)) (seq_covered (type_covered serves depth) (directives_covered
      serves true depth)))))) (λ x all. all)) (field_definition_tame file depth).law.begun)

  fields_covered : (depth : ℕ) → Covered serves (fields file depth) fields_parts
  unfolding fields
  fields_covered depth = listed_covered (node_parts field_parts) (list_covered k.LeftBrace k.RightBrace
      (expecting i.FieldDefinition) depth (field_definition file) field_covered)

  -- ---- interfaces and members

  names_covered : (opening between : Kind) → Covered serves (names_behind file opening between) names_parts
  unfolding names_behind
  names_covered opening between =
      listed_covered name_parts (mapped_covered (seq_covered (no_parts (sign opening))
      (separated_covered between (name_covered serves))) (λ x all. all))

  -- ---- enum values

  enum_name_covered : Covered serves (enum_value_name file) (λ n. EnumName n ∷ [])
  unfolding enum_value_name
  enum_name_covered = word_covered (names_of names.EnumValue) no_enum_value
      (λ w known h. (serves.enum_name w known h, tt))

  enum_value_covered : (depth : ℕ)
      → Covered serves (enum_value_definition file depth) (node_parts enum_value_parts)
  unfolding enum_value_node
  enum_value_covered depth =
      item_covered no_enum_value
      (node_covered is_enum_value (mapped_covered (seq_covered optional_description_covered
      (seq_covered enum_name_covered (directives_covered serves true depth))) (λ x all. all))
      (enum_value_tame file depth).law.begun)

  enum_values_covered : (depth : ℕ) → Covered serves (enum_values file depth) enum_values_parts
  unfolding enum_values
  enum_values_covered depth = listed_covered (node_parts enum_value_parts) (list_covered k.LeftBrace
      k.RightBrace no_enum_value depth (enum_value_definition file) enum_value_covered)

  -- ---- roots

  root_covered : Covered serves (root file) (node_parts root_parts)
  unfolding root_node
  root_covered = item_covered no_root (node_covered is_operation_type
      (mapped_covered (seq_covered (no_parts operation_type) (seq_covered (no_parts (sign k.Colon))
      (name_covered serves))) (λ x all. all)) (root_tame file).law.begun)

  pub roots_covered : (depth : ℕ) → Covered serves (roots file depth) (wanted_parts (node_parts root_parts))
  roots_covered depth = list_covered k.LeftBrace k.RightBrace no_root depth (λ _. root file)
      (λ _. root_covered)

  -- ---- what stands behind a name

  -- all parts are as is asked, and where there is any, it is of this kind
  abbrev pub IsBody : TypeKind → Parts → Type 0
  IsBody kind p = Holds asked (body_parts kind p)
      × (has_part p ≡ not (is_none p.directives && is_directives kind p))

  fielded_yields : (depth : ℕ) → Yields Known (fielded file depth) (IsBody t.Object)
  unfolding fielded
  fielded_yields depth =
      mapped_yields (yielded (seq_covered (names_covered k.Implements k.Ampersand)
      (seq_covered (directives_covered serves true depth) (fields_covered depth)))) (λ x all.
      (all, ap (λ (b : Bool). not (is_none x.1.0.0 && (is_none x.0 && b))) (and_all (is_none x.1.1))))

  pub parts_yield : (kind : TypeKind) (depth : ℕ) → Yields Known (parts file kind depth) (IsBody kind)
  unfolding parts
  parts_yield t.Scalar depth = mapped_yields (yielded (directives_covered serves true depth))
      (λ x all. (all, refl))
  parts_yield t.Object depth = record { each = (fielded_yields depth).each }
  parts_yield t.Interface depth = record { each = (fielded_yields depth).each }
  parts_yield t.Union depth =
      mapped_yields (yielded (seq_covered (directives_covered serves true depth) (names_covered k.Equals
      k.Pipe))) (λ x all. (all, ap (λ (b : Bool). not (is_none x.0.0 && b)) (and_all (is_none x.1))))
  parts_yield t.Enum depth =
      mapped_yields (yielded (seq_covered (directives_covered serves true depth) (enum_values_covered depth)))
      (λ x all. (all, ap (λ (b : Bool). not (is_none x.0.0 && b)) (and_all (is_none x.1))))
  parts_yield t.InputObject depth =
      mapped_yields (yielded (seq_covered (directives_covered serves true depth)
      (input_values_covered k.LeftBrace k.RightBrace depth)))
      (λ x all. (all, ap (λ (b : Bool). not (is_none x.0.0 && b)) (and_all (is_none x.1))))
