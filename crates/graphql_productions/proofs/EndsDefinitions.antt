-- What ends definitions and extensions: a `{` goes on with those that take braces, and with no others.
use Rattle.std.proofs.Common.{Bool, None, Option, false, refl, true, ℕ, ◌||◌, ◌≡◌}
use Rattle.graphql_nodes.specs.declared.source.FileId.{FileId}
use Rattle.graphql_nodes.specs.declared.source.SourceSpan.{SourceSpan}
use Rattle.graphql_nodes.specs.declared.type_kind.TypeKind.{TypeKind}
use Rattle.graphql_nodes.specs.declared.type_kind.TypeKind.TheVariants as t
use Rattle.graphql_nodes.specs.NameView.{NameView}
use Rattle.graphql_ast.specs.Declarations.{type_definition, type_extension}
use Rattle.graphql_ast.specs.declared.definition.Definition.{Definition}
use Rattle.graphql_ast.specs.declared.parts.Parts.{Parts}
use Rattle.graphql_grammar.specs.declared.fault.Item.TheVariants as i
use Rattle.graphql_grammar.specs.declared.kind.Kind.TheVariants as k
use Rattle.graphql_grammar.specs.Kinds.{only}
use Rattle.graphql_grammar.specs.Pieces.{Piece, filtered, located, optional, separated, seq, sign}
use Rattle.graphql_grammar.proofs.EndsLaws.{Bounded, Limits, branch_bounded, choose_bounded, filtered_bounded}
use Rattle.graphql_grammar.proofs.EndsLaws.{located_bounded, mapped_bounded, nothing_bounded, seq_bounded}
use Rattle.graphql_grammar.proofs.PieceLaws.{Lawful, optional_law, sign_law}
use Rattle.graphql_productions.specs.Directives.{arguments, directive_node, directives}
use Rattle.graphql_productions.specs.Documents.{definition, definition_pick, fragment, is_definition}
use Rattle.graphql_productions.specs.Documents.{operation_definition, shorthand_definition, takes_braces}
use Rattle.graphql_productions.specs.Nodes.{name, node, span_at}
use Rattle.graphql_productions.specs.Operations.{fragment_definition, is_operation_type, operation, shorthand}
use Rattle.graphql_productions.specs.Operations.{variables}
use Rattle.graphql_productions.specs.Selections.{fragment_name}
use Rattle.graphql_productions.specs.TypeSystem.{Described, definition_made, described, described_pick}
use Rattle.graphql_productions.specs.TypeSystem.{description, directive_body, enum_values, expecting}
use Rattle.graphql_productions.specs.TypeSystem.{extended, extended_pick, extension, extension_body}
use Rattle.graphql_productions.specs.TypeSystem.{extension_made, fielded, fields, goes_on_type, has_part}
use Rattle.graphql_productions.specs.TypeSystem.{input_values, is_described, is_description, is_extended}
use Rattle.graphql_productions.specs.TypeSystem.{is_none, keyword, location, names_behind, no_described}
use Rattle.graphql_productions.specs.TypeSystem.{parts, parts_take, roots, schema_body, schema_extension_body}
use Rattle.graphql_productions.specs.TypeSystem.{system_definition, type_body}
use Rattle.graphql_productions.proofs.TamePieces.{disjoint}
use Rattle.graphql_productions.proofs.NodeLaws.{name_tame}
use Rattle.graphql_productions.proofs.DirectiveLaws.{directives_tame}
use Rattle.graphql_productions.proofs.TypeSystemLaws.{argument_definitions_tame, optional_description_tame}
use Rattle.graphql_productions.proofs.TypeSystemLaws.{roots_led}
use Rattle.graphql_productions.proofs.ExtensionParts.{schema_extension_parts}
use Rattle.graphql_productions.proofs.DefinitionLaws.{by_type_kind_each, fragment_node_tame, locations_tame}
use Rattle.graphql_productions.proofs.DefinitionLaws.{operation_node_tame, shorthand_node_tame}
use Rattle.graphql_productions.proofs.EndsTypeSystem.{Braced, limits, mapped_braced, parts_braced, plain}
use Rattle.graphql_productions.proofs.EndsTypeSystem.{schema_parts_braced, seq_braced}

-- ---- definitions of the type system, with a description and at a place

type_takes : (kind : TypeKind) (about : Option NameView) (n : NameView) (x : Parts) (at : Option SourceSpan)
    → parts_take kind x ≡ takes_braces (type_definition kind about n x at)
type_takes t.Scalar about n x at = refl
type_takes kind about n x at = refl

module _ (file : FileId) (depth : ℕ) (about : Option NameView) (at : Option SourceSpan) where
  -- whether a definition that is so described and stands there takes braces
  abbrev made_takes : Described → Bool
  made_takes made = takes_braces (made about at)

  type_body_braced : (kind : TypeKind) → Braced (type_body file kind depth) made_takes
  unfolding type_body name
  type_body_braced kind = mapped_braced (λ x. parts_take kind x.1.1) made_takes
      (seq_braced (λ x. parts_take kind x.1) (sign_law (keyword kind)) (seq_braced (parts_take kind)
      (name_tame file).law (parts_braced file depth kind) refl refl) refl refl)
      (λ x. type_takes kind about x.1.0 x.1.1 at)

  schema_body_braced : Braced (schema_body file depth) made_takes
  unfolding schema_body directives directive_node arguments name
  schema_body_braced = mapped_braced (λ _. false) made_takes (seq_braced (λ _. false) (sign_law k.Schema)
      (seq_braced (λ _. false) (directives_tame file true depth).law
      (plain (roots file depth) (roots_led file depth).law refl) refl refl) refl refl) (λ x. refl)

  directive_body_braced : Braced (directive_body file depth) made_takes
  unfolding directive_body input_values location name
  directive_body_braced =
      let l : Braced (separated k.Pipe location) (λ _. false) =
      plain (separated k.Pipe location) locations_tame.law refl in
      let r : Lawful (optional (sign k.Repeatable)) = optional_law (sign k.Repeatable) (sign_law k.Repeatable)
      refl in
      mapped_braced (λ _. false) made_takes (seq_braced (λ _. false) (sign_law k.Directive)
      (seq_braced (λ _. false) (sign_law k.At) (seq_braced (λ _. false) (name_tame file).law
      (seq_braced (λ _. false) (argument_definitions_tame file depth).law
      (seq_braced (λ _. false) r (seq_braced (λ _. false) (sign_law k.On) l refl refl) refl refl) refl
      refl) refl refl) refl refl) refl refl) (λ x. refl)

  described_braced : Braced (described file depth) made_takes
  unfolding schema_body type_body directive_body parts fielded names_behind fields enum_values input_values
      directives directive_node arguments location name
  described_braced =
      let e : Described → Limits = λ made. limits (made_takes made) in
      branch_bounded is_described goes_on_type (described_pick file depth) no_described e
      (λ kind. choose_bounded (only k.Schema kind) e schema_body_braced
      (by_type_kind_each (λ p. Bounded p e) kind (λ of. type_body file of depth) type_body_braced
      (choose_bounded (only k.Directive kind) e directive_body_braced (nothing_bounded no_described e))))
      refl refl refl

system_definition_braced : (file : FileId) (depth : ℕ) → Braced (system_definition file depth) takes_braces
unfolding system_definition
system_definition_braced file depth =
    let o : Piece (Option NameView) = optional (description file) in
    let b : Piece Described = described file depth in
    mapped_bounded (definition_made file) (located (seq o b)) (λ x. limits (takes_braces x))
    (located_bounded (seq o b) refl (λ x. limits (takes_braces (definition_made file x)))
    (λ at. seq_bounded o b (optional_description_tame file).law (described_braced file depth None
    None).lawful (λ x. limits (takes_braces (definition_made file (x, at)))) (λ about. described_braced
    file depth about (span_at file at)) (disjoint o.more b.first refl) (λ x empty. absurd cc)))

-- ---- extensions, at a place

extension_takes : (kind : TypeKind) (n : NameView) (x : Parts) (at : Option SourceSpan)
    → parts_take kind x ≡ takes_braces (type_extension kind n x at)
extension_takes t.Scalar n x at = refl
extension_takes kind n x at = refl

module _ (file : FileId) (depth : ℕ) (at : Option SourceSpan) where
  -- whether an extension that stands there takes braces
  abbrev extends_takes : (Option SourceSpan → Definition) → Bool
  extends_takes made = takes_braces (made at)

  extension_body_braced : (kind : TypeKind) → Braced (extension_body file kind depth) extends_takes
  unfolding extension_body name
  extension_body_braced kind =
      let p : Braced (filtered has_part (expecting i.ExtensionPart) (parts file kind depth))
      (parts_take kind) = filtered_bounded has_part (expecting i.ExtensionPart) (parts file kind depth)
      (λ x. limits (parts_take kind x)) (parts_braced file depth kind) in
      mapped_braced (λ x. parts_take kind x.1.1) extends_takes (seq_braced (λ x. parts_take kind x.1)
      (sign_law (keyword kind)) (seq_braced (parts_take kind) (name_tame file).law p refl refl) refl refl)
      (λ x. extension_takes kind x.1.0 x.1.1 at)

  schema_extension_body_braced : Braced (schema_extension_body file depth) extends_takes
  unfolding schema_extension_body
  schema_extension_body_braced = mapped_braced (λ x. is_none x.1.roots) extends_takes
      (seq_braced (λ x. is_none x.roots) (sign_law k.Schema)
      (filtered_bounded has_part (expecting i.ExtensionPart) (schema_extension_parts file depth)
      (λ x. limits (is_none x.roots)) (schema_parts_braced file depth)) refl refl) (λ x. refl)

  extended_braced : Braced (extended file depth) extends_takes
  unfolding schema_extension_body extension_body parts fielded names_behind fields enum_values input_values
      directives directive_node arguments name
  extended_braced =
      let e : (Option SourceSpan → Definition) → Limits = λ made. limits (extends_takes made) in
      branch_bounded is_extended goes_on_type (extended_pick file depth) (expecting i.Extended) e
      (λ kind. choose_bounded (only k.Schema kind) e schema_extension_body_braced
      (by_type_kind_each (λ p. Bounded p e) kind (λ of. extension_body file of depth) extension_body_braced
      (nothing_bounded (expecting i.Extended) e))) refl refl refl

extension_braced : (file : FileId) (depth : ℕ) → Braced (extension file depth) takes_braces
unfolding extension
extension_braced file depth =
    let w : Piece (Unit {0} × (Option SourceSpan → Definition)) = seq (sign k.Extend) (extended file depth) in
    mapped_bounded (extension_made file) (located w) (λ x. limits (takes_braces x))
    (located_bounded w refl (λ x. limits (takes_braces (extension_made file x)))
    (λ at. seq_braced (λ made. takes_braces (made (span_at file at))) (sign_law k.Extend)
    (extended_braced file depth (span_at file at)) refl refl))

-- ---- all definitions

pub definition_braced : (file : FileId) (depth : ℕ) → Braced (definition file depth) takes_braces
unfolding operation_definition operation shorthand_definition shorthand fragment fragment_definition
    extension system_definition variables directives fragment_name name
definition_braced file depth =
    let e : Definition → Limits = λ x. limits (takes_braces x) in
    branch_bounded is_definition goes_on_type (definition_pick file depth) (expecting i.Definition) e
    (λ kind. choose_bounded (only k.LeftBrace kind) e (mapped_braced (λ _. false) takes_braces
    (plain (node file (shorthand file depth)) (shorthand_node_tame file depth).law refl) (λ x. refl))
    (choose_bounded (only k.Fragment kind) e (mapped_braced (λ _. false) takes_braces
    (plain (node file (fragment_definition file depth)) (fragment_node_tame file depth).law refl)
    (λ x. refl)) (choose_bounded (only k.Extend kind) e (extension_braced file depth)
    (choose_bounded (is_operation_type kind) e (mapped_braced (λ _. false) takes_braces
    (plain (node file (operation file depth)) (operation_node_tame file depth).law refl) (λ x. refl))
    (choose_bounded (is_description kind || is_described kind) e (system_definition_braced file depth)
    (nothing_bounded (expecting i.Definition) e)))))) refl refl refl
