-- What definitions and extensions of the type system hold nests at most so deep as it may be spelled.
use Rattle.std.proofs.Common.{◌≤◌, ℕ, true, None, arith, ◌||◌, List, [], ◌∷◌, Option}
use Rattle.graphql_nodes.specs.declared.source.FileId.{FileId}
use Rattle.graphql_nodes.specs.declared.type_kind.TypeKind.{TypeKind}
use Rattle.graphql_grammar.specs.declared.kind.Kind.{Kind}
use Rattle.graphql_grammar.specs.Pieces.{Piece, Wrong, item, mapped, optional, separated, seq, sign}
use Rattle.graphql_productions.specs.Directives.{directives}
use Rattle.graphql_productions.specs.Nodes.{name, node, span_at}
use Rattle.graphql_productions.specs.Operations.{no_root, is_operation_type}
use Rattle.graphql_productions.specs.TypeSystem.{description, enum_value_definition, enum_value_name}
use Rattle.graphql_productions.specs.TypeSystem.{enum_value_node, enum_values, expecting, field_definition}
use Rattle.graphql_productions.specs.TypeSystem.{field_node, fielded, fields, input_node, input_value}
use Rattle.graphql_productions.specs.TypeSystem.{input_values, no_enum_value, optional_roots, parts, roots}
use Rattle.graphql_productions.specs.TypeSystem.{schema_parts, Described, described, directive_body, extended}
use Rattle.graphql_productions.specs.TypeSystem.{extension, extension_body, is_described, is_description}
use Rattle.graphql_productions.specs.TypeSystem.{keyword, location, no_described, schema_body}
use Rattle.graphql_productions.specs.TypeSystem.{schema_extension_body, system_definition, type_body}
use Rattle.graphql_productions.specs.TypeSystem.{names_behind, root}
use Rattle.graphql_round_trip.specs.Nesting.{between, directives_nesting, enum_value_nesting, field_nesting}
use Rattle.graphql_round_trip.specs.Nesting.{input_nesting, parts_nesting, schema_nesting, definition_nesting}
use Rattle.graphql_round_trip.specs.Nesting.{document_nesting}
use Rattle.graphql_round_trip.proofs.FitLaws.{Fits, enclosed_fits, implied_keeps, item_keeps, list_fits}
use Rattle.graphql_round_trip.proofs.FitLaws.{mapped_keeps, node_keeps, seq_keeps, unasked, Keeps}
use Rattle.graphql_round_trip.proofs.FitLaws.{branch_keeps, choose_keeps, filtered_keeps, located_keeps}
use Rattle.graphql_round_trip.proofs.FitLaws.{nothing_keeps}
use Rattle.graphql_round_trip.proofs.Fits.{typed_fits, fragment_fits, operation_fits, shorthand_fits}
use Rattle.graphql_round_trip.proofs.Fits.{directives_fit, type_fits}
use Rattle.graphql_nodes.specs.NameView.{NameView}
use Rattle.graphql_nodes.specs.declared.source.SourceSpan.{SourceSpan}
use Rattle.graphql_ast.specs.Declarations.{type_definition, type_extension}
use Rattle.graphql_ast.specs.declared.definition.Definition.{Definition}
use Rattle.graphql_ast.specs.declared.parts.Parts.{Parts}
use Rattle.graphql_grammar.specs.Kinds.{Kinds, only}
use Rattle.graphql_grammar.specs.Words.{WordView}
use Rattle.graphql_productions.specs.Documents.{definition, fragment, operation_definition}
use Rattle.graphql_productions.specs.Documents.{shorthand_definition, spells_document, spells_in_turn}
use Rattle.graphql_nodes.specs.declared.type_kind.TypeKind.TheVariants as t
use Rattle.graphql_grammar.specs.declared.fault.Item.TheVariants as i
use Rattle.graphql_grammar.specs.declared.kind.Kind.TheVariants as k

-- ---- what is described and named

-- an item with a description and a name nests as deep as what stands behind its name
described_item_fits : {A B N : Type 0} (kinds : Kinds) (wrong : Wrong) (file : FileId) (named : Piece N)
    {p : Piece B} (f : Option NameView × (N × B) → A) (nesting : A → ℕ) {depth : ℕ} {P : B → Type 0}
    → Keeps p P → ((x : Option NameView × (N × B)) → P x.1.1 → nesting (f x) ≤ depth)
    → Fits (item kinds wrong (node file (mapped f (seq (optional (description file)) (seq named p)))))
    (λ n. nesting n.value) depth
described_item_fits kinds wrong file named f nesting {depth} pf so =
    item_keeps wrong (node_keeps {P = λ v. nesting v ≤ depth}
    (mapped_keeps (seq_keeps (unasked (optional (description file))) (seq_keeps (unasked named) pf))
    (λ x fits. so x fits.1.1)))

-- ---- input values

input_fits : (file : FileId) (depth : ℕ) → Fits (input_value file depth) input_nesting depth
unfolding input_node
input_fits file depth = described_item_fits _ (expecting i.InputValue) file (name file) _
    (λ v. input_nesting (record { value = v; location = None })) (typed_fits file depth) (λ x fits. fits)

-- input values between signs, if there are any
pub input_values_fit : (file : FileId) (opening closing : Kind) (depth : ℕ)
    → Fits (input_values file opening closing depth) (between input_nesting) depth
unfolding input_values
input_values_fit file opening closing depth = list_fits input_nesting (enclosed_fits opening closing
    (expecting i.InputValue) depth (λ inside. input_fits file inside))

-- ---- fields

field_fits : (file : FileId) (depth : ℕ) → Fits (field_definition file depth) field_nesting depth
unfolding field_node
field_fits file depth = described_item_fits _ (expecting i.FieldDefinition) file (name file) _
    (λ f. field_nesting (record { value = f; location = None }))
    (seq_keeps (input_values_fit file k.LeftParen k.RightParen depth) (seq_keeps (unasked (sign k.Colon))
    (seq_keeps (type_fits file depth) (directives_fit file true depth))))
    (λ x fits. omega (arith, fits.0, fits.1.1.0, fits.1.1.1))

fields_fit : (file : FileId) (depth : ℕ) → Fits (fields file depth) (between field_nesting) depth
unfolding fields
fields_fit file depth = list_fits field_nesting (enclosed_fits k.LeftBrace k.RightBrace
    (expecting i.FieldDefinition) depth (λ inside. field_fits file inside))

-- ---- enum values

enum_value_fits : (file : FileId) (depth : ℕ)
    → Fits (enum_value_definition file depth) enum_value_nesting depth
unfolding enum_value_node
enum_value_fits file depth = described_item_fits _ no_enum_value file (enum_value_name file) _
    (λ v. directives_nesting v.directives) (directives_fit file true depth) (λ x fits. fits)

enum_values_fit : (file : FileId) (depth : ℕ)
    → Fits (enum_values file depth) (between enum_value_nesting) depth
unfolding enum_values
enum_values_fit file depth = list_fits enum_value_nesting (enclosed_fits k.LeftBrace k.RightBrace
    no_enum_value depth (λ inside. enum_value_fits file inside))

-- ---- roots

-- roots, in which nothing nests, in their braces
pub roots_fit : (file : FileId) (depth : ℕ) → Fits (roots file depth) (between (λ _. 0)) depth
roots_fit file depth = enclosed_fits k.LeftBrace k.RightBrace no_root depth
    (λ inside. implied_keeps (unasked (root file)) (λ x _. omega arith))

-- ---- what stands behind a name

fielded_fits : (file : FileId) (depth : ℕ) → Fits (fielded file depth) (parts_nesting t.Object) depth
unfolding fielded
fielded_fits file depth = mapped_keeps (seq_keeps (unasked (names_behind file k.Implements k.Ampersand))
    (seq_keeps (directives_fit file true depth) (fields_fit file depth)))
    (λ x fits. omega (arith, fits.1.0, fits.1.1))

-- what stands behind the name of a type of this kind
pub parts_fit : (file : FileId) (kind : TypeKind) (depth : ℕ)
    → Fits (parts file kind depth) (parts_nesting kind) depth
unfolding parts
parts_fit file t.Scalar depth = mapped_keeps (directives_fit file true depth) (λ x fits. fits)
parts_fit file t.Object depth = fielded_fits file depth
parts_fit file t.Interface depth = fielded_fits file depth
parts_fit file t.Union depth = mapped_keeps (seq_keeps (directives_fit file true depth)
    (unasked (names_behind file k.Equals k.Pipe))) (λ x fits. fits.0)
parts_fit file t.Enum depth = mapped_keeps (seq_keeps (directives_fit file true depth)
    (enum_values_fit file depth)) (λ x fits. omega (arith, fits.0, fits.1))
parts_fit file t.InputObject depth = mapped_keeps (seq_keeps (directives_fit file true depth)
    (input_values_fit file k.LeftBrace k.RightBrace depth)) (λ x fits. omega (arith, fits.0, fits.1))

-- what an extension of the schema holds
pub schema_parts_fit : (file : FileId) (depth : ℕ)
    → Fits (mapped schema_parts (seq (directives file true depth) (optional_roots file depth))) schema_nesting
    depth
schema_parts_fit file depth = mapped_keeps (seq_keeps (directives_fit file true depth)
    (list_fits (λ _. 0) (roots_fit file depth))) (λ x fits. omega (arith, fits.0, fits.1))

-- ---- definitions, extensions and documents that are spelled within a depth nest at most so deep

-- ---- definitions of the type system

-- a definition fits, whatever its description and its location
abbrev DescribedFits : ℕ → Described → Type 0
DescribedFits depth f = (description : Option NameView) (location : Option SourceSpan)
    → definition_nesting (f description location) ≤ depth

-- the definition of a type nests as deep as its parts
type_definition_fits : (kind : TypeKind) (description : Option NameView) (name : NameView) (parts : Parts)
    (location : Option SourceSpan) (depth : ℕ) → parts_nesting kind parts ≤ depth
    → definition_nesting (type_definition kind description name parts location) ≤ depth
type_definition_fits t.Scalar description name parts location depth fits = fits
type_definition_fits kind description name parts location depth fits = fits

pub type_body_fits : (file : FileId) (kind : TypeKind) (depth : ℕ)
    → Keeps (type_body file kind depth) (DescribedFits depth)
unfolding type_body
type_body_fits file kind depth =
    mapped_keeps (seq_keeps (unasked (sign (keyword kind))) (seq_keeps (unasked (name file))
    (parts_fit file kind depth))) (λ x fits description location. type_definition_fits kind description x.1.0
    x.1.1 location depth fits.1.1)

pub schema_body_fits : (file : FileId) (depth : ℕ) → Keeps (schema_body file depth) (DescribedFits depth)
unfolding schema_body
schema_body_fits file depth =
    mapped_keeps (seq_keeps (unasked (sign k.Schema)) (seq_keeps (directives_fit file true depth)
    (roots_fit file depth))) (λ x fits description location. omega (arith, fits.1.0, fits.1.1))

pub directive_body_fits : (file : FileId) (depth : ℕ)
    → Keeps (directive_body file depth) (DescribedFits depth)
unfolding directive_body
directive_body_fits file depth =
    mapped_keeps (seq_keeps (unasked (sign k.Directive)) (seq_keeps (unasked (sign k.At))
    (seq_keeps (unasked (name file)) (seq_keeps (input_values_fit file k.LeftParen k.RightParen depth)
    (unasked (seq (optional (sign k.Repeatable)) (seq (sign k.On) (separated k.Pipe location))))))))
    (λ x fits description location. fits.1.1.1.0)

described_fits : (file : FileId) (depth : ℕ) → Keeps (described file depth) (DescribedFits depth)
described_fits file depth =
    branch_keeps no_described (λ kind. choose_keeps (only k.Schema kind) (schema_body_fits file depth)
    (choose_keeps (only k.Scalar kind) (type_body_fits file t.Scalar depth) (choose_keeps (only k.Type kind)
    (type_body_fits file t.Object depth) (choose_keeps (only k.Interface kind)
    (type_body_fits file t.Interface depth) (choose_keeps (only k.Union kind) (type_body_fits file t.Union
    depth) (choose_keeps (only k.Enum kind) (type_body_fits file t.Enum depth)
    (choose_keeps (only k.Input kind) (type_body_fits file t.InputObject depth) (choose_keeps
    (only k.Directive kind) (directive_body_fits file depth) (nothing_keeps no_described)))))))))

system_definition_fits : (file : FileId) (depth : ℕ)
    → Fits (system_definition file depth) definition_nesting depth
unfolding system_definition
system_definition_fits file depth =
    mapped_keeps (located_keeps (seq_keeps (unasked (optional (description file)))
    (described_fits file depth))) (λ x fits. fits.1 x.0.0 (span_at file x.1))

-- ---- extensions

-- an extension fits, whatever its location
abbrev ExtendedFits : ℕ → (Option SourceSpan → Definition) → Type 0
ExtendedFits depth f = (location : Option SourceSpan) → definition_nesting (f location) ≤ depth

-- the extension of a type nests as deep as its parts
type_extension_fits : (kind : TypeKind) (name : NameView) (parts : Parts) (location : Option SourceSpan)
    (depth : ℕ) → parts_nesting kind parts ≤ depth
    → definition_nesting (type_extension kind name parts location) ≤ depth
type_extension_fits t.Scalar name parts location depth fits = fits
type_extension_fits kind name parts location depth fits = fits

extension_body_fits : (file : FileId) (kind : TypeKind) (depth : ℕ)
    → Keeps (extension_body file kind depth) (ExtendedFits depth)
unfolding extension_body
extension_body_fits file kind depth =
    mapped_keeps (seq_keeps (unasked (sign (keyword kind))) (seq_keeps (unasked (name file))
    (filtered_keeps (expecting i.ExtensionPart) (parts_fit file kind depth))))
    (λ x fits location. type_extension_fits kind x.1.0 x.1.1 location depth fits.1.1)

schema_extension_fits : (file : FileId) (depth : ℕ)
    → Keeps (schema_extension_body file depth) (ExtendedFits depth)
unfolding schema_extension_body
schema_extension_fits file depth =
    mapped_keeps (seq_keeps (unasked (sign k.Schema)) (filtered_keeps (expecting i.ExtensionPart)
    (schema_parts_fit file depth))) (λ x fits location. fits.1)

extended_fits : (file : FileId) (depth : ℕ) → Keeps (extended file depth) (ExtendedFits depth)
extended_fits file depth = branch_keeps (expecting i.Extended) (λ kind. choose_keeps (only k.Schema kind)
    (schema_extension_fits file depth) (choose_keeps (only k.Scalar kind) (extension_body_fits file t.Scalar
    depth) (choose_keeps (only k.Type kind) (extension_body_fits file t.Object depth)
    (choose_keeps (only k.Interface kind) (extension_body_fits file t.Interface depth)
    (choose_keeps (only k.Union kind) (extension_body_fits file t.Union depth)
    (choose_keeps (only k.Enum kind) (extension_body_fits file t.Enum depth) (choose_keeps (only k.Input kind)
    (extension_body_fits file t.InputObject depth) (nothing_keeps (expecting i.Extended)))))))))

extension_fits : (file : FileId) (depth : ℕ) → Fits (extension file depth) definition_nesting depth
unfolding extension
extension_fits file depth =
    mapped_keeps (located_keeps (seq_keeps (unasked (sign k.Extend)) (extended_fits file depth)))
    (λ x fits. fits.1 (span_at file x.1))

-- ---- all definitions

operation_definition_fits : (file : FileId) (depth : ℕ)
    → Fits (operation_definition file depth) definition_nesting depth
unfolding operation_definition
operation_definition_fits file depth = mapped_keeps (node_keeps (operation_fits file depth)) (λ n fits. fits)

shorthand_definition_fits : (file : FileId) (depth : ℕ)
    → Fits (shorthand_definition file depth) definition_nesting depth
unfolding shorthand_definition
shorthand_definition_fits file depth = mapped_keeps (node_keeps (shorthand_fits file depth)) (λ n fits. fits)

fragment_definition_fits : (file : FileId) (depth : ℕ) → Fits (fragment file depth) definition_nesting depth
unfolding fragment
fragment_definition_fits file depth = mapped_keeps (node_keeps (fragment_fits file depth)) (λ n fits. fits)

-- a definition or extension
definition_fits : (file : FileId) (depth : ℕ) → Fits (definition file depth) definition_nesting depth
definition_fits file depth =
    branch_keeps (expecting i.Definition) (λ kind. choose_keeps (only k.LeftBrace kind)
    (shorthand_definition_fits file depth) (choose_keeps (only k.Fragment kind) (fragment_definition_fits file
    depth) (choose_keeps (only k.Extend kind) (extension_fits file depth)
    (choose_keeps (is_operation_type kind) (operation_definition_fits file depth)
    (choose_keeps (is_description kind || is_described kind) (system_definition_fits file depth)
    (nothing_keeps (expecting i.Definition)))))))

-- ---- documents

in_turn_fits : (file : FileId) (depth : ℕ) (xs : List Definition) (words : List WordView)
    → spells_in_turn file depth xs words → document_nesting xs ≤ depth
in_turn_fits file depth [] words h = omega arith
in_turn_fits file depth (x ∷ xs) words h = omega (
  arith,
  (definition_fits file depth).kept x h.head h.first,
  in_turn_fits file depth xs h.tail h.second.0,
)

-- a document that is spelled within a depth nests at most so deep
pub spelled_document_fits : (file : FileId) (depth : ℕ) (xs : List Definition) (words : List WordView)
    → spells_document file depth xs words → document_nesting xs ≤ depth
spelled_document_fits file depth [] words h = absurd h
spelled_document_fits file depth (x ∷ xs) words h = in_turn_fits file depth (x ∷ xs) words h
