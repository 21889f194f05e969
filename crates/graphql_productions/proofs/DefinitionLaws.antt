-- Definitions and extensions are tame.
use Rattle.std.proofs.Common.{Bool, None, Option, Some, false, if◌then◌else◌, refl, suc, true, ℕ, ◌||◌, ◌≡◌}
use Rattle.graphql_nodes.specs.declared.directive_location.DirectiveLocation.{DirectiveLocation}
use Rattle.graphql_nodes.specs.declared.source.FileId.{FileId}
use Rattle.graphql_nodes.specs.declared.type_kind.TypeKind.{TypeKind}
use Rattle.graphql_nodes.specs.declared.type_kind.TypeKind.TheVariants as t
use Rattle.graphql_nodes.specs.declared.directive_location.DirectiveLocation.TheVariants as l
use Rattle.graphql_nodes.specs.LocationTexts.{location_text}
use Rattle.graphql_grammar.specs.declared.fault.Item.TheVariants as i
use Rattle.graphql_grammar.specs.declared.kind.Kind.{Kind}
use Rattle.graphql_grammar.specs.declared.kind.Kind.TheVariants as k
use Rattle.graphql_grammar.specs.Kinds.{is_name, is_token, only}
use Rattle.graphql_grammar.specs.Pieces.{Piece, choose, item, separated, seq, sign}
use Rattle.graphql_grammar.specs.Words.{WordView}
use Rattle.graphql_grammar.proofs.PieceLaws.{Lawful, picked_law}
use Rattle.graphql_grammar.proofs.BlindLaws.{picked_blind}
use Rattle.graphql_grammar.proofs.CleanLaws.{picked_clean}
use Rattle.graphql_grammar.proofs.ViableLaws.{picked_begins}
use Rattle.graphql_productions.specs.Directives.{arguments, directive_node, directives}
use Rattle.graphql_productions.specs.Documents.{any_kind, definition, definition_pick, fragment}
use Rattle.graphql_productions.specs.Documents.{is_definition, operation_definition, shorthand_definition}
use Rattle.graphql_productions.specs.Locations.{location_of}
use Rattle.graphql_productions.specs.Nodes.{name, node}
use Rattle.graphql_productions.specs.Operations.{fragment_definition, is_operation_type, operation, shorthand}
use Rattle.graphql_productions.specs.Operations.{variables}
use Rattle.graphql_productions.specs.Selections.{fragment_name}
use Rattle.graphql_productions.specs.TypeSystem.{by_type_kind, described, described_pick, directive_body}
use Rattle.graphql_productions.specs.TypeSystem.{enum_values, expecting, extended, extended_pick, extension}
use Rattle.graphql_productions.specs.TypeSystem.{extension_body, fielded, fields, goes_on_type, input_values}
use Rattle.graphql_productions.specs.TypeSystem.{is_described, is_description, is_extended, keyword, location}
use Rattle.graphql_productions.specs.TypeSystem.{location_word, names_behind, no_described, no_location}
use Rattle.graphql_productions.specs.TypeSystem.{parts, schema_body, schema_extension_body, system_definition}
use Rattle.graphql_productions.specs.TypeSystem.{type_body}
use Rattle.graphql_productions.proofs.TamePieces.{Led, Nesting, Steady, Tame, begun_at, branch_tame}
use Rattle.graphql_productions.proofs.TamePieces.{choose_tame, item_tame, led, located_tame, mapped_tame}
use Rattle.graphql_productions.proofs.TamePieces.{nothing_tame, optional_tame, separated_tame, seq_tame, sign_tame}
use Rattle.graphql_productions.proofs.NodeLaws.{name_tame, node_tame}
use Rattle.graphql_productions.proofs.DirectiveLaws.{directives_tame}
use Rattle.graphql_productions.proofs.OperationLaws.{fragment_definition_tame, operation_tame, shorthand_tame}
use Rattle.graphql_productions.proofs.TypeSystemLaws.{argument_definitions_tame, optional_description_tame}
use Rattle.graphql_productions.proofs.TypeSystemLaws.{parts_tame, roots_tame}
use Rattle.graphql_productions.proofs.ExtensionParts.{extension_parts_tame, schema_extension_tame}

-- ---- definitions of the type system

named_tame : (file : FileId) (kind : TypeKind) {A : Type 0} {p q : Piece A} → is_token (keyword kind) ≡ true
    → Tame p q → Tame (seq (sign (keyword kind)) (seq (name file) p))
    (seq (sign (keyword kind)) (seq (name file) q))
unfolding name
named_tame file kind token t =
    seq_tame (sign_tame (keyword kind) token) (seq_tame (name_tame file) t refl) refl

picked : {A : Type 0} (P : Piece A → Type 0) (flag : Bool) {p q : Piece A} → P p → P q → P (choose flag p q)
picked P true h g = h
picked P false h g = g

-- what holds of the piece of each kind of types, and of another, holds of the one that is picked
pub by_type_kind_each : {A : Type 0} (P : Piece A → Type 0) (kind : Kind) (p : TypeKind → Piece A)
    {r : Piece A} → ((of : TypeKind) → P (p of)) → P r → P (by_type_kind kind p r)
by_type_kind_each P kind p each other = picked P (only k.Scalar kind) (each t.Scalar)
    (picked P (only k.Type kind) (each t.Object) (picked P (only k.Interface kind) (each t.Interface)
    (picked P (only k.Union kind) (each t.Union) (picked P (only k.Enum kind) (each t.Enum)
    (picked P (only k.Input kind) (each t.InputObject) other)))))

by_type_kind_tame : {A : Type 0} (kind : Kind) (p q : TypeKind → Piece A) {r s : Piece A}
    → ((of : TypeKind) → is_token (keyword of) ≡ true → Tame (p of) (q of)) → Led r s
    → Led (by_type_kind kind p r) (by_type_kind kind q s)
by_type_kind_tame kind p q each other = choose_tame (only k.Scalar kind) (led (each t.Scalar refl))
    (choose_tame (only k.Type kind) (led (each t.Object refl))
    (choose_tame (only k.Interface kind) (led (each t.Interface refl))
    (choose_tame (only k.Union kind) (led (each t.Union refl))
    (choose_tame (only k.Enum kind) (led (each t.Enum refl))
    (choose_tame (only k.Input kind) (led (each t.InputObject refl)) other)))))

type_body_tame : (file : FileId) (kind : TypeKind) (depth : ℕ) → is_token (keyword kind) ≡ true
    → Tame (type_body file kind depth) (type_body file kind (suc depth))
unfolding type_body
type_body_tame file kind depth token = mapped_tame (named_tame file kind token (parts_tame file kind depth))

schema_body_tame : (file : FileId) → Nesting (schema_body file)
unfolding schema_body directives directive_node arguments name
schema_body_tame file depth =
    mapped_tame (seq_tame (sign_tame k.Schema refl) (seq_tame (directives_tame file true depth)
    (roots_tame file depth) refl) refl)

named_where : (flag : Bool) (found : Option DirectiveLocation) (x : DirectiveLocation)
    → (if flag then found else None) ≡ Some x → flag ≡ true
named_where true found x e = refl
named_where false found x e = absurd cc

-- the name of a location
abbrev location_named : WordView
location_named = record { kind = k.Name; text = location_text l.Query; start = 0; end = 0 }

pub location_tame : Steady location
unfolding location location_of
location_tame =
    let law : Lawful location = picked_law location_word is_name no_location
    (λ w x e. named_where (is_name w.kind) (location_of w.text) x e) in
    record {
      law = law;
      blind = picked_blind location_word is_name no_location;
      clean = picked_clean location_word is_name no_location law refl;
      goes = picked_begins location_word is_name no_location location_named l.Query refl;
    }

pub locations_tame : Steady (separated k.Pipe location)
unfolding location
locations_tame = separated_tame k.Pipe location_tame refl refl refl refl

directive_body_tame : (file : FileId) → Nesting (directive_body file)
unfolding directive_body input_values name
directive_body_tame file depth =
    mapped_tame (seq_tame (sign_tame k.Directive refl) (seq_tame (sign_tame k.At refl)
    (seq_tame (name_tame file) (seq_tame (argument_definitions_tame file depth)
    (seq_tame (optional_tame (led (sign_tame k.Repeatable refl)) refl) (seq_tame (sign_tame k.On refl)
    locations_tame refl) refl) refl) refl) refl) refl)

-- a scalar is one
described_tame : (file : FileId) → Nesting (described file)
unfolding schema_body type_body directive_body parts fielded names_behind fields enum_values input_values
    directives directive_node arguments location name
described_tame file depth = begun_at is_described goes_on_type (described_pick file (suc depth)) no_described
    k.Scalar (branch_tame is_described goes_on_type (described_pick file depth)
    (described_pick file (suc depth)) no_described (λ kind. choose_tame (only k.Schema kind)
    (led (schema_body_tame file depth)) (by_type_kind_tame kind (λ of. type_body file of depth)
    (λ of. type_body file of (suc depth)) (λ of token. type_body_tame file of depth token)
    (choose_tame (only k.Directive kind) (led (directive_body_tame file depth)) (nothing_tame no_described))))
    refl refl refl)
    (type_body_tame file t.Scalar depth refl) (type_body_tame file t.Scalar (suc depth) refl).law.begun

pub system_definition_tame : (file : FileId) → Nesting (system_definition file)
unfolding system_definition
system_definition_tame file depth =
    mapped_tame (located_tame (seq_tame (optional_description_tame file) (described_tame file depth) refl)
    refl)

-- ---- extensions

extension_body_tame : (file : FileId) (kind : TypeKind) (depth : ℕ) → is_token (keyword kind) ≡ true
    → Tame (extension_body file kind depth) (extension_body file kind (suc depth))
unfolding extension_body
extension_body_tame file kind depth token =
    mapped_tame (named_tame file kind token (extension_parts_tame file kind depth))

schema_extension_body_tame : (file : FileId) → Nesting (schema_extension_body file)
unfolding schema_extension_body
schema_extension_body_tame file depth =
    mapped_tame (seq_tame (sign_tame k.Schema refl) (schema_extension_tame file depth) refl)

-- a scalar is extended so
extended_tame : (file : FileId) → Nesting (extended file)
unfolding schema_extension_body extension_body parts fielded names_behind fields enum_values input_values
    directives directive_node arguments name
extended_tame file depth = begun_at is_extended goes_on_type (extended_pick file (suc depth))
    (expecting i.Extended) k.Scalar (branch_tame is_extended goes_on_type (extended_pick file depth)
    (extended_pick file (suc depth)) (expecting i.Extended) (λ kind. choose_tame (only k.Schema kind)
    (led (schema_extension_body_tame file depth)) (by_type_kind_tame kind
    (λ of. extension_body file of depth) (λ of. extension_body file of (suc depth))
    (λ of token. extension_body_tame file of depth token) (nothing_tame (expecting i.Extended)))) refl refl
    refl) (extension_body_tame file t.Scalar depth refl) (extension_body_tame file t.Scalar (suc depth)
    refl).law.begun

extension_tame : (file : FileId) → Nesting (extension file)
unfolding extension
extension_tame file depth =
    mapped_tame (located_tame (seq_tame (sign_tame k.Extend refl) (extended_tame file depth) refl) refl)

-- ---- all definitions

pub operation_node_tame : (file : FileId) → Nesting (λ depth. node file (operation file depth))
unfolding operation
operation_node_tame file depth = node_tame (operation_tame file depth) refl

pub shorthand_node_tame : (file : FileId) → Nesting (λ depth. node file (shorthand file depth))
unfolding shorthand
shorthand_node_tame file depth = node_tame (shorthand_tame file depth) refl

pub fragment_node_tame : (file : FileId) → Nesting (λ depth. node file (fragment_definition file depth))
unfolding fragment_definition
fragment_node_tame file depth = node_tame (fragment_definition_tame file depth) refl

-- an extension is one
pub definition_tame : (file : FileId) → Nesting (definition file)
unfolding operation_definition operation shorthand_definition shorthand fragment fragment_definition
    extension system_definition variables directives fragment_name name
definition_tame file depth = begun_at is_definition goes_on_type (definition_pick file (suc depth))
    (expecting i.Definition) k.Extend (branch_tame is_definition goes_on_type (definition_pick file depth)
    (definition_pick file (suc depth)) (expecting i.Definition) (λ kind. choose_tame (only k.LeftBrace kind)
    (led (mapped_tame (shorthand_node_tame file depth))) (choose_tame (only k.Fragment kind)
    (led (mapped_tame (fragment_node_tame file depth))) (choose_tame (only k.Extend kind)
    (led (extension_tame file depth)) (choose_tame (is_operation_type kind)
    (led (mapped_tame (operation_node_tame file depth)))
    (choose_tame (is_description kind || is_described kind) (led (system_definition_tame file depth))
    (nothing_tame (expecting i.Definition))))))) refl refl refl) (extension_tame file depth)
    (extension_tame file (suc depth)).law.begun

pub one_tame : (file : FileId)
    → Nesting (λ depth. item any_kind (expecting i.Definition) (definition file depth))
one_tame file depth = item_tame any_kind (expecting i.Definition) (definition_tame file depth) refl refl
