-- Documents: GraphQL specification of October 2021, section 2.2.
--
-- **Document.** One definition a production, each with its section. A `{` never follows a definition
-- that `takes_braces`: behind `type T` it opens the fields of the type, behind `scalar S` it begins a
-- query.
use Rattle.std.specs.Prelude.{◌≡◌, ℕ, List, [], ◌∷◌, Bool, true, false, ◌||◌, ◌&&◌}
use Rattle.graphql_nodes.specs.declared.source.FileId.{FileId}
use Rattle.graphql_ast.specs.Declarations.{Declaration, OfType, OfSchema, declaration_of}
use Rattle.graphql_ast.specs.declared.definition.Definition.{Definition}
use Rattle.graphql_ast.specs.declared.definition.Definition.TheVariants as d
use Rattle.graphql_ast.specs.declared.selection.Selection.{Selection}
use Rattle.graphql_grammar.specs.declared.fault.Item.TheVariants as i
use Rattle.graphql_grammar.specs.declared.kind.Kind.{Kind}
use Rattle.graphql_grammar.specs.declared.kind.Kind.TheVariants as k
use Rattle.graphql_grammar.specs.Kinds.{Kinds, only}
use Rattle.graphql_grammar.specs.Pieces.{Piece, branch, choose, item, mapped, nothing, some}
use Rattle.graphql_grammar.specs.Spelling.{Parts}
use Rattle.graphql_grammar.specs.Words.{WordView, begins}
use Rattle.graphql_productions.specs.Nodes.{node}
use Rattle.graphql_productions.specs.Operations.{fragment_definition, is_operation_type, operation, shorthand}
use Rattle.graphql_productions.specs.Selections.{bare_selections, no_selection, selection_set}
use Rattle.graphql_productions.specs.TypeSystem.{expecting, extension, goes_on_type, is_described}
use Rattle.graphql_productions.specs.TypeSystem.{is_description, is_none, parts_take, system_definition}

-- OperationDefinition with its keyword: section 2.3
unfoldable pub operation_definition : FileId → ℕ → Piece Definition
operation_definition file depth = mapped (λ x. d.OperationDefinition x) (node file (operation file depth))

-- OperationDefinition as a selection set alone, a query: section 2.3
unfoldable pub shorthand_definition : FileId → ℕ → Piece Definition
shorthand_definition file depth = mapped (λ x. d.OperationDefinition x) (node file (shorthand file depth))

-- FragmentDefinition: section 2.8
unfoldable pub fragment : FileId → ℕ → Piece Definition
fragment file depth = mapped (λ x. d.FragmentDefinition x) (node file (fragment_definition file depth))

-- the definition that begins with a word of this kind
abbrev pub definition_pick : FileId → ℕ → Kind → Piece Definition
definition_pick file depth kind =
    choose (only k.LeftBrace kind) (shorthand_definition file depth) (
    choose (only k.Fragment kind) (fragment file depth) (
    choose (only k.Extend kind) (extension file depth) (
    choose (is_operation_type kind) (operation_definition file depth) (
    choose (is_description kind || is_described kind) (system_definition file depth) (
    nothing (expecting i.Definition))))))

-- what a definition begins with
abbrev pub is_definition : Kinds
is_definition kind =
    only k.LeftBrace kind
    || (is_operation_type kind
    || (only k.Fragment kind || (only k.Extend kind || (is_description kind || is_described kind))))

-- Definition, by its first word
abbrev pub definition : FileId → ℕ → Piece Definition
definition file depth =
    branch is_definition goes_on_type (definition_pick file depth) (expecting i.Definition)

-- every kind
abbrev pub any_kind : Kinds
any_kind kind = true

-- Document: one definition or more, up to the last word
abbrev pub document : FileId → ℕ → Piece (List Definition)
document file depth = some (item any_kind (expecting i.Definition) (definition file depth))

-- whether a `{` behind what says this would still be its own. That is so of one that may have fields, values,
-- input fields or roots between braces, and has none. Sections 3.3.2, 3.6, 3.7, 3.9 and 3.10
abbrev pub declaration_takes_braces : Declaration → Bool
declaration_takes_braces (OfType t) = parts_take t.kind t.parts
declaration_takes_braces (OfSchema s) = s.is_extension && is_none s.parts.roots
declaration_takes_braces _ = false

-- the same of a definition
abbrev pub takes_braces : Definition → Bool
takes_braces x = declaration_takes_braces (declaration_of x)

-- these definitions, one after the other; a `{` never follows one that takes braces
abbrev pub spells_in_turn : FileId → ℕ → List Definition → List WordView → Type 0
spells_in_turn file depth [] words = words ≡ []
spells_in_turn file depth (x ∷ xs) words =
    Parts ((definition file depth).spells x) (λ tail. spells_in_turn file depth xs tail
    × ((takes_braces x && begins (only k.LeftBrace) tail) ≡ false)) words

-- the words of a document: one definition or more, so spelled. Section 2.2
abbrev pub spells_document : FileId → ℕ → List Definition → List WordView → Type 0
spells_document file depth [] words = ⊥
spells_document file depth (x ∷ xs) words = spells_in_turn file depth (x ∷ xs) words

-- selections in braces, where one stands in front, or without them
abbrev pub selections_pick : FileId → ℕ → Kind → Piece (List Selection)
selections_pick file depth kind =
    choose (only k.LeftBrace kind) (selection_set file depth) (bare_selections file depth)

-- selections, between braces or without
abbrev pub selections : FileId → ℕ → Piece (List Selection)
selections file depth = branch any_kind any_kind (selections_pick file depth) no_selection
