-- Selections: GraphQL specification of October 2021, sections 2.4 to 2.8.
use Rattle.std.specs.Prelude.{ℕ, zero, suc, List, false, ◌||◌, Option, None, Some, if◌then◌else◌}
use Rattle.graphql_nodes.specs.declared.source.FileId.{FileId}
use Rattle.graphql_nodes.specs.NameView.{NameView}
use Rattle.graphql_nodes.specs.NodeView.{NodeView}
use Rattle.graphql_ast.specs.declared.directive.Argument.{Argument}
use Rattle.graphql_ast.specs.declared.directive.DirectiveList.{DirectiveList}
use Rattle.graphql_ast.specs.declared.selection.Selection.{Selection}
use Rattle.graphql_ast.specs.declared.selection.Selection as s
use Rattle.graphql_ast.specs.declared.selection.Field.{Field, roll-Field}
use Rattle.graphql_ast.specs.declared.selection.InlineFragment.{InlineFragment, roll-InlineFragment}
use Rattle.graphql_ast.specs.declared.selection.FragmentSpread.{FragmentSpread}
use Rattle.graphql_grammar.specs.declared.fault.FaultKind.TheVariants.{Expected, ReservedName}
use Rattle.graphql_grammar.specs.declared.fault.Item.TheVariants as i
use Rattle.graphql_grammar.specs.declared.kind.Kind.{Kind}
use Rattle.graphql_grammar.specs.declared.kind.Kind.TheVariants as k
use Rattle.graphql_grammar.specs.declared.kind.Names.TheVariants as names
use Rattle.graphql_grammar.specs.Kinds.{Kinds, is_name, names_of, only}
use Rattle.graphql_grammar.specs.Pieces.{Piece, Wrong, branch, choose, headed, located, mapped, nothing}
use Rattle.graphql_grammar.specs.Pieces.{optional, seq, sign, some, too_deep, word}
use Rattle.graphql_grammar.specs.Words.{begins}
use Rattle.graphql_productions.specs.Directives.{arguments, directives}
use Rattle.graphql_productions.specs.Nodes.{behind, between, name, name_of, node, or_none, span_at}

-- a selection was expected
abbrev pub no_selection : Wrong
no_selection = λ _. Expected i.Selection

-- what a selection begins with
abbrev pub is_selection : Kinds
is_selection kind = is_name kind || only k.Spread kind

-- what stands behind an alias: `:` and the name of the field: section 2.7
unfoldable pub alias_body : FileId → Piece NameView
alias_body file = mapped behind (seq (sign k.Colon) (name file))

-- what makes the name before it an alias: section 2.7
abbrev pub alias : FileId → Piece NameView
alias file = headed (only k.Colon) (alias_body file)

-- a field's own name comes second where it has an alias
abbrev pub field_of : NameView → Option NameView → List (NodeView Argument) → DirectiveList → List Selection
    → Field
field_of first None arguments directives selections =
    roll-Field (record {
      alias = None;
      name = first;
      arguments = arguments;
      directives = directives;
      selection_set = selections;
    })
field_of first (Some second) arguments directives selections =
    roll-Field (record {
      alias = Some first;
      name = second;
      arguments = arguments;
      directives = directives;
      selection_set = selections;
    })

-- a field of its alias, name, arguments, directives and selections
abbrev pub field_made : NameView
    × (Option NameView × (List (NodeView Argument) × (DirectiveList × Option (List Selection)))) → Field
field_made x = field_of x.0 x.1.0 x.1.1.0 x.1.1.1.0 (or_none x.1.1.1.1)

-- Field: section 2.5
unfoldable pub field : FileId → ℕ → Piece (List Selection) → Piece Field
field file depth selections =
    mapped field_made
    (seq (name file)
    (seq (optional (alias file))
    (seq (arguments file false depth) (seq (directives file false depth) (optional selections)))))

-- FragmentName: a name, not `on`
abbrev pub no_fragment_name : Wrong
no_fragment_name left = if begins (only k.On) left then ReservedName else Expected i.Name

-- FragmentName: a name but `on`: section 2.8
unfoldable pub fragment_name : FileId → Piece NameView
fragment_name file = mapped (name_of file) (word (names_of names.Fragment) no_fragment_name)

-- a spread of its name and directives
abbrev pub spread_of : NameView × DirectiveList → FragmentSpread
spread_of x = record { fragment_name = x.0; directives = x.1 }

-- FragmentSpread, behind its `...`: section 2.8
unfoldable pub spread_body : FileId → ℕ → Piece FragmentSpread
spread_body file depth = mapped spread_of (seq (fragment_name file) (directives file false depth))

-- TypeCondition: `on` and the name of a type: section 2.8.1
unfoldable pub condition_body : FileId → Piece NameView
condition_body file = mapped behind (seq (sign k.On) (name file))

-- TypeCondition
abbrev pub type_condition : FileId → Piece NameView
type_condition file = headed (only k.On) (condition_body file)

-- an inline fragment of its condition, directives and selections
abbrev pub inline_of : Option NameView × (DirectiveList × List Selection) → InlineFragment
inline_of x = roll-InlineFragment (record { type_condition = x.0; directives = x.1.0; selection_set = x.1.1 })

-- InlineFragment, behind its `...`: section 2.8.2
unfoldable pub inline_body : FileId → ℕ → Piece (List Selection) → Piece InlineFragment
inline_body file depth selections =
    mapped inline_of (seq (optional (type_condition file)) (seq (directives file false depth) selections))

-- a spread or inline fragment that stands at these bytes
abbrev pub spread_at : FileId → FragmentSpread → ℕ × ℕ → Selection
spread_at file spread at = s.FragmentSpread (record { value = spread; location = span_at file at })

-- an inline fragment as a selection, at its place in the file
abbrev pub inline_at : FileId → InlineFragment → ℕ × ℕ → Selection
inline_at file fragment at = s.InlineFragment (record { value = fragment; location = span_at file at })

-- what stands behind `...` and begins with a word of this kind: an inline fragment or a spread
abbrev pub fragment_pick : FileId → ℕ → Piece (List Selection) → Kind → Piece (ℕ × ℕ → Selection)
fragment_pick file depth selections kind =
    choose (only k.On kind || (only k.At kind || only k.LeftBrace kind))
    (mapped (inline_at file) (inline_body file depth selections)) (
    choose (is_name kind) (mapped (spread_at file) (spread_body file depth)) (
    nothing no_selection))

-- what begins a fragment behind its `...`
abbrev pub is_fragment : Kinds
is_fragment kind = is_name kind || (only k.At kind || only k.LeftBrace kind)

-- what goes on with a spread: directives, and their arguments
abbrev pub is_of_directives : Kinds
is_of_directives kind = only k.At kind || only k.LeftParen kind

-- a fragment, behind its `...`, to be placed
abbrev pub fragment_body : FileId → ℕ → Piece (List Selection) → Piece (ℕ × ℕ → Selection)
fragment_body file depth selections =
    branch is_fragment is_of_directives (fragment_pick file depth selections) no_selection

-- a spread or an inline fragment, at its place
abbrev pub placed_fragment : (Unit {0} × (ℕ × ℕ → Selection)) × (ℕ × ℕ) → Selection
placed_fragment x = x.0.1 x.1

-- FragmentSpread or InlineFragment
unfoldable pub fragment : FileId → ℕ → Piece (List Selection) → Piece Selection
fragment file depth selections =
    mapped placed_fragment (located (seq (sign k.Spread) (fragment_body file depth selections)))

-- a field as a selection: section 2.5
unfoldable pub field_selection : FileId → ℕ → Piece (List Selection) → Piece Selection
field_selection file depth selections = mapped (λ x. s.Field x) (node file (field file depth selections))

-- the selection that begins with a word of this kind
abbrev pub selection_pick : FileId → ℕ → Piece (List Selection) → Kind → Piece Selection
selection_pick file depth selections kind =
    choose (only k.Spread kind) (fragment file depth selections) (
    choose (is_name kind) (field_selection file depth selections) (
    nothing no_selection))

-- what goes on with a selection
abbrev pub goes_on_selection : Kinds
goes_on_selection kind =
    only k.Colon kind || (only k.LeftParen kind || (only k.At kind || only k.LeftBrace kind))

-- Selection, by its first word
abbrev pub selection : FileId → ℕ → Piece (List Selection) → Piece Selection
selection file depth selections =
    branch is_selection goes_on_selection (selection_pick file depth selections) no_selection

-- SelectionSet: selections in braces, one at least: section 2.4
unfoldable pub selections_of : Piece Selection → Piece (List Selection)
selections_of p = between k.LeftBrace k.RightBrace no_selection (some p)

-- selection sets, in which so many signs may be open
unfoldable pub nested_set : FileId → ℕ → Piece (List Selection)
nested_set file zero = too_deep
nested_set file (suc depth) =
    selections_of (selection file depth (headed (only k.LeftBrace) (nested_set file depth)))

-- SelectionSet: section 2.4
abbrev pub selection_set : FileId → ℕ → Piece (List Selection)
selection_set file depth = headed (only k.LeftBrace) (nested_set file depth)

-- selections without braces, in which so many signs may be open
unfoldable pub bare_selections : FileId → ℕ → Piece (List Selection)
bare_selections file depth = some (selection file depth (selection_set file depth))
