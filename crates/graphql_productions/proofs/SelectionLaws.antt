-- Selections are tame.
use Rattle.std.proofs.Common.{List, None, Option, [], false, refl, suc, zero, ℕ, ◌||◌, ◌∷◌}
use Rattle.graphql_nodes.specs.declared.source.FileId.{FileId}
use Rattle.graphql_nodes.specs.NameView.{NameView}
use Rattle.graphql_nodes.specs.NodeView.{NodeView}
use Rattle.graphql_ast.specs.declared.directive.Argument.{Argument}
use Rattle.graphql_ast.specs.declared.directive.DirectiveList.{DirectiveList}
use Rattle.graphql_ast.specs.declared.selection.Field.{Field}
use Rattle.graphql_ast.specs.declared.selection.Selection.{Selection}
use Rattle.graphql_ast.specs.declared.selection.Selection as s
use Rattle.graphql_grammar.specs.declared.fault.FaultKind.TheVariants.{TooDeep}
use Rattle.graphql_grammar.specs.declared.kind.Kind.TheVariants as k
use Rattle.graphql_grammar.specs.declared.kind.Names.TheVariants as names
use Rattle.graphql_grammar.specs.Kinds.{is_name, names_of, only}
use Rattle.graphql_grammar.specs.Pieces.{Piece, headed}
use Rattle.graphql_grammar.specs.Words.{WordView, ended, starting}
use Rattle.graphql_grammar.proofs.PieceLaws.{joined}
use Rattle.graphql_grammar.proofs.ViableLaws.{bare_word}
use Rattle.graphql_productions.specs.Directives.{arguments, directive_node, directives}
use Rattle.graphql_productions.specs.Documents.{any_kind, selections, selections_pick}
use Rattle.graphql_productions.specs.Nodes.{name, name_of, node_of}
use Rattle.graphql_productions.specs.Selections.{alias, alias_body, bare_selections, condition_body, field}
use Rattle.graphql_productions.specs.Selections.{field_made, field_selection, fragment, fragment_body}
use Rattle.graphql_productions.specs.Selections.{fragment_name, fragment_pick, goes_on_selection, inline_body}
use Rattle.graphql_productions.specs.Selections.{is_fragment, is_of_directives, is_selection, nested_set}
use Rattle.graphql_productions.specs.Selections.{no_fragment_name, no_selection, selection, selection_pick}
use Rattle.graphql_productions.specs.Selections.{selection_set, selections_of, spread_at, spread_body}
use Rattle.graphql_productions.specs.Selections.{spread_of, type_condition}
use Rattle.graphql_productions.proofs.TamePieces.{Nesting, Steady, Tame, begun, begun_at, branch_tame}
use Rattle.graphql_productions.proofs.TamePieces.{choose_tame, headed_led, headed_tame, led}
use Rattle.graphql_productions.proofs.TamePieces.{located_tame, mapped_tame, nothing_tame, optional_tame}
use Rattle.graphql_productions.proofs.TamePieces.{seq_tame, sign_tame, some_tame, word_tame}
use Rattle.graphql_productions.proofs.NodeLaws.{between_tame, name_tame, node_tame}
use Rattle.graphql_productions.proofs.DirectiveLaws.{arguments_tame, directives_tame}

alias_tame : (file : FileId) → Steady (alias file)
unfolding alias_body name
alias_tame file = headed_tame (only k.Colon) (mapped_tame (seq_tame (sign_tame k.Colon refl) (name_tame file)
    refl)) refl refl refl

pub condition_tame : (file : FileId) → Steady (type_condition file)
unfolding condition_body name
condition_tame file = headed_tame (only k.On) (mapped_tame (seq_tame (sign_tame k.On refl) (name_tame file)
    refl)) refl refl refl

pub fragment_name_tame : (file : FileId) → Steady (fragment_name file)
unfolding fragment_name
fragment_name_tame file = mapped_tame (word_tame (names_of names.Fragment) no_fragment_name k.Name refl refl)

spread_tame : (file : FileId) → Nesting (spread_body file)
unfolding spread_body fragment_name
spread_tame file depth = mapped_tame (seq_tame (fragment_name_tame file) (directives_tame file false depth)
    refl)

-- ---- a name alone

-- a name
abbrev one_name : List WordView
one_name = bare_word k.Name ∷ []

-- what it is as a spread, behind its `...`
abbrev a_spread : FileId → NameView × DirectiveList
a_spread file = (name_of file (bare_word k.Name), record { 0 = [] })

-- what it is as a field
abbrev a_field : FileId
    → NameView × (Option NameView × (List (NodeView Argument) × (DirectiveList × Option (List Selection))))
a_field file = (name_of file (bare_word k.Name), (None, ([], (record { 0 = [] }, None))))

-- and where that stands
abbrev field_at : FileId → Field × (ℕ × ℕ)
field_at file = (field_made (a_field file), (starting one_name, ended 0 one_name))

abbrev field_alone : FileId → Selection
field_alone file = s.Field (node_of file (field_at file))

spread_spelled : (file : FileId) (depth : ℕ) (p : Piece (List Selection))
    → (fragment_body file depth p).spells (spread_at file (spread_of (a_spread file))) one_name
unfolding spread_body fragment_name directives
spread_spelled file depth p = (
  spread_of (a_spread file),
  refl,
  (a_spread file, refl, joined one_name [] (bare_word k.Name, refl, (refl, refl)) ([], refl, refl)),
)

field_spelled : (file : FileId) (depth : ℕ) (p : Piece (List Selection))
    → (selection file depth p).spells (field_alone file) one_name
unfolding field_selection field name arguments directives
field_spelled file depth p = (
  node_of file (field_at file),
  refl,
  (
    field_at file,
    refl,
    (
      (
        a_field file,
        refl,
        joined one_name [] (bare_word k.Name, refl, (refl, refl))
            (joined [] [] refl (joined [] [] (None, refl, refl) (joined [] [] ([], refl, refl) refl))),
      ),
      refl,
    ),
  ),
)

-- a field between braces
set_spelled : (file : FileId) (depth : ℕ) (p : Piece (List Selection))
    → (selections_of (selection file depth p)).spells (field_alone file ∷ []) (bare_word k.LeftBrace
    ∷ bare_word k.Name ∷ bare_word k.RightBrace ∷ [])
unfolding selections_of
set_spelled file depth p = (
  (tt, (field_alone file ∷ [], tt)),
  refl,
  joined (bare_word k.LeftBrace ∷ []) (bare_word k.Name
      ∷ bare_word k.RightBrace ∷ []) (bare_word k.LeftBrace, refl, refl)
      (joined one_name (bare_word k.RightBrace
      ∷ []) ((field_alone file, []), refl, joined one_name [] (field_spelled file depth p) refl)
      (bare_word k.RightBrace, refl, refl)),
)

-- ---- selections over sets

module _ (file : FileId) (depth : ℕ) (p q : Piece (List Selection)) (t : Tame (headed (only k.LeftBrace) p)
    (headed (only k.LeftBrace) q)) where
  abbrev set : Piece (List Selection)
  set = headed (only k.LeftBrace) p

  abbrev wider : Piece (List Selection)
  wider = headed (only k.LeftBrace) q

  field_tame : Tame (field file depth set) (field file (suc depth) wider)
  unfolding field directives directive_node arguments name
  field_tame = mapped_tame (seq_tame (name_tame file) (seq_tame (optional_tame (led (alias_tame file)) refl)
      (seq_tame (arguments_tame file false depth) (seq_tame (directives_tame file false depth)
      (optional_tame (led t) refl) refl) refl) refl) refl)

  inline_tame : Tame (inline_body file depth set) (inline_body file (suc depth) wider)
  unfolding inline_body directives directive_node arguments name
  inline_tame = mapped_tame (seq_tame (optional_tame (led (condition_tame file)) refl)
      (seq_tame (directives_tame file false depth) t refl) refl)

  body_tame : Tame (fragment_body file depth set) (fragment_body file (suc depth) wider)
  unfolding spread_body fragment_name inline_body directives directive_node arguments name
  body_tame = begun (branch_tame is_fragment is_of_directives (fragment_pick file depth set)
      (fragment_pick file (suc depth) wider) no_selection
      (λ kind. choose_tame (only k.On kind || (only k.At kind || only k.LeftBrace kind))
      (led (mapped_tame inline_tame)) (choose_tame (is_name kind) (led (mapped_tame (spread_tame file depth)))
      (nothing_tame no_selection))) refl refl refl) (spread_at file (spread_of (a_spread file))) one_name
      (spread_spelled file (suc depth) wider)

  fragment_tame : Tame (fragment file depth set) (fragment file (suc depth) wider)
  unfolding fragment
  fragment_tame = mapped_tame (located_tame (seq_tame (sign_tame k.Spread refl) body_tame refl) refl)

  field_selection_tame : Tame (field_selection file depth set) (field_selection file (suc depth) wider)
  unfolding field_selection field name
  field_selection_tame = mapped_tame (node_tame field_tame refl)

  selection_tame : Tame (selection file depth set) (selection file (suc depth) wider)
  unfolding field_selection fragment field directives directive_node arguments name
  selection_tame = begun (branch_tame is_selection goes_on_selection (selection_pick file depth set)
      (selection_pick file (suc depth) wider) no_selection (λ kind. choose_tame (only k.Spread kind)
      (led fragment_tame) (choose_tame (is_name kind) (led field_selection_tame) (nothing_tame no_selection)))
      refl refl refl) (field_alone file) one_name (field_spelled file (suc depth) wider)

  selections_tame : Tame (selections_of (selection file depth set))
      (selections_of (selection file (suc depth) wider))
  unfolding selections_of
  selections_tame = between_tame k.LeftBrace k.RightBrace no_selection (some_tame selection_tame refl refl)
      refl refl refl

pub selection_set_tame : (file : FileId) → Nesting (selection_set file)
unfolding nested_set selections_of
selection_set_tame file zero =
    begun (headed_led (only k.LeftBrace) {q = nested_set file (suc zero)} (nothing_tame (λ _. TooDeep)) refl
    refl refl) (field_alone file ∷ []) (bare_word k.LeftBrace ∷ bare_word k.Name ∷ bare_word k.RightBrace
    ∷ []) (set_spelled file zero (selection_set file zero))
selection_set_tame file (suc depth) = headed_tame (only k.LeftBrace) (selections_tame file depth
    (nested_set file depth) (nested_set file (suc depth)) (selection_set_tame file depth)) refl refl refl

-- a selection of such a set
pub in_set_tame : (file : FileId) → Nesting (λ depth. selection file depth (selection_set file depth))
in_set_tame file depth = selection_tame file depth (nested_set file depth) (nested_set file (suc depth))
    (selection_set_tame file depth)

pub bare_selections_tame : (file : FileId) → Nesting (bare_selections file)
unfolding bare_selections
bare_selections_tame file depth = some_tame (in_set_tame file depth) refl refl

-- between braces or without: a selection set is one
pub whole_selections_tame : (file : FileId) → Nesting (selections file)
unfolding bare_selections
whole_selections_tame file depth = begun_at any_kind any_kind (selections_pick file (suc depth)) no_selection
    k.LeftBrace (branch_tame any_kind any_kind (selections_pick file depth) (selections_pick file (suc depth))
    no_selection (λ kind. choose_tame (only k.LeftBrace kind) (led (selection_set_tame file depth))
    (led (bare_selections_tame file depth))) refl refl refl) (selection_set_tame file depth)
    (selection_set_tame file (suc depth)).law.begun
