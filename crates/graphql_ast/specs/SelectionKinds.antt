-- A selection as one of each kind, where it stands, and its directives: GraphQL specification of October
-- 2021, sections 2.4 to 2.8.
use Rattle.std.specs.Prelude.{Option, None, Some}
use Rattle.graphql_nodes.specs.NodeView.{NodeView}
use Rattle.graphql_nodes.specs.declared.source.SourceSpan.{SourceSpan}
use Rattle.graphql_ast.specs.declared.directive.DirectiveList.{DirectiveList}
use Rattle.graphql_ast.specs.declared.selection.Selection.{Selection, out-Selection}
use Rattle.graphql_ast.specs.declared.selection.Selection.TheOpen.{Selection-F}
use Rattle.graphql_ast.specs.declared.selection.Field.{Field}
use Rattle.graphql_ast.specs.declared.selection.InlineFragment.{InlineFragment}
use Rattle.graphql_ast.specs.declared.selection.FragmentSpread.{FragmentSpread}

-- a selection, opened
abbrev pub Opened : Type 0
Opened = Selection-F Selection Field InlineFragment

-- where a selection of any kind stands, opened
abbrev pub opened_location : Opened → Option SourceSpan
opened_location (Selection-F.Field n) = n.location
opened_location (Selection-F.FragmentSpread n) = n.location
opened_location (Selection-F.InlineFragment n) = n.location

-- where a selection stands
abbrev pub selection_location : Selection → Option SourceSpan
selection_location s = opened_location (out-Selection s)

-- the directives of a selection of any kind, opened
abbrev pub opened_directives : Opened → DirectiveList
opened_directives (Selection-F.Field n) = n.value.directives
opened_directives (Selection-F.FragmentSpread n) = n.value.directives
opened_directives (Selection-F.InlineFragment n) = n.value.directives

-- the directives of a selection
abbrev pub selection_directives : Selection → DirectiveList
selection_directives s = opened_directives (out-Selection s)

-- the field that a selection is, opened
abbrev pub opened_field : Opened → Option (NodeView Field)
opened_field (Selection-F.Field n) = Some n
opened_field _ = None

-- a selection as a field, if it is one
abbrev pub as_field : Selection → Option (NodeView Field)
as_field s = opened_field (out-Selection s)

-- the inline fragment that a selection is, opened
abbrev pub opened_inline_fragment : Opened → Option (NodeView InlineFragment)
opened_inline_fragment (Selection-F.InlineFragment n) = Some n
opened_inline_fragment _ = None

-- a selection as an inline fragment, if it is one
abbrev pub as_inline_fragment : Selection → Option (NodeView InlineFragment)
as_inline_fragment s = opened_inline_fragment (out-Selection s)

-- the spread that a selection is, opened
abbrev pub opened_fragment_spread : Opened → Option (NodeView FragmentSpread)
opened_fragment_spread (Selection-F.FragmentSpread n) = Some n
opened_fragment_spread _ = None

-- a selection as a spread of a fragment, if it is one
abbrev pub as_fragment_spread : Selection → Option (NodeView FragmentSpread)
as_fragment_spread s = opened_fragment_spread (out-Selection s)
