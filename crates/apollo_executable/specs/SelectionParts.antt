-- Parts of typed selections: GraphQL specification of October 2021, sections 2.4 to 2.8.
use Rattle.std.specs.Prelude.{Option, None, Some}
use Rattle.std.specs.Map.Iter.{ShowsInOrder, deref}
use Rattle.graphql_nodes.specs.NameView.{NameView}
use Rattle.graphql_nodes.specs.NodeView.{NodeView}
use Rattle.graphql_ast.specs.declared.directive.DirectiveList.{DirectiveList}
use Rattle.apollo_executable.specs.declared.selection.Selection.{Selection, out-Selection}
use Rattle.apollo_executable.specs.declared.selection.Selection.TheOpen.{Selection-F}
use Rattle.apollo_executable.specs.declared.selection.Field.{Field}
use Rattle.apollo_executable.specs.declared.selection.InlineFragment.{InlineFragment}
use Rattle.apollo_executable.specs.declared.selection.SelectionSet.{SelectionSet}
use Rattle.apollo_executable.specs.declared.selection.FragmentSpread.{FragmentSpread}

-- the alias, or else the name
abbrev pub response_key_of : Option NameView → NameView → NameView
response_key_of (Some alias) name = alias
response_key_of None name = name

-- the key of a field in a response
abbrev pub response_key : Field → NameView
response_key f = response_key_of f.alias f.name

-- a node of this value, without a location
abbrev pub without_location : {T : Type 0} → T → NodeView T
without_location value = record { value = value; location = None }

-- a selection, opened
abbrev pub Opened : Type 0
Opened = Selection-F Selection Field InlineFragment SelectionSet

-- the directives of a selection of any kind
abbrev pub opened_directives : Opened → DirectiveList
opened_directives (Selection-F.Field n) = n.value.directives
opened_directives (Selection-F.FragmentSpread n) = n.value.directives
opened_directives (Selection-F.InlineFragment n) = n.value.directives

-- the directives of a selection
abbrev pub directives_of : Selection → DirectiveList
directives_of s = opened_directives (out-Selection s)

-- the field that a selection is, if it is one
abbrev pub opened_field : Opened → Option (NodeView Field)
opened_field (Selection-F.Field n) = Some n
opened_field _ = None

-- a selection as a field, if it is one
abbrev pub as_field : Selection → Option (NodeView Field)
as_field s = opened_field (out-Selection s)

-- the spread that a selection is, if it is one
abbrev pub opened_fragment_spread : Opened → Option (NodeView FragmentSpread)
opened_fragment_spread (Selection-F.FragmentSpread n) = Some n
opened_fragment_spread _ = None

-- as a spread
abbrev pub as_fragment_spread : Selection → Option (NodeView FragmentSpread)
as_fragment_spread s = opened_fragment_spread (out-Selection s)

-- the inline fragment that a selection is, if it is one
abbrev pub opened_inline_fragment : Opened → Option (NodeView InlineFragment)
opened_inline_fragment (Selection-F.InlineFragment n) = Some n
opened_inline_fragment _ = None

-- as an inline fragment
abbrev pub as_inline_fragment : Selection → Option (NodeView InlineFragment)
as_inline_fragment s = opened_inline_fragment (out-Selection s)

-- each run over the fields of a set gives them in order
abbrev pub FieldsInOrder : Type 0
FieldsInOrder = ShowsInOrder (deref {X = NodeView Field})
