-- Whether each set of which the grammar wants one selection at least has one: those of operations, fragments
-- and inline fragments. A field may have none. GraphQL specification of October 2021, sections 2.3, 2.4, 2.8
-- and 2.8.2.
use Rattle.std.specs.Prelude.{◌≡◌, Bool, true, not, ◌&&◌, List}
use Rattle.std.specs.List.{AllByRecursion, list_all}
use Rattle.graphql_nodes.specs.Tables.{values_of}
use Rattle.graphql_productions.specs.TypeSystem.{is_none}
use Rattle.apollo_executable.specs.Operations.{all_operations}
use Rattle.apollo_executable.specs.declared.document.ExecutableDocument.{ExecutableDocument}
use Rattle.apollo_executable.specs.declared.selection.Field.{Field}
use Rattle.apollo_executable.specs.declared.selection.InlineFragment.{InlineFragment}
use Rattle.apollo_executable.specs.declared.selection.Selection.{Selection, fold-Selection}
use Rattle.apollo_executable.specs.declared.selection.Selection.TheFolds.{fold-Field, fold-InlineFragment}
use Rattle.apollo_executable.specs.declared.selection.Selection.TheFolds.{fold-SelectionSet}
use Rattle.apollo_executable.specs.declared.selection.Selection.TheOpen.{Selection-F, Field-F}
use Rattle.apollo_executable.specs.declared.selection.Selection.TheOpen.{InlineFragment-F, SelectionSet-F}
use Rattle.apollo_executable.specs.declared.selection.SelectionSet.{SelectionSet}

-- whether all that the grammar wants is there, for each selection of a set
abbrev pub Each : Type 0
Each = List Bool

-- each of these selections has all that is wanted
abbrev pub all_there : Each → Bool
all_there selections = list_all (λ there. there) selections

-- there is one selection at least, and each has all that is wanted
abbrev pub some_there : Each → Bool
some_there selections = not (is_none selections) && all_there selections

-- one level of a selection: a spread wants nothing
abbrev pub selection_step : Selection-F Bool Bool Bool Each → Bool
selection_step (Selection-F.Field n) = n.value
selection_step (Selection-F.FragmentSpread n) = true
selection_step (Selection-F.InlineFragment n) = n.value

-- one level of a field: its set may be empty
abbrev pub field_step : Field-F Bool Bool Bool Each → Bool
field_step f = all_there f.selection_set

-- one level of an inline fragment: its set is not empty
abbrev pub inline_step : InlineFragment-F Bool Bool Bool Each → Bool
inline_step f = some_there f.selection_set

-- one level of a set
abbrev pub set_step : SelectionSet-F Bool Bool Bool Each → Each
set_step s = s.selections

-- no inline fragment is empty that a selection is or has, all the way down
abbrev pub is_filled : Selection → Bool
is_filled = fold-Selection Bool Bool Bool Each selection_step field_step inline_step set_step

-- none that a field has
abbrev pub is_filled_field : Field → Bool
is_filled_field = fold-Field Bool Bool Bool Each selection_step field_step inline_step set_step

-- none that an inline fragment is or has
abbrev pub is_filled_inline_fragment : InlineFragment → Bool
is_filled_inline_fragment =
    fold-InlineFragment Bool Bool Bool Each selection_step field_step inline_step set_step

-- of each selection of a set, whether it is filled
abbrev pub each_filled : SelectionSet → Each
each_filled = fold-SelectionSet Bool Bool Bool Each selection_step field_step inline_step set_step

-- a set is not empty, and no inline fragment in it is, all the way down
abbrev pub is_filled_set : SelectionSet → Bool
is_filled_set s = some_there (each_filled s)

-- no operation, fragment or inline fragment of a document was left without a selection
pub record IsFilledDocument (document : ExecutableDocument) : Type 0 where
  pub operations : AllByRecursion (λ n. is_filled_set n.value.selection_set
      ≡ true) (all_operations document.operations)
  pub fragments : AllByRecursion (λ n. is_filled_set n.value.selection_set
      ≡ true) (values_of document.fragments)
