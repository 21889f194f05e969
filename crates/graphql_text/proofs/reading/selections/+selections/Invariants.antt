use Rattle.std.proofs.Common.{◌≡◌, ◌+◌, ◌*◌, length}
use Rattle.graphql_grammar.specs.Pieces.{many, with_front}
use Rattle.graphql_grammar.specs.Standing.{standing}
use Rattle.graphql_productions.specs.Selections.{selection, selection_set}
use Rattle.graphql_text.proofs.reading.selections.+selections.Given as goal

abbrev pub decreases-selections : goal.decreases-selections
decreases-selections l = 8 * l.target.depth + 7

abbrev pub decreases-some_selections : goal.decreases-some_selections
decreases-some_selections l = 8 * l.target.depth + 6

abbrev pub decreases-push_selections : goal.decreases-push_selections
decreases-push_selections l = 8 * l.target.depth + 5

abbrev pub decreases-selection : goal.decreases-selection
decreases-selection l = 8 * l.target.depth + 4

abbrev pub decreases-field_selection : goal.decreases-field_selection
decreases-field_selection l = 8 * l.target.depth + 3

abbrev pub decreases-fragment : goal.decreases-fragment
decreases-fragment l = 8 * l.target.depth + 3

abbrev pub decreases-field : goal.decreases-field
decreases-field l = 8 * l.target.depth + 2

abbrev pub decreases-inline_body : goal.decreases-inline_body
decreases-inline_body l = 8 * l.target.depth + 2

abbrev pub decreases-optional_set : goal.decreases-optional_set
decreases-optional_set l = 8 * l.target.depth + 1

abbrev pub decreases-selection_set : goal.decreases-selection_set
decreases-selection_set l = 8 * l.target.depth + 0

abbrev pub invariant-push_selections-selections : goal.invariant-push_selections-selections
invariant-push_selections-selections l =
    with_front l.selections
    ((many (selection l.target.file l.target.depth (selection_set l.target.file l.target.depth))).read
    (standing l.words)) ≡ with_front l.initial.selections
    ((many (selection l.target.file l.target.depth (selection_set l.target.file l.target.depth))).read
    (standing l.fn.words))

abbrev pub decreases-push_selections-selections : goal.decreases-push_selections-selections
decreases-push_selections-selections l = length (standing l.words).left
