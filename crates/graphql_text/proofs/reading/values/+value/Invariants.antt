use Rattle.std.proofs.Common.{◌≡◌, ◌+◌, ◌*◌, length}
use Rattle.graphql_grammar.specs.Pieces.{many, with_front}
use Rattle.graphql_grammar.specs.Standing.{standing}
use Rattle.graphql_productions.specs.Values.{member, value_node}
use Rattle.graphql_text.proofs.reading.values.+value.Given as goal

abbrev pub decreases-value_node : goal.decreases-value_node
decreases-value_node l = 8 * l.target.depth + 3

abbrev pub decreases-value : goal.decreases-value
decreases-value l = 8 * l.target.depth + 2

abbrev pub decreases-nested_group : goal.decreases-nested_group
decreases-nested_group l = 8 * l.target.depth + 1

abbrev pub decreases-group : goal.decreases-group
decreases-group l = 8 * l.target.depth + 7

abbrev pub decreases-list : goal.decreases-list
decreases-list l = 8 * l.target.depth + 6

abbrev pub decreases-object : goal.decreases-object
decreases-object l = 8 * l.target.depth + 6

abbrev pub decreases-values : goal.decreases-values
decreases-values l = 8 * l.target.depth + 5

abbrev pub decreases-members : goal.decreases-members
decreases-members l = 8 * l.target.depth + 5

abbrev pub decreases-member : goal.decreases-member
decreases-member l = 8 * l.target.depth + 4

abbrev pub invariant-values-values : goal.invariant-values-values
invariant-values-values l =
    with_front l.values ((many (value_node l.target.file l.target.constant l.target.depth)).read
    (standing l.words)) ≡ (many (value_node l.target.file l.target.constant l.target.depth)).read
    (standing l.fn.words)

abbrev pub decreases-values-values : goal.decreases-values-values
decreases-values-values l = length (standing l.words).left

abbrev pub invariant-members-members : goal.invariant-members-members
invariant-members-members l =
    with_front l.members ((many (member l.target.file (value_node l.target.file l.target.constant
    l.target.depth))).read (standing l.words))
    ≡ (many (member l.target.file (value_node l.target.file l.target.constant l.target.depth))).read
    (standing l.fn.words)

abbrev pub decreases-members-members : goal.decreases-members-members
decreases-members-members l = length (standing l.words).left
