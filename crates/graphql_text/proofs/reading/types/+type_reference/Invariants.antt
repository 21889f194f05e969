use Rattle.std.proofs.Common.{◌+◌, ◌*◌}
use Rattle.graphql_text.proofs.reading.types.+type_reference.Given as goal

abbrev pub decreases-type_reference : goal.decreases-type_reference
decreases-type_reference l = 4 * l.target.depth + 2

abbrev pub decreases-nullable_type : goal.decreases-nullable_type
decreases-nullable_type l = 4 * l.target.depth + 1

abbrev pub decreases-nested_list_type : goal.decreases-nested_list_type
decreases-nested_list_type l = 4 * l.target.depth + 0

abbrev pub decreases-list_type : goal.decreases-list_type
decreases-list_type l = 4 * l.target.depth + 3
