-- How many turns a walk took.
use Rattle.std.specs.Prelude.{ℕ, ◌+◌, ◌-◌, Bool, cond}
use Rattle.graphql_nodes.specs.NodeView.{NodeView}
use Rattle.apollo_walks.specs.ToCome.{ToCome}
use Rattle.apollo_executable.specs.declared.selection.Field.{Field}

-- those of the whole walk but those that are left, and one more where memory ran out in it
abbrev pub turns_taken : ToCome (NodeView Field) → ToCome (NodeView Field) → Bool → ℕ
turns_taken whole left refused = (whole.turns - left.turns) + cond refused 1 0
