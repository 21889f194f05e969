-- The applied directives of one name: GraphQL specification of October 2021, section 2.12.
use Rattle.std.specs.Prelude.{Bool}
use Rattle.std.specs.Map.Iter.{ShowsInOrder, deref}
use Rattle.graphql_nodes.specs.NameView.{NameView}
use Rattle.graphql_nodes.specs.NodeView.{NodeView}
use Rattle.graphql_nodes.specs.SameText.{same_text}
use Rattle.graphql_ast.specs.declared.directive.Directive.{Directive}

-- the directive has this name
abbrev pub is_called : NameView → NodeView Directive → Bool
is_called name directive = same_text directive.value.name name

-- each run of `next` of an iterator of directives shows what was left, in order
abbrev pub DirectivesInOrder : Type 0
DirectivesInOrder = ShowsInOrder (deref {X = NodeView Directive})
