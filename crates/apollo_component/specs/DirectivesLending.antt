-- What may be written to a list of applied directives, and what becomes of it then: GraphQL specification of
-- October 2021, section 2.12.
use Rattle.std.specs.Prelude.{List}
use Rattle.std.specs.Borrow.{Lends, follows, MutBor, Fml, Array}
use Rattle.std.specs.declared.slice.IterMut.{IterMut}
use Rattle.std.specs.Slice.Iter.{iter_mut_name}
use Rattle.graphql_nodes.specs.ItemsLending.{written_over}
use Rattle.graphql_nodes.specs.contracts.collections.items.Items as items
use Rattle.graphql_ast.specs.declared.directive.Directive.{Directive}
use Rattle.graphql_ast.specs.contracts.directive.Directive as directive
use Rattle.apollo_component.specs.declared.component.Component.{Component}
use Rattle.apollo_component.specs.contracts.component.Component as component
use Rattle.apollo_component.specs.declared.directive_list.DirectiveList.{DirectiveList}
use Rattle.apollo_component.specs.contracts.directive_list.DirectiveList.{the_row}

-- once the borrow r ends, the list has the directives that were written last
abbrev pub LendsDirectives : MutBor DirectiveList → MutBor (List (Component Directive)) → Fml
LendsDirectives list r =
    Lends the_row (items.the_row (component.the_row directive.the_row)) list r
    (λ directives. record { 0 = directives })

-- once the walk ends, the list has the directives that were written last
abbrev pub LendsEachDirective : MutBor DirectiveList → IterMut (Component Directive) → Fml
LendsEachDirective list walk =
    follows the_row (Array (component.the_row directive.the_row) 0) list.ghost_name (iter_mut_name walk)
    (λ written. record { 0 = written_over list.now.0 written })
