-- What `==` compares of components: values, without locations and origins. GraphQL specification of October
-- 2021, sections 3.3 to 3.10.
use Rattle.std.specs.Prelude.{ℕ, List, Option, map, option_map}
use Rattle.graphql_nodes.specs.NameView.{NameView}
use Rattle.graphql_nodes.specs.Comparing.{bare_name}
use Rattle.graphql_ast.specs.Bare.{bare_directive}
use Rattle.graphql_ast.specs.declared.directive.Directive.{Directive}
use Rattle.apollo_component.specs.Extensions.{number_of, id_of}
use Rattle.apollo_component.specs.declared.component.Component.{Component}
use Rattle.apollo_component.specs.declared.component.ComponentName.{ComponentName}
use Rattle.apollo_component.specs.declared.directive_list.DirectiveList.{DirectiveList}
use Rattle.apollo_component.specs.declared.extension.ComponentOrigin.{ComponentOrigin}

-- the value of a component
abbrev pub bare_component : {A B : Type 0} → (A → B) → Component A → B
bare_component f c = f c.node.value

-- a name that a type lists, without its location and origin
abbrev pub bare_component_name : ComponentName → NameView
bare_component_name c = bare_name c.name

-- directives, in order, without locations and origins
abbrev pub bare_directives : DirectiveList → List Directive
bare_directives l = map (bare_component bare_directive) l.0

-- the number of the extension that an origin is, if it is one
abbrev pub bare_origin : ComponentOrigin → Option ℕ
bare_origin o = option_map number_of (id_of o)
