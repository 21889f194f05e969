-- What is wrong with definitions that are of no type and not of the schema: GraphQL specification of October
-- 2021, sections 2.2, 3, 3.3 and 3.13.
--
-- **Repeated directive definition.** `directive_faults`: a definition is at fault if a definition of its
-- name that is handed in stands before it. `DirectiveDefinitionCollision`, at its name, with its name
-- and the location of the name of the first such one.
--
-- **Executable definition.** `other_faults`: an operation or a fragment. `ExecutableDefinition`, at the
-- node, with the text of what it is (as `an operation definition`).
use Rattle.std.specs.Prelude.{List, [], ◌∷◌, ◌&&◌}
use Rattle.std.specs.Option.{option_map_or}
use Rattle.std.specs.List.{find}
use Rattle.graphql_nodes.specs.NodeView.{NodeView}
use Rattle.graphql_ast.specs.declared.definition.Definition.{Definition}
use Rattle.graphql_ast.specs.declared.type_system.DirectiveDefinition.{DirectiveDefinition}
use Rattle.graphql_ast.specs.DefinitionTexts.{definition_text}
use Rattle.apollo_meaning.specs.Faults.Collisions.{Fault}
use Rattle.apollo_meaning.specs.Directives.{Directives, has_text, is_handed_in}
use Rattle.apollo_meaning.specs.declared.build_error.BuildError.TheVariants as errors
use Rattle.graphql_ast.specs.declared.definition.Definition.TheVariants as ast

-- what is wrong with a directive definition that stands after these: it is dropped where one of its name was
-- handed in before
abbrev pub directive_faults : Directives → NodeView DirectiveDefinition → List Fault
directive_faults ds d = option_map_or
    (λ kept. (
      d.value.name.location,
      errors.DirectiveDefinitionCollision kept.value.name.location d.value.name,
    ) ∷ [])
    (find (λ e. has_text d.value.name.text e && is_handed_in e) ds) []

-- what is wrong with something else than a definition or extension of a type or the schema, after these
-- directive definitions
abbrev pub other_faults : Directives → Definition → List Fault
other_faults ds (ast.DirectiveDefinition n) = directive_faults ds n
other_faults ds (ast.OperationDefinition n) =
    (n.location, errors.ExecutableDefinition (definition_text (ast.OperationDefinition n))) ∷ []
other_faults ds (ast.FragmentDefinition n) =
    (n.location, errors.ExecutableDefinition (definition_text (ast.FragmentDefinition n))) ∷ []
other_faults ds d = []
