-- A list of directive definitions with what it means, computed. GraphQL specification of October 2021,
-- section 3.13.
use Rattle.std.specs.Prelude.{ℕ, List, [], ◌∷◌, None, Option, false, codes}
use Rattle.graphql_nodes.specs.NodeView.{NodeView}
use Rattle.graphql_nodes.specs.declared.source.SourceSpan.{SourceSpan}
use Rattle.graphql_ast.specs.declared.definition.Definition.{Definition}
use Rattle.graphql_ast.specs.declared.definition.Definition.TheVariants as ast
use Rattle.graphql_ast.specs.declared.type_system.DirectiveDefinition.{DirectiveDefinition}
use Rattle.apollo_meaning.specs.BuiltInNodes.{built_in_location}
use Rattle.apollo_meaning.specs.Faults.Collisions.{Fault}
use Rattle.apollo_meaning.specs.Rows.TypeRows.{line, name_on_line}
use Rattle.apollo_meaning.specs.declared.build_error.BuildError.TheVariants as errors

-- a directive definition of this name, whose name stands on a line, at a location
abbrev pub directive_at : Option SourceSpan → List ℕ → ℕ → NodeView DirectiveDefinition
directive_at location text n =
    record {
      value = record {
        description = None;
        name = name_on_line text n;
        arguments = [];
        repeatable = false;
        locations = [];
      };
      location = location;
    }

-- two built-in directives; then the first of them is defined again, and a third time, and another one once
abbrev pub directives_replaced : List Definition
directives_replaced =
    ast.DirectiveDefinition (directive_at built_in_location (codes "a") 1)
    ∷ ast.DirectiveDefinition (directive_at built_in_location (codes "b") 2)
    ∷ ast.DirectiveDefinition (directive_at (line 3) (codes "a") 3)
    ∷ ast.DirectiveDefinition (directive_at (line 4) (codes "a") 4)
    ∷ ast.DirectiveDefinition (directive_at (line 5) (codes "c") 5)
    ∷ []

-- the fault of the third one
abbrev pub replaced_twice : List Fault
replaced_twice = (line 4, errors.DirectiveDefinitionCollision (line 3) (name_on_line (codes "a") 4)) ∷ []
