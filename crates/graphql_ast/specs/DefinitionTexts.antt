-- What messages call definitions: GraphQL specification of October 2021, sections 2.2 and 3.
use Rattle.std.specs.Prelude.{ℕ, List, codes, if◌then◌else◌}
use Rattle.graphql_nodes.specs.KindTexts.{kind_definition_text, kind_extension_text}
use Rattle.graphql_ast.specs.Declarations.{Declaration, OfType, OfSchema, OfDirective, OfOperation}
use Rattle.graphql_ast.specs.Declarations.{OfFragment, declaration_of}
use Rattle.graphql_ast.specs.declared.definition.Definition.{Definition}

-- what messages call what says this
abbrev pub declared_text : Declaration → List ℕ
declared_text (OfType t) =
    if t.is_extension then kind_extension_text t.kind else kind_definition_text t.kind
declared_text (OfSchema s) =
    if s.is_extension then codes "a schema extension" else codes "a schema definition"
declared_text (OfDirective n) = codes "a directive definition"
declared_text (OfOperation n) = codes "an operation definition"
declared_text (OfFragment n) = codes "a fragment definition"

-- what messages call a definition or extension
abbrev pub definition_text : Definition → List ℕ
definition_text d = declared_text (declaration_of d)
