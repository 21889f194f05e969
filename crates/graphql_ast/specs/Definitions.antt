-- What a definition names, where it stands, and the kind of its type: GraphQL specification of October 2021,
-- sections 2.2 and 3.4.
use Rattle.std.specs.Prelude.{Option, None, Some}
use Rattle.graphql_nodes.specs.NameView.{NameView}
use Rattle.graphql_nodes.specs.declared.source.SourceSpan.{SourceSpan}
use Rattle.graphql_nodes.specs.declared.type_kind.TypeKind.{TypeKind}
use Rattle.graphql_ast.specs.Declarations.{Declaration, OfType, OfSchema, OfDirective, OfOperation}
use Rattle.graphql_ast.specs.Declarations.{OfFragment, declaration_of}
use Rattle.graphql_ast.specs.declared.definition.Definition.{Definition}

-- the name of what is defined or extended
abbrev pub declared_name : Declaration → Option NameView
declared_name (OfType t) = Some t.name
declared_name (OfSchema s) = None
declared_name (OfDirective n) = Some n.value.name
declared_name (OfOperation n) = n.value.name
declared_name (OfFragment n) = Some n.value.name

-- where what says this stands
abbrev pub declared_location : Declaration → Option SourceSpan
declared_location (OfType t) = t.location
declared_location (OfSchema s) = s.location
declared_location (OfDirective n) = n.location
declared_location (OfOperation n) = n.location
declared_location (OfFragment n) = n.location

-- the kind of the type that is defined or extended
abbrev pub declared_kind : Declaration → Option TypeKind
declared_kind (OfType t) = Some t.kind
declared_kind _ = None

-- the name of what a definition defines or extends
abbrev pub definition_name : Definition → Option NameView
definition_name d = declared_name (declaration_of d)

-- where a definition stands
abbrev pub definition_location : Definition → Option SourceSpan
definition_location d = declared_location (declaration_of d)

-- the kind of the type that a definition defines or extends
abbrev pub definition_kind : Definition → Option TypeKind
definition_kind d = declared_kind (declaration_of d)
