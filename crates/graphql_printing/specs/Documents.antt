-- The text of definitions and documents: GraphQL specification of October 2021, section 2.2.
--
-- **The text of a tree.** The layout is that of `print` of `graphql-js` 16.6. Lists are `separated` by
-- bytes, and `enclosed` by them too, or `on_lines`, further in. `type_shape` is the one shape of the six
-- kinds, defined or extended. `definition_text` has a flag: a query without name, variables and
-- directives keeps its keyword behind a definition that `takes_braces`.
use Rattle.std.specs.Prelude.{ℕ, Bool, false, List, [], ◌∷◌, ◌++◌, Option, if◌then◌else◌, codes}
use Rattle.graphql_nodes.specs.NameView.{NameView}
use Rattle.graphql_ast.specs.Declarations.{Declaration, OfType, OfSchema, OfDirective, OfOperation}
use Rattle.graphql_ast.specs.Declarations.{OfFragment, declaration_of}
use Rattle.graphql_ast.specs.declared.definition.Definition.{Definition}
use Rattle.graphql_ast.specs.declared.operation.OperationDefinition.{OperationDefinition}
use Rattle.graphql_productions.specs.Documents.{takes_braces}
use Rattle.graphql_printing.specs.Operations.{fragment_definition_text, long_text, operation_definition_text}
use Rattle.graphql_printing.specs.TypeSystem.{described, directive_shape, schema_shape, type_shape}

-- an operation, with its keyword where the flag is set
abbrev pub operation_behind : Bool → OperationDefinition → List ℕ
operation_behind braces operation = if braces then long_text operation
    else operation_definition_text operation

-- what stands in front of what is defined or extended: its description, or `extend`
abbrev pub front_text : Bool → Option NameView → List ℕ
front_text is_extension description = if is_extension then codes "extend " else described 0 description

-- what says this, behind a definition that would take a `{` for its own where the flag is set
abbrev pub declaration_text : Bool → Declaration → List ℕ
declaration_text braces (OfOperation n) = operation_behind braces n.value
declaration_text braces (OfFragment n) = fragment_definition_text n.value
declaration_text braces (OfDirective n) = described 0 n.value.description ++ directive_shape n.value
declaration_text braces (OfSchema s) = front_text s.is_extension s.description ++ schema_shape s.parts
declaration_text braces (OfType t) =
    front_text t.is_extension t.description ++ type_shape t.kind t.name t.parts

-- a definition or extension of any sort, which stands behind one that would take a `{` for its own where the
-- flag is set
abbrev pub definition_text : Bool → Definition → List ℕ
definition_text braces x = declaration_text braces (declaration_of x)

-- definitions, each behind an empty line. Where the flag is set, the first of them stands behind a definition
-- that would take a `{` for its own
abbrev pub definitions_behind : Bool → List Definition → List ℕ
definitions_behind braces [] = []
definitions_behind braces (x ∷ xs) =
    codes "\n\n" ++ definition_text braces x ++ definitions_behind (takes_braces x) xs

-- definitions with an empty line between each two
abbrev pub definitions_text : List Definition → List ℕ
definitions_text [] = []
definitions_text (x ∷ xs) = definition_text false x ++ definitions_behind (takes_braces x) xs
