-- How deep trees nest: how many `{`, `[` and `(` are open at once at most in the words that spell them.
-- GraphQL specification of October 2021, sections 2 and 3.
use Rattle.std.specs.Prelude.{ℕ, suc, max, List, [], ◌∷◌, map, Option, None, Some}
use Rattle.graphql_nodes.specs.NodeView.{NodeView}
use Rattle.graphql_nodes.specs.declared.type_kind.TypeKind.{TypeKind}
use Rattle.graphql_nodes.specs.declared.type_kind.TypeKind.TheVariants as t
use Rattle.graphql_ast.specs.Declarations.{Declaration, OfType, OfSchema, OfDirective, OfOperation}
use Rattle.graphql_ast.specs.Declarations.{OfFragment, declaration_of}
use Rattle.graphql_ast.specs.Parts.{directive_list}
use Rattle.graphql_ast.specs.declared.definition.Definition.{Definition}
use Rattle.graphql_ast.specs.declared.directive.Argument.{Argument}
use Rattle.graphql_ast.specs.declared.directive.Directive.{Directive}
use Rattle.graphql_ast.specs.declared.directive.DirectiveList.{DirectiveList}
use Rattle.graphql_ast.specs.declared.operation.FragmentDefinition.{FragmentDefinition}
use Rattle.graphql_ast.specs.declared.operation.OperationDefinition.{OperationDefinition}
use Rattle.graphql_ast.specs.declared.operation.VariableDefinition.{VariableDefinition}
use Rattle.graphql_ast.specs.declared.parts.Parts.{Parts}
use Rattle.graphql_ast.specs.declared.selection.Selection.{Selection, fold-Selection}
use Rattle.graphql_ast.specs.declared.selection.Selection.TheOpen.{Field-F, InlineFragment-F, Selection-F}
use Rattle.graphql_ast.specs.declared.type_reference.Type.{«Type» as TypeReference, fold-Type}
use Rattle.graphql_ast.specs.declared.type_reference.Type.TheOpen.{Type-F}
use Rattle.graphql_ast.specs.declared.type_system.EnumValueDefinition.{EnumValueDefinition}
use Rattle.graphql_ast.specs.declared.type_system.FieldDefinition.{FieldDefinition}
use Rattle.graphql_ast.specs.declared.type_system.InputValueDefinition.{InputValueDefinition}
use Rattle.graphql_ast.specs.declared.value.Value.{Value, fold-Value}
use Rattle.graphql_ast.specs.declared.value.Value.TheOpen.{Value-F}

-- the greatest of these numbers, 0 where there is none
abbrev pub greatest : List ℕ → ℕ
greatest [] = 0
greatest (n ∷ ns) = max n (greatest ns)

-- how deep the deepest of these items nests
abbrev pub deepest : {A : Type 0} → (A → ℕ) → List A → ℕ
deepest nesting xs = greatest (map nesting xs)

-- the same between brackets, which are left out where there is no item
abbrev pub between : {A : Type 0} → (A → ℕ) → List A → ℕ
between nesting [] = 0
between nesting (x ∷ xs) = suc (deepest nesting (x ∷ xs))

-- of what may be left out
abbrev pub if_there : {A : Type 0} → (A → ℕ) → Option A → ℕ
if_there nesting None = 0
if_there nesting (Some x) = nesting x

-- of one level of a value: a list or an object has brackets, also around nothing. Section 2.9
abbrev pub value_level : Value-F ℕ → ℕ
value_level (Value-F.List items) = suc (deepest (λ (item : NodeView ℕ). item.value) items)
value_level (Value-F.Object members) = suc (greatest (map (λ m. m.1.value) members))
value_level _ = 0

-- of a value
abbrev pub value_nesting : Value → ℕ
value_nesting = fold-Value ℕ value_level

-- of one level of a type: section 2.11
abbrev pub type_level : Type-F ℕ → ℕ
type_level (Type-F.Named n) = 0
type_level (Type-F.NonNullNamed n) = 0
type_level (Type-F.List inner) = suc inner
type_level (Type-F.NonNullList inner) = suc inner

-- of a type
abbrev pub type_nesting : TypeReference → ℕ
type_nesting = fold-Type ℕ type_level

-- of an argument, and of arguments in their parentheses: section 2.6
abbrev pub argument_nesting : NodeView Argument → ℕ
argument_nesting a = value_nesting a.value.value.value

-- of arguments, in their parentheses
abbrev pub arguments_nesting : List (NodeView Argument) → ℕ
arguments_nesting arguments = between argument_nesting arguments

-- of directives: section 2.12
abbrev pub directive_nesting : NodeView Directive → ℕ
directive_nesting d = arguments_nesting d.value.arguments

-- of directives, one after the other
abbrev pub directives_nesting : DirectiveList → ℕ
directives_nesting l = deepest directive_nesting l.0

-- of one level of selections: sections 2.4 to 2.8
abbrev pub field_level : Field-F ℕ ℕ ℕ → ℕ
field_level f =
    greatest (arguments_nesting f.arguments ∷ directives_nesting f.directives
    ∷ between (λ n. n) f.selection_set ∷ [])

-- of an inline fragment, where that of its selections is known
abbrev pub inline_level : InlineFragment-F ℕ ℕ ℕ → ℕ
inline_level f = greatest (directives_nesting f.directives ∷ between (λ n. n) f.selection_set ∷ [])

-- of a selection, where those of what is in it are known
abbrev pub selection_level : Selection-F ℕ ℕ ℕ → ℕ
selection_level (Selection-F.Field n) = n.value
selection_level (Selection-F.FragmentSpread n) = directives_nesting n.value.directives
selection_level (Selection-F.InlineFragment n) = n.value

-- of a selection
abbrev pub selection_nesting : Selection → ℕ
selection_nesting = fold-Selection ℕ ℕ ℕ selection_level field_level inline_level

-- of selections in their braces
abbrev pub selections_nesting : List Selection → ℕ
selections_nesting xs = between selection_nesting xs

-- of a default value
abbrev pub default_nesting : Option (NodeView Value) → ℕ
default_nesting x = if_there (λ (v : NodeView Value). value_nesting v.value) x

-- of the definition of a variable: section 2.10
abbrev pub variable_nesting : NodeView VariableDefinition → ℕ
variable_nesting v =
    greatest (type_nesting v.value.ty.value ∷ default_nesting v.value.default_value
    ∷ directives_nesting v.value.directives ∷ [])

-- of an operation: section 2.3
abbrev pub operation_nesting : OperationDefinition → ℕ
operation_nesting o =
    greatest (between variable_nesting o.variables ∷ directives_nesting o.directives
    ∷ selections_nesting o.selection_set ∷ [])

-- of a fragment: section 2.8
abbrev pub fragment_nesting : FragmentDefinition → ℕ
fragment_nesting f = greatest (directives_nesting f.directives ∷ selections_nesting f.selection_set ∷ [])

-- of an argument or input field that is defined: sections 3.6.1 and 3.10
abbrev pub input_nesting : NodeView InputValueDefinition → ℕ
input_nesting v =
    greatest (type_nesting v.value.ty.value ∷ default_nesting v.value.default_value
    ∷ directives_nesting v.value.directives ∷ [])

-- of a field that is defined: section 3.6
abbrev pub field_nesting : NodeView FieldDefinition → ℕ
field_nesting f =
    greatest (between input_nesting f.value.arguments ∷ type_nesting f.value.ty
    ∷ directives_nesting f.value.directives ∷ [])

-- of an enum value that is defined: section 3.9
abbrev pub enum_value_nesting : NodeView EnumValueDefinition → ℕ
enum_value_nesting v = directives_nesting v.value.directives

-- of what a type has between braces, behind its directives
abbrev pub body_nesting : {A : Type 0} → DirectiveList → (A → ℕ) → List A → ℕ
body_nesting directives nesting xs = greatest (directives_nesting directives ∷ between nesting xs ∷ [])

-- of what stands behind the name of a type of this kind
abbrev pub parts_nesting : TypeKind → Parts → ℕ
parts_nesting t.Scalar p = directives_nesting (directive_list p)
parts_nesting t.Object p = body_nesting (directive_list p) field_nesting p.fields
parts_nesting t.Interface p = body_nesting (directive_list p) field_nesting p.fields
parts_nesting t.Union p = directives_nesting (directive_list p)
parts_nesting t.Enum p = body_nesting (directive_list p) enum_value_nesting p.values
parts_nesting t.InputObject p = body_nesting (directive_list p) input_nesting p.input_fields

-- of what stands in a definition or extension of the schema
abbrev pub schema_nesting : Parts → ℕ
schema_nesting p = body_nesting (directive_list p) (λ _. 0) p.roots

-- of what says this: section 2.2
abbrev pub declaration_nesting : Declaration → ℕ
declaration_nesting (OfOperation n) = operation_nesting n.value
declaration_nesting (OfFragment n) = fragment_nesting n.value
declaration_nesting (OfDirective n) = between input_nesting n.value.arguments
declaration_nesting (OfSchema s) = schema_nesting s.parts
declaration_nesting (OfType t) = parts_nesting t.kind t.parts

-- of a definition or extension of any sort
abbrev pub definition_nesting : Definition → ℕ
definition_nesting x = declaration_nesting (declaration_of x)

-- of definitions one after the other
abbrev pub document_nesting : List Definition → ℕ
document_nesting xs = deepest definition_nesting xs
