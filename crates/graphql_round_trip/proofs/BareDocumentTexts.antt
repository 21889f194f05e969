-- The text of operations and fragments says no location.
use Rattle.std.proofs.Common.{◌≡◌, ℕ, List, [], ◌++◌, Option, None, Some, refl, map, option_map, cond, codes}
use Rattle.std.proofs.Common.{◌||◌, ◌∷◌, is_some, Bool, true, false, ◌&&◌, ap, ◌∙◌}
use Rattle.graphql_nodes.specs.Comparing.{bare_name, bare_node}
use Rattle.graphql_nodes.specs.NameView.{NameView}
use Rattle.graphql_nodes.specs.NodeView.{NodeView}
use Rattle.graphql_nodes.specs.OperationTexts.{operation_text}
use Rattle.graphql_nodes.specs.declared.operation_type.OperationType.{OperationType}
use Rattle.graphql_nodes.specs.declared.operation_type.OperationType.TheVariants.{Query}
use Rattle.graphql_ast.specs.Bare.{bare_directive, bare_value}
use Rattle.graphql_ast.specs.BareDocuments.{bare_fragment_definition, bare_operation_definition}
use Rattle.graphql_ast.specs.BareDocuments.{bare_variable_definition, bare_definition}
use Rattle.graphql_ast.specs.declared.directive.Directive.{Directive}
use Rattle.graphql_ast.specs.declared.operation.FragmentDefinition.{FragmentDefinition}
use Rattle.graphql_ast.specs.declared.operation.OperationDefinition.{OperationDefinition}
use Rattle.graphql_ast.specs.declared.operation.VariableDefinition.{VariableDefinition}
use Rattle.graphql_ast.specs.declared.value.Value.{Value}
use Rattle.graphql_printing.specs.Operations.{default_text, fragment_definition_text, is_short, long_text}
use Rattle.graphql_printing.specs.Operations.{operation_definition_text, signature_text, variable_text}
use Rattle.graphql_printing.specs.Operations.{variables_text}
use Rattle.graphql_round_trip.proofs.BareLists.{each, enclosed_stays, on_lines_stay, none_seen}
use Rattle.graphql_round_trip.proofs.BareTexts.{selections_say_no_location, directives_say_no_location}
use Rattle.graphql_round_trip.proofs.BareTexts.{type_says_no_location, value_says_no_location, one_of_bare}
use Rattle.graphql_round_trip.proofs.BareTexts.{one_selections_text, one_type_text, one_value_text}
use Rattle.std.specs.List.{list_any}
use Rattle.graphql_nodes.specs.LocationTexts.{location_text}
use Rattle.graphql_nodes.specs.declared.type_kind.TypeKind.{TypeKind}
use Rattle.graphql_ast.specs.BareDeclarations.{bare_parts, bare_declaration}
use Rattle.graphql_ast.specs.BareTypeSystem.{bare_directive_definition, bare_enum_value_definition}
use Rattle.graphql_ast.specs.BareTypeSystem.{bare_field_definition, bare_input_value_definition}
use Rattle.graphql_ast.specs.BareTypeSystem.{bare_root_operation}
use Rattle.graphql_ast.specs.declared.parts.Parts.{Parts}
use Rattle.graphql_ast.specs.declared.type_system.DirectiveDefinition.{DirectiveDefinition}
use Rattle.graphql_ast.specs.declared.type_system.EnumValueDefinition.{EnumValueDefinition}
use Rattle.graphql_ast.specs.declared.type_system.FieldDefinition.{FieldDefinition}
use Rattle.graphql_ast.specs.declared.type_system.InputValueDefinition.{InputValueDefinition}
use Rattle.graphql_printing.specs.Layout.{braces, separated}
use Rattle.graphql_printing.specs.Texts.{label_text}
use Rattle.graphql_printing.specs.TypeSystem.{argument_definitions_text, behind_name, described}
use Rattle.graphql_printing.specs.TypeSystem.{directive_shape, enum_value_text, field_definition_text}
use Rattle.graphql_printing.specs.TypeSystem.{fielded_text, input_value_text, interfaces_text, keyword_text}
use Rattle.graphql_printing.specs.TypeSystem.{members_text, name_text, repeatable_text, root_text}
use Rattle.graphql_printing.specs.TypeSystem.{schema_shape, takes_lines, type_shape}
use Rattle.graphql_ast.specs.Declarations.{Declaration, OfType, OfSchema, OfDirective, OfOperation}
use Rattle.graphql_ast.specs.Declarations.{OfFragment, declaration_of}
use Rattle.graphql_ast.specs.declared.definition.Definition.{Definition}
use Rattle.graphql_productions.specs.Documents.{declaration_takes_braces, takes_braces}
use Rattle.graphql_productions.specs.TypeSystem.{parts_take}
use Rattle.graphql_printing.specs.Documents.{declaration_text, definition_text, definitions_behind}
use Rattle.graphql_printing.specs.Documents.{definitions_text, front_text, operation_behind}
use Rattle.graphql_nodes.specs.declared.type_kind.TypeKind.TheVariants as t
use Rattle.graphql_ast.specs.declared.definition.Definition.TheVariants as d
use Rattle.graphql_ast.specs.Parts.{directive_list}

-- a default value
pub default_says_no_location : (default : Option (NodeView Value))
    → default_text (option_map (bare_node bare_value) default) ≡ default_text default
default_says_no_location None = refl
default_says_no_location (Some default) = let value = value_says_no_location default.value in λ i. codes " = "
    ++ value i

variable_stays : (v : NodeView VariableDefinition)
    → variable_text (bare_node bare_variable_definition v) ≡ variable_text v
variable_stays v =
    let ty = type_says_no_location v.value.ty.value in
    let default = default_says_no_location v.value.default_value in
    let directives = directives_say_no_location v.value.directives in
    λ i. codes "$" ++ v.value.name.text ++ codes ": " ++ ty i ++ default i ++ directives i

variables_stay : (opening : List ℕ) (xs : List (NodeView VariableDefinition))
    → variables_text opening (map (bare_node bare_variable_definition) xs) ≡ variables_text opening xs
variables_stay opening xs = enclosed_stays (bare_node bare_variable_definition) variable_text variable_text
    opening (codes ", ") (codes ")") xs (each variable_stays xs)

signature_stays : (name : Option NameView) (xs : List (NodeView VariableDefinition))
    → signature_text (option_map bare_name name) (map (bare_node bare_variable_definition) xs)
    ≡ signature_text name xs
signature_stays None xs = variables_stay (codes " (") xs
signature_stays (Some name) xs = let variables = variables_stay (codes "(") xs in λ i. codes " "
    ++ name.text ++ variables i

-- an operation with its keyword
pub long_text_says_no_location : (o : OperationDefinition)
    → long_text (bare_operation_definition o) ≡ long_text o
long_text_says_no_location o =
    let signature = signature_stays o.name o.variables in
    let directives = directives_say_no_location o.directives in
    let selections = selections_say_no_location (codes " {") 0 o.selection_set in
    λ i. operation_text o.operation_type ++ signature i ++ directives i ++ selections i

short_stays : (operation : OperationType) (name : Option NameView)
    (variables : List (NodeView VariableDefinition)) (directives : List (NodeView Directive))
    → is_short operation (option_map bare_name name) (map (bare_node bare_variable_definition) variables)
    (map (bare_node bare_directive) directives) ≡ is_short operation name variables directives
short_stays Query None [] [] = refl
short_stays operation name variables directives = refl

-- an operation
pub operation_says_no_location : (o : OperationDefinition)
    → operation_definition_text (bare_operation_definition o) ≡ operation_definition_text o
operation_says_no_location o =
    let short = short_stays o.operation_type o.name o.variables o.directives.0 in
    let selections = selections_say_no_location (codes "{") 0 o.selection_set in
    let long = long_text_says_no_location o in
    λ i. cond (short i) (selections i) (long i)

-- a fragment
pub fragment_says_no_location : (f : FragmentDefinition)
    → fragment_definition_text (bare_fragment_definition f) ≡ fragment_definition_text f
fragment_says_no_location f =
    let directives = directives_say_no_location f.directives in
    let selections = selections_say_no_location (codes " {") 0 f.selection_set in
    λ i. codes "fragment " ++ f.name.text ++ codes " on " ++ f.type_condition.text ++ directives i
    ++ selections i

-- ---- the text of the type system says no location

-- a description
pub description_says_no_location : (indent : ℕ) (description : Option NameView)
    → described indent (option_map bare_name description) ≡ described indent description
description_says_no_location indent None = refl
description_says_no_location indent (Some text) = refl

-- ---- arguments that are defined, and input fields

input_value_stays : (x : NodeView InputValueDefinition) (indent : ℕ)
    → input_value_text indent (bare_node bare_input_value_definition x) ≡ input_value_text indent x
input_value_stays x indent =
    let description = description_says_no_location indent x.value.description in
    let ty = type_says_no_location x.value.ty.value in
    let default = default_says_no_location x.value.default_value in
    let directives = directives_say_no_location x.value.directives in
    λ i. description i ++ label_text x.value.name ++ ty i ++ default i ++ directives i

lines_stay : (x : NodeView InputValueDefinition)
    → takes_lines (bare_node bare_input_value_definition x) ≡ takes_lines x
lines_stay x = described_or_not x.value.description
  where
    described_or_not : (description : Option NameView)
        → is_some (option_map bare_name description) ≡ is_some description
    described_or_not None = refl
    described_or_not (Some text) = refl

any_lines_stay : (xs : List (NodeView InputValueDefinition))
    → list_any takes_lines (map (bare_node bare_input_value_definition) xs) ≡ list_any takes_lines xs
any_lines_stay [] = refl
any_lines_stay (x ∷ xs) = let first = lines_stay x in let rest = any_lines_stay xs in λ i. first i || rest i

argument_definitions_stay : (indent : ℕ) (xs : List (NodeView InputValueDefinition))
    → argument_definitions_text indent (map (bare_node bare_input_value_definition) xs)
    ≡ argument_definitions_text indent xs
argument_definitions_stay indent xs =
    let any = any_lines_stay xs in
    let lines = on_lines_stay (bare_node bare_input_value_definition) input_value_text input_value_text
    (codes "(") (codes ")") indent xs (each input_value_stays xs) in
    let line = enclosed_stays (bare_node bare_input_value_definition) (input_value_text indent)
    (input_value_text indent) (codes "(") (codes ", ") (codes ")") xs
    (each (λ x. input_value_stays x indent) xs) in
    λ i. cond (any i) (lines i) (line i)

-- ---- what types are made of

field_stays : (x : NodeView FieldDefinition) (indent : ℕ)
    → field_definition_text indent (bare_node bare_field_definition x) ≡ field_definition_text indent x
field_stays x indent =
    let description = description_says_no_location indent x.value.description in
    let arguments = argument_definitions_stay indent x.value.arguments in
    let ty = type_says_no_location x.value.ty in
    let directives = directives_say_no_location x.value.directives in
    λ i. description i ++ x.value.name.text ++ arguments i ++ codes ": " ++ ty i ++ directives i

enum_value_stays : (x : NodeView EnumValueDefinition) (indent : ℕ)
    → enum_value_text indent (bare_node bare_enum_value_definition x) ≡ enum_value_text indent x
enum_value_stays x indent =
    let description = description_says_no_location indent x.value.description in
    let directives = directives_say_no_location x.value.directives in
    λ i. description i ++ x.value.value.text ++ directives i

interfaces_stay : (xs : List NameView) → interfaces_text (map bare_name xs) ≡ interfaces_text xs
interfaces_stay xs = enclosed_stays bare_name name_text name_text (codes " implements ") (codes " & ") [] xs
    (each (λ x. refl) xs)

members_stay : (xs : List NameView) → members_text (map bare_name xs) ≡ members_text xs
members_stay xs = enclosed_stays bare_name name_text name_text (codes " = ") (codes " | ") [] xs
    (each (λ x. refl) xs)

-- what items have for their text between braces, where each item's stays
braces_stay : {A : Type 0} (bare : A → A) (text : ℕ → A → List ℕ)
    → ((x : A) (indent : ℕ) → text indent (bare x) ≡ text indent x) → (xs : List A)
    → braces (codes " {") 0 text (map bare xs) ≡ braces (codes " {") 0 text xs
braces_stay bare text stays xs = on_lines_stay bare text text (codes " {") _ 0 xs (each stays xs)

-- ---- types

fielded_stays : (parts : Parts) → fielded_text (bare_parts parts) ≡ fielded_text parts
fielded_stays parts =
    let interfaces = interfaces_stay parts.names in
    let directives = directives_say_no_location (directive_list parts) in
    let fields = braces_stay (bare_node bare_field_definition) field_definition_text field_stays
    parts.fields in
    λ i. interfaces i ++ directives i ++ fields i

behind_name_stays : (kind : TypeKind) (parts : Parts)
    → behind_name kind (bare_parts parts) ≡ behind_name kind parts
behind_name_stays t.Scalar parts = directives_say_no_location (directive_list parts)
behind_name_stays t.Object parts = fielded_stays parts
behind_name_stays t.Interface parts = fielded_stays parts
behind_name_stays t.Union parts = let directives = directives_say_no_location
    (directive_list parts) in let members = members_stay parts.names in λ i. directives i ++ members i
behind_name_stays t.Enum parts =
    let directives = directives_say_no_location (directive_list parts) in
    let values = braces_stay (bare_node bare_enum_value_definition) enum_value_text enum_value_stays
    parts.values in
    λ i. directives i ++ values i
behind_name_stays t.InputObject parts =
    let directives = directives_say_no_location (directive_list parts) in
    let fields = braces_stay (bare_node bare_input_value_definition) input_value_text input_value_stays
    parts.input_fields in
    λ i. directives i ++ fields i

-- a type of any kind, defined or extended
pub type_shape_says_no_location : (kind : TypeKind) (name : NameView) (parts : Parts)
    → type_shape kind (bare_name name) (bare_parts parts) ≡ type_shape kind name parts
type_shape_says_no_location kind name parts = let behind = behind_name_stays kind parts in λ i. keyword_text
    kind ++ codes " " ++ name.text ++ behind i

-- ---- the schema and directives

-- the schema, defined or extended
pub schema_shape_says_no_location : (parts : Parts) → schema_shape (bare_parts parts) ≡ schema_shape parts
schema_shape_says_no_location parts =
    let directives = directives_say_no_location (directive_list parts) in
    let inside = braces_stay (bare_node bare_root_operation) root_text (λ x indent. refl) parts.roots in
    λ i. codes "schema" ++ directives i ++ inside i

-- a directive that is defined
pub directive_shape_says_no_location : (d : DirectiveDefinition)
    → directive_shape (bare_directive_definition d) ≡ directive_shape d
directive_shape_says_no_location d =
    let arguments = argument_definitions_stay 0 d.arguments in
    λ i. codes "directive @" ++ d.name.text ++ arguments i ++ repeatable_text d.repeatable ++ codes " on "
    ++ separated (codes " | ") location_text d.locations

-- ---- the text of definitions and documents says no location: definitions that differ in locations alone
-- have one text

-- what a definition without locations says is what it says, without them
read_bare : (x : Definition) → declaration_of (bare_definition x) ≡ bare_declaration (declaration_of x)
read_bare (d.OperationDefinition n) = refl
read_bare x = refl

parts_stay : (kind : TypeKind) (parts : Parts) → parts_take kind (bare_parts parts) ≡ parts_take kind parts
parts_stay t.Scalar parts = refl
parts_stay t.Object parts = none_seen _ parts.fields
parts_stay t.Interface parts = none_seen _ parts.fields
parts_stay t.Union parts = refl
parts_stay t.Enum parts = none_seen _ parts.values
parts_stay t.InputObject parts = none_seen _ parts.input_fields

takes_braces_stay : (x : Declaration)
    → declaration_takes_braces (bare_declaration x) ≡ declaration_takes_braces x
takes_braces_stay (OfType t) = parts_stay t.kind t.parts
takes_braces_stay (OfSchema s) = ap (λ (b : Bool). s.is_extension && b) (none_seen _ s.parts.roots)
takes_braces_stay (OfDirective n) = refl
takes_braces_stay (OfOperation n) = refl
takes_braces_stay (OfFragment n) = refl

-- whether a definition would take a `{` for its own
pub braces_say_no_location : (x : Definition) → takes_braces (bare_definition x) ≡ takes_braces x
braces_say_no_location x = ap declaration_takes_braces (read_bare x) ∙ takes_braces_stay _

operation_stays : (braces : Bool) (o : OperationDefinition)
    → operation_behind braces (bare_operation_definition o) ≡ operation_behind braces o
operation_stays true o = long_text_says_no_location o
operation_stays false o = operation_says_no_location o

front_stays : (is_extension : Bool) (description : Option NameView)
    → front_text is_extension (option_map bare_name description) ≡ front_text is_extension description
front_stays true description = refl
front_stays false description = description_says_no_location 0 description

declaration_stays : (braces : Bool) (x : Declaration)
    → declaration_text braces (bare_declaration x) ≡ declaration_text braces x
declaration_stays braces (OfOperation n) = operation_stays braces n.value
declaration_stays braces (OfFragment n) = fragment_says_no_location n.value
declaration_stays braces (OfDirective n) =
    let description = description_says_no_location 0 n.value.description in
    let shape = directive_shape_says_no_location n.value in
    λ i. description i ++ shape i
declaration_stays braces (OfSchema s) =
    let front = front_stays s.is_extension s.description in
    let shape = schema_shape_says_no_location s.parts in
    λ i. front i ++ shape i
declaration_stays braces (OfType t) =
    let front = front_stays t.is_extension t.description in
    let shape = type_shape_says_no_location t.kind t.name t.parts in
    λ i. front i ++ shape i

-- a definition or extension of any sort
pub definition_says_no_location : (braces : Bool) (x : Definition)
    → definition_text braces (bare_definition x) ≡ definition_text braces x
definition_says_no_location braces x = ap (declaration_text braces) (read_bare x)
    ∙ declaration_stays braces (declaration_of x)

behind_stay : (braces other : Bool) → braces ≡ other → (xs : List Definition)
    → definitions_behind braces (map bare_definition xs) ≡ definitions_behind other xs
behind_stay braces other same [] = refl
behind_stay braces other same (x ∷ xs) =
    let first = ap (λ (b : Bool). definition_text b (bare_definition x)) same
    ∙ definition_says_no_location other x in
    let rest = behind_stay (takes_braces (bare_definition x)) (takes_braces x) (braces_say_no_location x)
    xs in
    λ i. codes "\n\n" ++ first i ++ rest i

-- definitions, one after the other
pub definitions_say_no_location : (xs : List Definition)
    → definitions_text (map bare_definition xs) ≡ definitions_text xs
definitions_say_no_location [] = refl
definitions_say_no_location (x ∷ xs) =
    let first = definition_says_no_location false x in
    let rest = behind_stay (takes_braces (bare_definition x)) (takes_braces x) (braces_say_no_location x)
    xs in
    λ i. first i ++ rest i

-- definitions that differ in locations alone have one text
pub one_text : (xs ys : List Definition) → map bare_definition xs ≡ map bare_definition ys
    → definitions_text xs ≡ definitions_text ys
one_text = one_of_bare (map bare_definition) definitions_text definitions_say_no_location

-- whatever tree differs in locations alone
pub ruleset one_text_each = (one_text, one_selections_text, one_type_text, one_value_text)
