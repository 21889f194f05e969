-- What stands in a definition or extension of a type or of the schema, whatever its kind, by sort: GraphQL
-- specification of October 2021, sections 3.3 and 3.5 to 3.10.
use Rattle.std.specs.Prelude.{Bool, true, false, List, [], ◌∷◌, ◌++◌, Option, None, Some, if◌then◌else◌}
use Rattle.std.specs.List.{filter_map}
use Rattle.graphql_nodes.specs.NameView.{NameView}
use Rattle.graphql_nodes.specs.NodeView.{NodeView}
use Rattle.graphql_nodes.specs.declared.operation_type.OperationType.{OperationType}
use Rattle.graphql_nodes.specs.declared.type_kind.TypeKind.{TypeKind}
use Rattle.graphql_nodes.specs.declared.type_kind.TypeKind.TheVariants as k
use Rattle.graphql_ast.specs.declared.directive.Directive.{Directive}
use Rattle.graphql_ast.specs.declared.directive.DirectiveList.{DirectiveList}
use Rattle.graphql_ast.specs.declared.parts.Part.{Part}
use Rattle.graphql_ast.specs.declared.parts.Part.TheVariants as part
use Rattle.graphql_ast.specs.declared.parts.Parts.{Parts}
use Rattle.graphql_ast.specs.declared.type_system.EnumValueDefinition.{EnumValueDefinition}
use Rattle.graphql_ast.specs.declared.type_system.FieldDefinition.{FieldDefinition}
use Rattle.graphql_ast.specs.declared.type_system.InputValueDefinition.{InputValueDefinition}

-- the sorts of parts: directives; interfaces or members; fields of object and interface types; enum values;
-- fields of input object types; roots of the schema
pub data Sort : Type 0 where
  Directives Names Fields Values InputFields Roots : Sort

-- what a list of this sort holds
abbrev pub Item : Sort → Type 0
Item Directives = NodeView Directive
Item Names = NameView
Item Fields = NodeView FieldDefinition
Item Values = NodeView EnumValueDefinition
Item InputFields = NodeView InputValueDefinition
Item Roots = NodeView (OperationType × NameView)

-- every sort, in the order in which text and write-outs have them
abbrev pub sorts : List Sort
sorts = Directives ∷ Names ∷ Fields ∷ Values ∷ InputFields ∷ Roots ∷ []

-- the parts of this sort, in order
abbrev pub listed : Parts → (s : Sort) → List (Item s)
listed parts Directives = parts.directives
listed parts Names = parts.names
listed parts Fields = parts.fields
listed parts Values = parts.values
listed parts InputFields = parts.input_fields
listed parts Roots = parts.roots

-- the directives, as what a definition is made of
abbrev pub directive_list : Parts → DirectiveList
directive_list parts = record { 0 = parts.directives }

-- the parts whose list of each sort is given
abbrev pub with_lists : ((s : Sort) → List (Item s)) → Parts
with_lists lists = record {
  directives = lists Directives;
  names = lists Names;
  fields = lists Fields;
  values = lists Values;
  input_fields = lists InputFields;
  roots = lists Roots;
}

-- one of this sort as a part
abbrev pub part_of : (s : Sort) → Item s → Part
part_of Directives x = part.Directive x
part_of Names x = part.Name x
part_of Fields x = part.Field x
part_of Values x = part.EnumValue x
part_of InputFields x = part.InputField x
part_of Roots x = part.Root x

-- what a part is, if it is of this sort
abbrev pub of_sort : (s : Sort) → Part → Option (Item s)
of_sort Directives (part.Directive x) = Some x
of_sort Names (part.Name x) = Some x
of_sort Fields (part.Field x) = Some x
of_sort Values (part.EnumValue x) = Some x
of_sort InputFields (part.InputField x) = Some x
of_sort Roots (part.Root x) = Some x
of_sort _ _ = None

-- no part
abbrev pub no_parts : Parts
no_parts = with_lists (λ s. [])

-- these parts, each sort in order
abbrev pub parts_of : List Part → Parts
parts_of parts = with_lists (λ s. filter_map (of_sort s) parts)

-- one more at the end, if there is one
abbrev pub with_some : {X : Type 0} → Option X → List X → List X
with_some None xs = xs
with_some (Some x) xs = xs ++ x ∷ []

-- one part more, the last of its sort
abbrev pub with_part : Part → Parts → Parts
with_part part parts = with_lists (λ s. with_some (of_sort s part) (listed parts s))

-- these directives alone
abbrev pub directed : DirectiveList → Parts
directed directives = record no_parts { directives = directives.0 }

-- these interfaces, directives and fields
abbrev pub fielded : List NameView → DirectiveList → List (NodeView FieldDefinition) → Parts
fielded interfaces directives fields = record (directed directives) { names = interfaces; fields = fields }

-- whether definitions and extensions of types of this kind have parts of this sort
abbrev pub has : TypeKind → Sort → Bool
has _ Directives = true
has k.Object Names = true
has k.Object Fields = true
has k.Interface Names = true
has k.Interface Fields = true
has k.Union Names = true
has k.Enum Values = true
has k.InputObject InputFields = true
has _ _ = false

-- the parts that definitions and extensions of types of this kind have
abbrev pub of_type : TypeKind → Parts → Parts
of_type kind parts = with_lists (λ s. if has kind s then listed parts s else [])

-- whether definitions and extensions of the schema have parts of this sort
abbrev pub schema_has : Sort → Bool
schema_has Directives = true
schema_has Roots = true
schema_has _ = false

-- the parts that definitions and extensions of the schema have
abbrev pub of_schema : Parts → Parts
of_schema parts = with_lists (λ s. if schema_has s then listed parts s else [])
