-- What reports and JSON say of the faults of schemas besides their sentences.
use Rattle.std.specs.Prelude.{ℕ, List, [], ◌∷◌, Option, codes}
use Rattle.graphql_nodes.specs.NameView.{NameView}
use Rattle.graphql_nodes.specs.declared.source.SourceSpan.{SourceSpan}
use Rattle.apollo_meaning.specs.declared.build_error.BuildError.{BuildError}
use Rattle.apollo_meaning.specs.declared.build_error.BuildError.TheVariants as e
use Rattle.apollo_reporting.specs.Abouts.{AboutView, of_earlier, of_kind}
use Rattle.apollo_reporting.specs.Details.{one_text, place_detail, text_detail, two_texts}
use Rattle.apollo_reporting.specs.declared.detail.Detail.{Detail}

-- a thing that is kept was defined before
abbrev pub first_defined : List ℕ → Option SourceSpan → AboutView
first_defined kind location = of_earlier kind (codes "first defined here") location

-- a name stands in a list before
abbrev pub first_listed : List ℕ → Option SourceSpan → AboutView
first_listed kind location = of_earlier kind (codes "first listed here") location

-- a part of a type was defined before, or a name listed, under this name
abbrev pub part_defined : List ℕ → NameView → AboutView
part_defined kind kept = first_defined kind kept.location

abbrev pub name_listed : List ℕ → NameView → AboutView
name_listed kind kept = first_listed kind kept.location

-- the name of the variant, and the place of what is kept, or of the definition of another kind
abbrev pub schema_fault_about : BuildError → AboutView
schema_fault_about (e.ExecutableDefinition _) = of_kind (codes "ExecutableDefinition")
schema_fault_about (e.SchemaDefinitionCollision previous) =
    first_defined (codes "SchemaDefinitionCollision") previous
schema_fault_about (e.DirectiveDefinitionCollision previous _) =
    first_defined (codes "DirectiveDefinitionCollision") previous
schema_fault_about (e.TypeDefinitionCollision previous _) =
    first_defined (codes "TypeDefinitionCollision") previous
schema_fault_about e.BuiltInScalarTypeRedefinition = of_kind (codes "BuiltInScalarTypeRedefinition")
schema_fault_about e.OrphanSchemaExtension = of_kind (codes "OrphanSchemaExtension")
schema_fault_about (e.OrphanTypeExtension _) = of_kind (codes "OrphanTypeExtension")
schema_fault_about (e.TypeExtensionKindMismatch _ _ definition _) =
    of_earlier (codes "TypeExtensionKindMismatch") (codes "defined here") definition
schema_fault_about (e.DuplicateRootOperation previous _) =
    first_defined (codes "DuplicateRootOperation") previous
schema_fault_about (e.DuplicateImplementsInterfaceInObject kept _) =
    name_listed (codes "DuplicateImplementsInterfaceInObject") kept
schema_fault_about (e.DuplicateImplementsInterfaceInInterface kept _) =
    name_listed (codes "DuplicateImplementsInterfaceInInterface") kept
schema_fault_about (e.ObjectFieldNameCollision kept _) = part_defined (codes "ObjectFieldNameCollision") kept
schema_fault_about (e.InterfaceFieldNameCollision kept _) =
    part_defined (codes "InterfaceFieldNameCollision") kept
schema_fault_about (e.EnumValueNameCollision kept _) = part_defined (codes "EnumValueNameCollision") kept
schema_fault_about (e.UnionMemberNameCollision kept _) = name_listed (codes "UnionMemberNameCollision") kept
schema_fault_about (e.InputFieldNameCollision kept _) = part_defined (codes "InputFieldNameCollision") kept

-- the place of the thing that is kept, where it is known
abbrev pub previous_detail : Option SourceSpan → Detail
previous_detail location = place_detail (codes "previous_location") location

-- the place of the thing that is kept, and a text under a name
abbrev pub previous_and_text : Option SourceSpan → List ℕ → List ℕ → List Detail
previous_and_text previous name text = previous_detail previous ∷ one_text name text

-- what is extended as another kind: its name, the extension's kind, and the definition's place and kind
abbrev pub kind_details : List ℕ → List ℕ → Option SourceSpan → List ℕ → List Detail
kind_details name extension location definition =
    text_detail (codes "name") name ∷ text_detail (codes "describe_ext") extension
    ∷ place_detail (codes "def_location") location ∷ one_text (codes "describe_def") definition

-- the name of a part that a type has already, and the name of the type
abbrev pub part_and_type : NameView → NameView → List Detail
part_and_type kept ty = two_texts (codes "name_at_previous_location") kept.text (codes "type_name") ty.text

-- the fields of the variant by their names, in order
abbrev pub schema_fault_details : BuildError → List Detail
schema_fault_details (e.ExecutableDefinition describe) = one_text (codes "describe") describe
schema_fault_details (e.SchemaDefinitionCollision previous) = previous_detail previous ∷ []
schema_fault_details (e.DirectiveDefinitionCollision previous name) =
    previous_and_text previous (codes "name") name.text
schema_fault_details (e.TypeDefinitionCollision previous name) =
    previous_and_text previous (codes "name") name.text
schema_fault_details e.BuiltInScalarTypeRedefinition = []
schema_fault_details e.OrphanSchemaExtension = []
schema_fault_details (e.OrphanTypeExtension name) = one_text (codes "name") name.text
schema_fault_details (e.TypeExtensionKindMismatch name extension location definition) =
    kind_details name.text extension location definition
schema_fault_details (e.DuplicateRootOperation previous keyword) =
    previous_and_text previous (codes "operation_type") keyword
schema_fault_details (e.DuplicateImplementsInterfaceInObject kept ty) = part_and_type kept ty
schema_fault_details (e.DuplicateImplementsInterfaceInInterface kept ty) = part_and_type kept ty
schema_fault_details (e.ObjectFieldNameCollision kept ty) = part_and_type kept ty
schema_fault_details (e.InterfaceFieldNameCollision kept ty) = part_and_type kept ty
schema_fault_details (e.EnumValueNameCollision kept ty) = part_and_type kept ty
schema_fault_details (e.UnionMemberNameCollision kept ty) = part_and_type kept ty
schema_fault_details (e.InputFieldNameCollision kept ty) = part_and_type kept ty
