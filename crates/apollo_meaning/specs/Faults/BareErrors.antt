-- What `==` compares of the errors of a build (GraphQL specification of October 2021, section 3): names
-- without their locations, the locations of what is kept with them.
use Rattle.graphql_nodes.specs.Comparing.{bare_name}
use Rattle.graphql_nodes.specs.NameView.{NameView}
use Rattle.apollo_meaning.specs.declared.build_error.BuildError.{BuildError}
use Rattle.apollo_meaning.specs.declared.build_error.BuildError.TheVariants as e

-- an error of two names, these without their locations
abbrev pub bare_names : (NameView → NameView → BuildError) → NameView → NameView → BuildError
bare_names error kept ty = error (bare_name kept) (bare_name ty)

-- an error of a build, its names without their locations
abbrev pub bare_build_error : BuildError → BuildError
bare_build_error (e.ExecutableDefinition describe) = e.ExecutableDefinition describe
bare_build_error (e.SchemaDefinitionCollision previous) = e.SchemaDefinitionCollision previous
bare_build_error (e.DirectiveDefinitionCollision previous name) =
    e.DirectiveDefinitionCollision previous (bare_name name)
bare_build_error (e.TypeDefinitionCollision previous name) =
    e.TypeDefinitionCollision previous (bare_name name)
bare_build_error e.BuiltInScalarTypeRedefinition = e.BuiltInScalarTypeRedefinition
bare_build_error e.OrphanSchemaExtension = e.OrphanSchemaExtension
bare_build_error (e.OrphanTypeExtension name) = e.OrphanTypeExtension (bare_name name)
bare_build_error (e.TypeExtensionKindMismatch name extension location definition) =
    e.TypeExtensionKindMismatch (bare_name name) extension location definition
bare_build_error (e.DuplicateRootOperation previous operation) = e.DuplicateRootOperation previous operation
bare_build_error (e.DuplicateImplementsInterfaceInObject kept ty) =
    bare_names e.DuplicateImplementsInterfaceInObject kept ty
bare_build_error (e.DuplicateImplementsInterfaceInInterface kept ty) =
    bare_names e.DuplicateImplementsInterfaceInInterface kept ty
bare_build_error (e.ObjectFieldNameCollision kept ty) = bare_names e.ObjectFieldNameCollision kept ty
bare_build_error (e.InterfaceFieldNameCollision kept ty) = bare_names e.InterfaceFieldNameCollision kept ty
bare_build_error (e.EnumValueNameCollision kept ty) = bare_names e.EnumValueNameCollision kept ty
bare_build_error (e.UnionMemberNameCollision kept ty) = bare_names e.UnionMemberNameCollision kept ty
bare_build_error (e.InputFieldNameCollision kept ty) = bare_names e.InputFieldNameCollision kept ty
