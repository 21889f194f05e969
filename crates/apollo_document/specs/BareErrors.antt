-- What `==` compares of the errors of a build and of paths: names without their locations. GraphQL
-- specification of October 2021, sections 2.2 to 2.8.
use Rattle.std.specs.Prelude.{map, option_map}
use Rattle.graphql_nodes.specs.Comparing.{bare_name}
use Rattle.apollo_document.specs.declared.build_error.BuildError.{BuildError}
use Rattle.apollo_document.specs.declared.build_error.BuildError.TheVariants as e
use Rattle.apollo_document.specs.declared.selection_path.ExecutableDefinitionName.{ExecutableDefinitionName}
use Rattle.apollo_document.specs.declared.selection_path.ExecutableDefinitionName.TheVariants.{AnonymousOperation}
use Rattle.apollo_document.specs.declared.selection_path.ExecutableDefinitionName.TheVariants.{NamedOperation}
use Rattle.apollo_document.specs.declared.selection_path.ExecutableDefinitionName.TheVariants.{Fragment}
use Rattle.apollo_document.specs.declared.selection_path.SelectionPath.{SelectionPath}

-- the operation or fragment that a path begins with, its name without location
abbrev pub bare_root : ExecutableDefinitionName → ExecutableDefinitionName
bare_root (AnonymousOperation kind) = AnonymousOperation kind
bare_root (NamedOperation kind name) = NamedOperation kind (bare_name name)
bare_root (Fragment name) = Fragment (bare_name name)

-- a path, its names without locations
abbrev pub bare_path : SelectionPath → SelectionPath
bare_path path = record { root = bare_root path.root; nested_fields = map bare_name path.nested_fields }

-- an error of a build, its names without locations
abbrev pub bare_build_error : BuildError → BuildError
bare_build_error (e.TypeSystemDefinition name describe) =
    e.TypeSystemDefinition (option_map bare_name name) describe
bare_build_error e.AmbiguousAnonymousOperation = e.AmbiguousAnonymousOperation
bare_build_error (e.OperationNameCollision kept) = e.OperationNameCollision (bare_name kept)
bare_build_error (e.FragmentNameCollision kept) = e.FragmentNameCollision (bare_name kept)
bare_build_error (e.UndefinedRootOperation operation) = e.UndefinedRootOperation operation
bare_build_error (e.UndefinedTypeInNamedFragmentTypeCondition ty fragment) =
    e.UndefinedTypeInNamedFragmentTypeCondition (bare_name ty) (bare_name fragment)
bare_build_error (e.UndefinedTypeInInlineFragmentTypeCondition ty path) =
    e.UndefinedTypeInInlineFragmentTypeCondition (bare_name ty) (bare_path path)
bare_build_error (e.SubselectionOnScalarType ty path) =
    e.SubselectionOnScalarType (bare_name ty) (bare_path path)
bare_build_error (e.SubselectionOnEnumType ty path) = e.SubselectionOnEnumType (bare_name ty) (bare_path path)
bare_build_error (e.UndefinedField ty field path) =
    e.UndefinedField (bare_name ty) (bare_name field) (bare_path path)
