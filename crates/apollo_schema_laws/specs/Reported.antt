-- The faults of a list by their sorts: GraphQL specification of October 2021, sections 2.2, 3, 3.3, 3.4.3,
-- 3.5 to 3.10 and 3.13.
--
-- **Reported.** The **sort** of a fault is what it is that is dropped (`sort_of`):
--
-- - an operation or a fragment
-- - a further definition of the schema, of a directive or of a type
-- - an extension of a type or of the schema that has no definition
-- - an extension of the type of a name that is of another kind
-- - a component that is given to the type of a name a second time
-- - a root that is given a second time
--
-- `reported sort adopts list` are the faults of a list that are of this sort, in order of discovery.
-- `reported_sorts` are the sorts that it has faults of.
--
-- What is dropped as a whole is said by places of the whole list:
--
-- - a further definition (`further_schemas`, `further_types`) stands after the first one of its key, and
--   is seen with that one
-- - a further definition of a directive (`further_directives`) stands after the first one of its name that
--   was handed in, not marked built-in
-- - a further definition of a type is passed over (`is_passed_over`) where it may be ignored and the
--   first one is built-in
-- - an extension has no definition (`undefined_places`) if its key has none; those of types stand by
--   name, in order of first extension (`orphans_by_name`)
-- - an extension is of another kind (`of_another_kind`) if its name's first definition has not its kind,
--   so that it is not *folded*
use Rattle.std.specs.Prelude.{ℕ, Bool, true, false, List, filter, map}
use Rattle.graphql_nodes.specs.SameText.{same}
use Rattle.apollo_component.specs.FirstOfEach.{first_of_each}
use Rattle.apollo_meaning.specs.declared.build_error.BuildError.{BuildError}
use Rattle.apollo_meaning.specs.declared.build_error.BuildError.TheVariants as errors
use Rattle.apollo_meaning.specs.Faults.Collisions.{Fault}
use Rattle.apollo_meaning.specs.Faults.ListFaults.{faults_of}
use Rattle.apollo_meaning.specs.Items.ListItems.{Added}

-- what it is that is dropped
pub data Sort : Type 0 where
  -- an operation or a fragment
  Executable : Sort
  -- a further definition of the schema
  FurtherSchema : Sort
  -- a further definition of a directive
  FurtherDirective : Sort
  -- a further definition of a type
  FurtherType : Sort
  -- an extension of a type that has no definition
  OrphanOfType : Sort
  -- an extension of the schema that has no definition
  OrphanOfSchema : Sort
  -- an extension of the type of this name that is of another kind
  OtherKind : List ℕ → Sort
  -- a component that is given a second time to the type of this name
  RepeatedComponent : List ℕ → Sort
  -- a root that is given a second time
  RepeatedRoot : Sort

-- the sort of an error
abbrev pub sort_of : BuildError → Sort
sort_of (errors.ExecutableDefinition describe) = Executable
sort_of (errors.SchemaDefinitionCollision previous) = FurtherSchema
sort_of (errors.DirectiveDefinitionCollision previous name) = FurtherDirective
sort_of (errors.TypeDefinitionCollision previous name) = FurtherType
sort_of errors.BuiltInScalarTypeRedefinition = FurtherType
sort_of errors.OrphanSchemaExtension = OrphanOfSchema
sort_of (errors.OrphanTypeExtension name) = OrphanOfType
sort_of (errors.TypeExtensionKindMismatch name extension location definition) = OtherKind name.text
sort_of (errors.DuplicateRootOperation previous operation) = RepeatedRoot
sort_of (errors.DuplicateImplementsInterfaceInObject kept ty) = RepeatedComponent ty.text
sort_of (errors.DuplicateImplementsInterfaceInInterface kept ty) = RepeatedComponent ty.text
sort_of (errors.ObjectFieldNameCollision kept ty) = RepeatedComponent ty.text
sort_of (errors.InterfaceFieldNameCollision kept ty) = RepeatedComponent ty.text
sort_of (errors.EnumValueNameCollision kept ty) = RepeatedComponent ty.text
sort_of (errors.UnionMemberNameCollision kept ty) = RepeatedComponent ty.text
sort_of (errors.InputFieldNameCollision kept ty) = RepeatedComponent ty.text

-- whether two sorts are one: names are told apart by their texts
abbrev pub same_sort : Sort → Sort → Bool
same_sort Executable Executable = true
same_sort FurtherSchema FurtherSchema = true
same_sort FurtherDirective FurtherDirective = true
same_sort FurtherType FurtherType = true
same_sort OrphanOfType OrphanOfType = true
same_sort OrphanOfSchema OrphanOfSchema = true
same_sort (OtherKind n) (OtherKind m) = same n m
same_sort (RepeatedComponent n) (RepeatedComponent m) = same n m
same_sort RepeatedRoot RepeatedRoot = true
same_sort _ _ = false

-- whether an error is of this sort
abbrev pub is_of_sort : Sort → BuildError → Bool
is_of_sort s e = same_sort s (sort_of e)

-- the faults of a list that are of this sort, in order of discovery
abbrev pub reported : Sort → Bool → List Added → List Fault
reported s adopts xs = filter (λ f. is_of_sort s f.1) (faults_of adopts xs)

-- the sorts that a list has faults of, in order of discovery
abbrev pub reported_sorts : Bool → List Added → List Sort
reported_sorts adopts xs = first_of_each same_sort (map (λ f. sort_of f.1) (faults_of adopts xs))
