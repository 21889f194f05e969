-- The words of the headline: GraphQL specification of October 2021, sections 2.2 to 2.8, 3, 3.4.3 and 6.3.2.
use Rattle.std.specs.Prelude.{◌≡◌, ◌↔◌, ℕ, Bool, true, List, [], ◌++◌, map, filter, not, Option, None, Some}
use Rattle.std.specs.Prelude.{IsSome, nat_eq, option_map}
use Rattle.std.specs.List.{enumerate_from, filter_map, flat_map}
use Rattle.std.specs.List.Sorted.{IsPermutation}
use Rattle.graphql_nodes.specs.NameView.{NameView}
use Rattle.graphql_nodes.specs.NodeView.{NodeView}
use Rattle.graphql_nodes.specs.SameText.{by_text, same_text}
use Rattle.graphql_nodes.specs.Tables.{HasUniqueKeys, keys_of, lookup, values_of}
use Rattle.graphql_ast.specs.declared.definition.Definition as ast
use Rattle.graphql_ast.specs.declared.definition.Definition.TheVariants as d
use Rattle.graphql_ast.specs.declared.operation.FragmentDefinition.{FragmentDefinition}
use Rattle.graphql_ast.specs.declared.operation.OperationDefinition.{OperationDefinition}
use Rattle.apollo_types.specs.declared.extended_type.ExtendedType.{ExtendedType}
use Rattle.apollo_component.specs.FirstOfEach.{first_of_each}
use Rattle.apollo_meaning.specs.Directives.{directive_definitions, directive_names, directive_of}
use Rattle.apollo_meaning.specs.Faults.ListFaults.{faults_of, found_of_schema, found_of_type}
use Rattle.apollo_meaning.specs.Faults.RootFaults.{further_schema, schema_orphan}
use Rattle.apollo_meaning.specs.Faults.TypeFaults.{further_type, kind_mismatch, orphan}
use Rattle.apollo_meaning.specs.Items.ListItems.{Added, ListItem, defined_part}
use Rattle.apollo_meaning.specs.Items.Named.{extensions_of, first, first_schema, of_kind, schema_extensions}
use Rattle.apollo_meaning.specs.Items.Parts.{SchemaPart, TypePart, key_of, kind_of}
use Rattle.apollo_meaning.specs.Order.Places.{Placed, first_place, folding_order, schemas, types}
use Rattle.apollo_meaning.specs.Schema.Definition.{no_schema, schema_from, schema_parts, schema_sourced}
use Rattle.apollo_meaning.specs.Schema.Whole.{whole}
use Rattle.apollo_meaning.specs.Types.Meaning.{parts, extensions_with_origin, type_from}
use Rattle.apollo_schema_laws.specs.Dropped.{executable_fault, further_directive, further_directives}
use Rattle.apollo_schema_laws.specs.Dropped.{further_schemas, further_types, is_passed_over}
use Rattle.apollo_schema_laws.specs.Dropped.{of_another_kind, orphans_by_name, undefined_places}
use Rattle.apollo_schema_laws.specs.Reported.{Executable, FurtherDirective, FurtherSchema, FurtherType}
use Rattle.apollo_schema_laws.specs.Reported.{OrphanOfSchema, OrphanOfType, OtherKind, RepeatedComponent}
use Rattle.apollo_schema_laws.specs.Reported.{RepeatedRoot, reported, reported_sorts}
use Rattle.apollo_schema.specs.EqualSchemas.{AreEqualSchemas}
use Rattle.apollo_schema.specs.SchemaWriteOut.{write_schema}
use Rattle.apollo_schema.specs.declared.schema.Schema.{Schema}
use Rattle.apollo_schema_laws.specs.WrittenAgain.{written_again}
use Rattle.apollo_executable.specs.Erasure.{at_place}
use Rattle.apollo_executable.specs.Listed.{listed}
use Rattle.apollo_executable.specs.Walks.WalkView.{AreWalked, IsWithinTurns, TakesAllTurns}
use Rattle.apollo_executable.specs.declared.document.ExecutableDocument.{ExecutableDocument}
use Rattle.apollo_executable.specs.declared.selection.Field.{Field}
use Rattle.apollo_executable.specs.declared.selection.SelectionSet.{SelectionSet}
use Rattle.apollo_document.specs.AddedDefinitions.{DocumentItem}
use Rattle.apollo_document.specs.KeptDefinitions.{kept_anonymous, kept_fragments, kept_named, root_type_of}
use Rattle.apollo_document.specs.TypedDefinitions.{stripped_fragment, stripped_operation}

-- the type that stands under a name
abbrev pub type_named : Schema → List ℕ → Option ExtendedType
type_named schema name = lookup (by_text name) schema.types

-- a type of this name: the first definition with all extensions of that one's kind, wherever they stand, in
-- order. What is of an extension has its identity: its location, and its number, by which it is told apart
-- from all others that are folded
pub record IsFolded (start : ℕ) (items : List ListItem) (name : List ℕ) (t : ExtendedType) : Type 0 where
  -- the first definition of the name
  pub definition : TypePart
  pub is_first : first items name ≡ Some definition
  -- the extensions of the name that have its kind are folded, all and in order
  pub are_all : map (λ e. e.1) (extensions_with_origin name start (folding_order items))
      ≡ of_kind (kind_of definition) (extensions_of items name)
  -- the type is what the definition and these extensions make
  pub is : t ≡ type_from definition (parts start (folding_order items) name definition)

-- the schema of a list, from all that it defines and extends and what that is completed with, its extensions
-- numbered from `start`
pub record IsSchemaOf (start : ℕ) (items : List ListItem) (schema : Schema) : Type 0 where
  -- each type is its name's first definition with all extensions of its kind
  pub folds : (name : List ℕ) (t : ExtendedType) → type_named schema name ≡ Some t
      → IsFolded start items name t
  -- each name that is defined has a type, and no other
  pub defined : (name : List ℕ) → IsSome (type_named schema name) ↔ IsSome (first items name)
  -- the types stand in the order of their first definitions
  pub order : keys_of schema.types
      ≡ first_of_each same_text (map (λ p. p.name) (filter_map defined_part items))
  -- no two extensions that are folded, of types or of the schema, have one number
  pub numbers : HasUniqueKeys nat_eq (enumerate_from start (folding_order items))
  -- a directive's name means its first definition that is handed in, or else the built-in one
  pub directives : (name : List ℕ) → lookup (by_text name) schema.directive_definitions
      ≡ directive_of (directive_definitions items) name
  -- the directive definitions stand in the order of their first ones
  pub directive_order : keys_of schema.directive_definitions ≡ directive_names (directive_definitions items)
  -- the schema definition is the first one with all its extensions: directives joined, and the first root for
  -- each operation
  pub definition : (s : SchemaPart) → first_schema items ≡ Some s
      → schema.schema_definition ≡ schema_from s (schema_parts start (folding_order items) s)
  -- all extensions of the schema are folded into it, in order
  pub extended : (s : SchemaPart) → first_schema items ≡ Some s
      → map (λ e. e.1) (schema_sourced start (folding_order items)) ≡ schema_extensions items
  -- without one it is empty
  pub without_definition : first_schema items ≡ None → schema.schema_definition ≡ no_schema

-- the faults of a list: exactly one for each thing that is dropped, and none else, of each sort in its order
pub record HasItsFaults (adopts : Bool) (xs : List Added) : Type 0 where
  -- each fault is of one sort, and none is lost or reported twice
  pub all_sorts :
      IsPermutation (faults_of adopts xs) (flat_map (λ s. reported s adopts xs) (reported_sorts adopts xs))
  -- of operations and fragments
  pub executables : reported Executable adopts xs ≡ filter_map (λ a. executable_fault a.1) xs
  -- of further definitions of the schema, in view of the first one
  pub further_schemas : reported FurtherSchema adopts xs
      ≡ map (λ p. further_schema p.0.1 p.1.1) (further_schemas (whole adopts xs))
  -- of directive definitions behind one of their name that was handed in
  pub further_directives : reported FurtherDirective adopts xs
      ≡ map (λ p. further_directive p.0.1 p.1.1) (further_directives (whole adopts xs))
  -- of further definitions of types, but those of built-in types that may be ignored
  pub further_types : reported FurtherType adopts xs
      ≡ map (λ p. further_type p.0.1 p.1.1)
      (filter (λ p. not (is_passed_over p)) (further_types (whole adopts xs)))
  -- of extensions of names that have no definition
  pub orphans : reported OrphanOfType adopts xs ≡ map (λ e. orphan e.1) (orphans_by_name (whole adopts xs))
  -- of extensions of a schema that has no definition
  pub schema_orphans : reported OrphanOfSchema adopts xs
      ≡ map (λ e. schema_orphan e.1) (undefined_places schemas (whole adopts xs))
  -- of extensions of a name that are of another kind than its first definition
  pub mismatches : (d : Placed TypePart) → first_place types (whole adopts xs) (key_of d.1) ≡ Some d
      → reported (OtherKind (key_of d.1)) adopts xs
      ≡ map (λ e. kind_mismatch d.1 e.1) (of_another_kind (whole adopts xs) (key_of d.1))
  -- of components of a type that have the name of an earlier one
  pub components : (d : Placed TypePart) → first_place types (whole adopts xs) (key_of d.1) ≡ Some d
      → reported (RepeatedComponent (key_of d.1)) adopts xs ≡ found_of_type (whole adopts xs) d.1
  -- a name that has no definition has neither of these
  pub undefined : (n : List ℕ) → first_place types (whole adopts xs) n ≡ None
      → (reported (OtherKind n) adopts xs ≡ []) × (reported (RepeatedComponent n) adopts xs ≡ [])
  -- of roots of the schema that have the operation of an earlier one
  pub roots : (s : Placed SchemaPart) → first_place schemas (whole adopts xs) [] ≡ Some s
      → reported RepeatedRoot adopts xs ≡ found_of_schema (whole adopts xs) s.1
  pub no_roots : first_place schemas (whole adopts xs) [] ≡ None → reported RepeatedRoot adopts xs ≡ []

-- a schema that the write-out of another means, with adoption, is equal to that one, has the same write-out,
-- and nothing is at fault
pub record IsRebuiltEqual (ignores : Bool) (schema rebuilt : Schema) : Type 0 where
  -- nothing of the write-out is at fault
  pub faultless : faults_of true (written_again ignores schema) ≡ []
  pub equal : AreEqualSchemas rebuilt schema
  pub same : write_schema rebuilt ≡ write_schema schema

-- the operations that a document keeps of a list: the anonymous one, then the named ones
abbrev pub kept_operations : Option Schema → List DocumentItem → List (NodeView OperationDefinition)
kept_operations s xs = listed (kept_anonymous s xs) ++ values_of (kept_named s xs)

-- an operation with its typable selections alone, from its root type, which each has that is kept
abbrev pub operation_stripped : Option Schema → NodeView OperationDefinition → Option ast.Definition
operation_stripped s n =
    option_map (λ (root : NameView). d.OperationDefinition (at_place (stripped_operation s root) n))
    (root_type_of s n.value.operation_type)

-- a fragment with its typable selections alone, from its condition
abbrev pub fragment_stripped : Option Schema → NodeView FragmentDefinition → ast.Definition
fragment_stripped s n = d.FragmentDefinition (at_place (stripped_fragment s) n)

-- the operations and fragments that are kept, each stripped
abbrev pub kept_definitions : Option Schema → List DocumentItem → List ast.Definition
kept_definitions s xs =
    filter_map (operation_stripped s) (kept_operations s xs)
    ++ map (fragment_stripped s) (values_of (kept_fragments s xs))

-- there is one walk over a set. It gives these fields: each that is reached exactly as often as it stands
-- there, in the order of walks. It takes so many turns, which are at most two for each selection in reach,
-- and one
pub record HasOneWalk (deep : Bool) (document : ExecutableDocument) (set : SelectionSet) : Type 0 where
  -- the fields that the walk gives
  pub fields : List (NodeView Field)
  pub walked : AreWalked deep document set fields
  -- no other fields, and no other order, are those of the walk
  pub no_others : (others : List (NodeView Field)) → AreWalked deep document set others → others ≡ fields
  -- how many turns the walk takes
  pub turns : ℕ
  pub all : TakesAllTurns deep document set turns
  -- no other number of turns is that of the walk
  pub no_more : (others : ℕ) → TakesAllTurns deep document set others → others ≡ turns
  -- they are at most two for each selection in reach, and one
  pub few : IsWithinTurns deep document set turns
