-- A list of definitions with its faults, computed. GraphQL specification of October 2021, sections 3.4.3 and
-- 3.6.
--
-- **Example `faulty_list`.** A list with eight faults (the line after `ext enum T` is empty). The law
-- `faulty_list` computes them, without the built-in definitions before the list:
--
--     ext object T        line 1
--     implements I        line 2
--     field a Int         line 3
--     ext enum T          line 4
--                         line 5
--     def object T        line 6
--     implements I        line 7
--     implements I        line 8
--     field a Int         line 9
--     field a Int         line 10
--     def interface T     line 11
--     ext object T        line 12
--     field a Int         line 13
--     ext union U         line 14
--     member T            line 15
--
-- | fault | at line | found |
-- |---|---|---|
-- | `DuplicateImplementsInterfaceInObject`, kept: line 7 | 8 | at the definition of line 6, which comes first, interfaces before fields |
-- | `ObjectFieldNameCollision`, kept: line 9 | 10 | at the same definition |
-- | `DuplicateImplementsInterfaceInObject`, kept: line 7 | 2 | at the extension of line 1, met at the moment of the definition |
-- | `ObjectFieldNameCollision`, kept: line 9 | 3 | at the same extension |
-- | `TypeExtensionKindMismatch`, definition: line 6 | 4 | at the extension of line 4, met at that moment as well |
-- | `TypeDefinitionCollision`, previous: line 6 | 11 | at the further definition |
-- | `ObjectFieldNameCollision`, kept: line 9 | 13 | at the extension of line 12, met at its own place |
-- | `OrphanTypeExtension` | 14 | last: no definition of `U` is in the list |
use Rattle.std.specs.Prelude.{List, [], ◌∷◌, None, codes}
use Rattle.graphql_ast.specs.declared.definition.Definition.{Definition}
use Rattle.graphql_ast.specs.declared.definition.Definition.TheVariants.{InterfaceTypeDefinition}
use Rattle.graphql_ast.specs.declared.definition.Definition.TheVariants.{EnumTypeExtension}
use Rattle.graphql_ast.specs.declared.definition.Definition.TheVariants.{UnionTypeExtension}
use Rattle.apollo_meaning.specs.Faults.Collisions.{Fault}
use Rattle.apollo_meaning.specs.Rows.TypeRows.{line, name_on_line, field_on_line, definition_on_line}
use Rattle.apollo_meaning.specs.Rows.TypeRows.{extension_on_line}
use Rattle.apollo_meaning.specs.declared.build_error.BuildError.TheVariants as errors

-- extensions before and after a definition that repeats itself, one of another kind, a further definition,
-- and an extension without a definition
abbrev pub faulty_list : List Definition
faulty_list =
    extension_on_line 1 (name_on_line (codes "T") 1) (name_on_line (codes "I") 2 ∷ [])
    (field_on_line (codes "a") 3 ∷ [])
    ∷ EnumTypeExtension
    (record {
      value = record {
        name = name_on_line (codes "T") 4;
        directives = record { 0 = [] };
        values = [];
      };
      location = line 4;
    })
    ∷ definition_on_line 6 (codes "T") (name_on_line (codes "I") 7 ∷ name_on_line (codes "I") 8 ∷ [])
    (field_on_line (codes "a") 9 ∷ field_on_line (codes "a") 10 ∷ [])
    ∷ InterfaceTypeDefinition
    (record {
      value = record {
        description = None;
        name = name_on_line (codes "T") 11;
        implements_interfaces = [];
        directives = record { 0 = [] };
        fields = [];
      };
      location = line 11;
    })
    ∷ extension_on_line 12 (name_on_line (codes "T") 12) [] (field_on_line (codes "a") 13 ∷ [])
    ∷ UnionTypeExtension
    (record {
      value = record {
        name = name_on_line (codes "U") 14;
        directives = record { 0 = [] };
        members = name_on_line (codes "T") 15 ∷ [];
      };
      location = line 14;
    })
    ∷ []

-- the definition comes first, interfaces before fields; then the extensions that waited for it, in order; at
-- last the extension that waits for ever
abbrev pub its_faults : List Fault
its_faults = (
  line 8,
  errors.DuplicateImplementsInterfaceInObject (name_on_line (codes "I") 7)
      (name_on_line (codes "T") 6),
)
    ∷ (line 10, errors.ObjectFieldNameCollision (name_on_line (codes "a") 9) (name_on_line (codes "T") 6))
    ∷ (
      line 2,
      errors.DuplicateImplementsInterfaceInObject (name_on_line (codes "I") 7)
          (name_on_line (codes "T") 1),
    )
    ∷ (line 3, errors.ObjectFieldNameCollision (name_on_line (codes "a") 9) (name_on_line (codes "T") 1))
    ∷ (
      line 4,
      errors.TypeExtensionKindMismatch (name_on_line (codes "T") 4) (codes "an enum type extension")
          (line 6) (codes "an object type"),
    )
    ∷ (line 11, errors.TypeDefinitionCollision (line 6) (name_on_line (codes "T") 11))
    ∷ (line 13, errors.ObjectFieldNameCollision (name_on_line (codes "a") 9) (name_on_line (codes "T") 12))
    ∷ (line 14, errors.OrphanTypeExtension (name_on_line (codes "U") 14))
    ∷ []
