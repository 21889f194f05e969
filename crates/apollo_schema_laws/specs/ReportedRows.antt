-- The faults of a list with faults, by their sorts.
use Rattle.std.specs.Prelude.{List, [], ◌∷◌, codes}
use Rattle.apollo_meaning.specs.Faults.Collisions.{Fault}
use Rattle.apollo_meaning.specs.Rows.TypeRows.{line, name_on_line}
use Rattle.apollo_schema_laws.specs.Reported.{FurtherType, OrphanOfType, OtherKind, RepeatedComponent, Sort}
use Rattle.apollo_meaning.specs.declared.build_error.BuildError.TheVariants as errors

-- the sort of each, in order of discovery
abbrev pub its_sorts : List Sort
its_sorts =
    RepeatedComponent (codes "T") ∷ RepeatedComponent (codes "T") ∷ RepeatedComponent (codes "T")
    ∷ RepeatedComponent (codes "T")
    ∷ OtherKind (codes "T") ∷ FurtherType ∷ RepeatedComponent (codes "T") ∷ OrphanOfType ∷ []

-- the further definition of its type
abbrev pub its_further_definition : List Fault
its_further_definition = (line 11, errors.TypeDefinitionCollision (line 6) (name_on_line (codes "T") 11)) ∷ []

-- the extension of that type that is of another kind
abbrev pub its_mismatch : List Fault
its_mismatch = (
  line 4,
  errors.TypeExtensionKindMismatch (name_on_line (codes "T") 4) (codes "an enum type extension")
      (line 6) (codes "an object type"),
) ∷ []

-- the extension without a definition
abbrev pub its_orphan : List Fault
its_orphan = (line 14, errors.OrphanTypeExtension (name_on_line (codes "U") 14)) ∷ []
