-- Faults of a build that are of selections below a field: GraphQL specification of October 2021, sections 2.4
-- to 2.8.
--
-- Such a fault has a path that begins with that of the field, names compared by their texts, and has more
-- keys. That of an inline fragment need not have more, for its path has no key of its own.
use Rattle.std.specs.Prelude.{◌≡◌, ◌<◌, List, length, map, take}
use Rattle.std.specs.List.{Any}
use Rattle.graphql_nodes.specs.Comparing.{bare_name}
use Rattle.apollo_document.specs.BareErrors.{bare_root}
use Rattle.apollo_document.specs.Typable.{Fault}
use Rattle.apollo_document.specs.declared.build_error.BuildError.{BuildError}
use Rattle.apollo_document.specs.declared.build_error.BuildError.TheVariants as e
use Rattle.apollo_document.specs.declared.selection_path.SelectionPath.{SelectionPath}

-- a path begins with another: it is of the same definition, and its first keys are those of the other, by
-- their texts
abbrev pub BeginsWith : SelectionPath → SelectionPath → Type 0
BeginsWith path outer = (bare_root path.root ≡ bare_root outer.root)
    × (map bare_name (take (length outer.nested_fields) path.nested_fields)
    ≡ map bare_name outer.nested_fields)

-- it has more keys
abbrev pub GoesOn : SelectionPath → SelectionPath → Type 0
GoesOn path outer = BeginsWith path outer × (length outer.nested_fields < length path.nested_fields)

-- an error is of a selection below the field that has this path. It is of an inline fragment, whose path is
-- that of the fields around it. Or it is of a field, whose path ends with its own key
abbrev pub IsOfBelow : SelectionPath → BuildError → Type 0
IsOfBelow outer (e.UndefinedTypeInInlineFragmentTypeCondition ty path) = BeginsWith path outer
IsOfBelow outer (e.SubselectionOnScalarType ty path) = GoesOn path outer
IsOfBelow outer (e.SubselectionOnEnumType ty path) = GoesOn path outer
IsOfBelow outer (e.UndefinedField ty field path) = GoesOn path outer
IsOfBelow outer _ = ⊥

-- one of these faults is of a selection below the field that has this path
abbrev pub HasLost : SelectionPath → List Fault → Type 0
HasLost outer faults = Any (λ (fault : Fault). IsOfBelow outer fault.1) faults
