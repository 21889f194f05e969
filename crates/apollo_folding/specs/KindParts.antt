-- The type that parts make, by the kind of their head: GraphQL specification of October 2021, sections 3.4.3,
-- and 3.5 to 3.10.
use Rattle.std.specs.Prelude.{◌≡◌, List, refl}
use Rattle.std.proofs.Common.{sym, subst}
use Rattle.graphql_nodes.specs.NodeView.{NodeView}
use Rattle.graphql_nodes.specs.declared.type_kind.TypeKind.{TypeKind}
use Rattle.graphql_nodes.specs.declared.type_kind.TypeKind.TheVariants as kinds
use Rattle.apollo_types.specs.declared.extended_type.ExtendedType.{ExtendedType}
use Rattle.apollo_types.specs.declared.extended_type.ExtendedType.TheVariants.{Scalar, Object, Interface}
use Rattle.apollo_types.specs.declared.extended_type.ExtendedType.TheVariants.{Union, Enum, InputObject}
use Rattle.apollo_meaning.specs.Items.Parts.{TypePart}
use Rattle.apollo_meaning.specs.Types.Components.{Sourced}
use Rattle.apollo_meaning.specs.Types.Meaning.{scalar_of, object_of, interface_of, union_of, enum_of}
use Rattle.apollo_meaning.specs.Types.Meaning.{input_object_of, type_of_kind, type_from}

-- a node of one kind is what parts make under a head of this kind, and others make such a node as well
pub record IsOf {T : Type 0} (own kind : TypeKind) (make : NodeView T → ExtendedType)
    (of : TypePart → List Sourced → T) (head : TypePart) (done : List Sourced) (n : NodeView T) : Type 0 where
  pub same : kind ≡ own
  -- the node has the value that the parts make, and the location of their head
  pub node : n ≡ record { value = of head done; location = head.location }
  -- with any other parts the head makes a node of the same kind
  pub more : (parts : List Sourced)
      → type_of_kind kind head parts ≡ make (record { value = of head parts; location = head.location })

-- a type is what parts make, by its kind
abbrev pub IsOfParts : TypeKind → TypePart → List Sourced → ExtendedType → Type 0
IsOfParts kind head done (Scalar n) = IsOf kinds.Scalar kind Scalar scalar_of head done n
IsOfParts kind head done (Object n) = IsOf kinds.Object kind Object object_of head done n
IsOfParts kind head done (Interface n) = IsOf kinds.Interface kind Interface interface_of head done n
IsOfParts kind head done (Union n) = IsOf kinds.Union kind Union union_of head done n
IsOfParts kind head done (Enum n) = IsOf kinds.Enum kind Enum enum_of head done n
IsOfParts kind head done (InputObject n) = IsOf kinds.InputObject kind InputObject input_object_of head done n

-- what parts make is of the kind of their head
of_parts : (kind : TypeKind) (head : TypePart) (done : List Sourced)
    → IsOfParts kind head done (type_of_kind kind head done)
of_parts kinds.Scalar head done = record { same = refl; node = refl; more = λ parts. refl }
of_parts kinds.Object head done = record { same = refl; node = refl; more = λ parts. refl }
of_parts kinds.Interface head done = record { same = refl; node = refl; more = λ parts. refl }
of_parts kinds.Union head done = record { same = refl; node = refl; more = λ parts. refl }
of_parts kinds.Enum head done = record { same = refl; node = refl; more = λ parts. refl }
of_parts kinds.InputObject head done = record { same = refl; node = refl; more = λ parts. refl }

-- so is a type that is what they make: each `impl` takes its case
pub made_of : (head : TypePart) (done : List Sourced) (t : ExtendedType) → t ≡ type_from head done
    → IsOfParts head.kind head done t
made_of head done t h = subst (IsOfParts head.kind head done) (sym h) (of_parts head.kind head done)
