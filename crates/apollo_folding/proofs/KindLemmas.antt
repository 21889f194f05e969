-- What follows where a node of one kind is what parts make.
use Rattle.apollo_meaning.proofs.Prelude.{◌≡◌, TypeKind, List, ◌++◌, sym, ap, ◌∙◌, NodeView, ExtendedType}
use Rattle.apollo_meaning.proofs.Prelude.{TypePart, Sourced, type_from}
use Rattle.apollo_folding.specs.KindParts.{IsOf}

-- the value is that of the parts
pub IsOf-value : {T : Type 0} {make : NodeView T → ExtendedType} {of : TypePart → List Sourced → T}
    {own kind : TypeKind} {head : TypePart} {done : List Sourced} {n : NodeView T}
    → IsOf own kind make of head done n → n.value ≡ of head done
IsOf-value {T} is = ap (λ (n : NodeView T). n.value) is.node

-- a type that grew by more parts is that of the parts and of those
pub IsOf-grown : {T : Type 0} {make : NodeView T → ExtendedType} {of : TypePart → List Sourced → T}
    {own : TypeKind} {head : TypePart} {done : List Sourced} {n : NodeView T}
    → IsOf own head.kind make of head done n → (grown : NodeView T) (more : List Sourced)
    → grown.location ≡ n.location → (n.value ≡ of head done → grown.value ≡ of head (done ++ more))
    → make grown ≡ type_from head (done ++ more)
IsOf-grown {T} {make} {of} {head} {done} is grown more same_location folded =
    let value : grown.value ≡ of head (done ++ more) = folded (IsOf-value is) in
    let location : grown.location ≡ head.location = same_location ∙ ap (λ (n : NodeView T). n.location)
    is.node in
    (λ i. make (record { value = value i; location = location i })) ∙ sym (is.more (done ++ more))
