-- Fields all of whose names stand at the root of queries of each schema.
use Rattle.std.proofs.Common.{arith, ◌≡◌, ◌↔◌, inl, inr, refl, false, List, ◌∷◌, Some, Ok, subst}
use Rattle.std.specs.Borrow.{Bor}
use Rattle.graphql_nodes.specs.NodeView.{NodeView}
use Rattle.graphql_nodes.specs.declared.operation_type.OperationType.TheVariants.{Query}
use Rattle.apollo_walks.specs.Reachable.{Among, IsReached}
use Rattle.apollo_executable.specs.Walks.Plain.{plain, fragments_of}
use Rattle.apollo_executable.specs.Walks.Introspection.{IsMetaName, IsIntrospection}
use Rattle.apollo_executable.specs.Walks.NextItem.{IsNext, Item}
use Rattle.apollo_executable.specs.Walks.WalkView.{WalkView}
use Rattle.apollo_executable.specs.declared.selection.Field.{Field}
use Rattle.apollo_executable.specs.declared.operation.Operation.{Operation}
use Rattle.apollo_executable.specs.declared.document.ExecutableDocument.{ExecutableDocument}

abbrev pub AreMeta : List (NodeView Field) → Type 0
AreMeta fields = (n : NodeView Field) → Among n fields → IsMetaName n.value.name.text

module _ (document : ExecutableDocument) (operation : Operation) (fields : List (NodeView Field))
    (given : (n : NodeView Field) → Among n fields ↔ IsReached (fragments_of false document)
    (plain false operation.selection_set.selections) n) where
  pub meta-introspection : operation.operation_type ≡ Query → AreMeta fields
      → IsIntrospection document operation
  meta-introspection query all = (query, λ n reached. all n ((given n).1 reached))

  pub introspection-meta : IsIntrospection document operation → AreMeta fields
  introspection-meta is n h = is.1 n ((given n).0 h)

-- the fields that a walk gave until now have such names. So all of it have, if and only if those have that
-- are still to come
pub record HasGivenMeta (initial now : WalkView) : Type 0 where
  pub all : AreMeta now.coming → AreMeta initial.coming
  pub others : AreMeta initial.coming → AreMeta now.coming

module _ (field : Bor (NodeView Field)) {initial now new : WalkView} {item : Item}
    (before : HasGivenMeta initial now) (next : IsNext now (Some item) new) (given : item ≡ Ok field) where
  first : now.coming ≡ field.now ∷ new.coming
  first = (subst (λ i. IsNext now (Some i) new) given next).gives.0

  pub given-meta : AreMeta initial.coming → IsMetaName field.now.value.name.text
  given-meta all = before.others all field.now (rw first (inl refl))

  pub given-one_more : IsMetaName field.now.value.name.text → HasGivenMeta initial new
  given-one_more named = record {
    all = λ all. before.all (rw first (λ n h. grind (arith, h, named, all n)));
    others = λ all n later. before.others all n (rw first (inr later));
  }
