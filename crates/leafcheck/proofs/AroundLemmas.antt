-- What is around the set of an operation, and of a fragment: its path, and the faults of such a set.
use Rattle.std.proofs.Common.{◌≡◌, ◌≢◌, ◌∙◌, [], ap, sym}
use Rattle.std.specs.Borrow.{Bor}
use Rattle.graphql_nodes.specs.NodeView.{NodeView}
use Rattle.apollo_document.specs.declared.selection_path.SelectionPath.{SelectionPath}
use Rattle.apollo_executable.specs.declared.operation.Fragment.{Fragment}
use Rattle.apollo_executable.specs.declared.operation.Operation.{Operation}
use Rattle.apollo_executable.specs.declared.selection.SelectionSet.{SelectionSet}
use Rattle.apollo_schema.specs.declared.schema.Schema.{Schema}
use Rattle.leafcheck.specs.Around.{path_of, path_step}
use Rattle.leafcheck.specs.LeafFaults.{fragment_faults, operation_faults, set_faults}
use Rattle.leafcheck.specs.Roots.{fragment_path, operation_path}
use Rattle.leafcheck.specs.declared.around.Around.TheFolds.{fold-roll-Around}
use Rattle.leafcheck.specs.declared.around.Around.TheOpen.{Around-F}
use Rattle.leafcheck.specs.declared.around.Around.TheVariants as variant

module _ (s : Schema) where
  -- a set that is lent has faults
  abbrev pub HasFaults : SelectionPath → SelectionSet → Type 0
  HasFaults path set = set_faults s path set ≢ []

  -- a set that is in two values, which are both one, has faults along the path of the one
  noted : {A : Type 0} (set_in : A → SelectionSet) (path_in : A → SelectionPath) (around lent one : A)
      (path : SelectionPath) → path ≡ path_in around → around ≡ one → lent ≡ one
      → HasFaults path (set_in lent) → HasFaults (path_in one) (set_in one)
  noted set_in path_in around lent one path opened is same some none =
      some ((λ i. set_faults s ((opened ∙ ap path_in is) i) (set_in (same i))) ∙ none)

  pub operation-noted : (around lent : Bor Operation) (n : NodeView Operation) → around.now ≡ n.value
      → lent.now ≡ n.value → HasFaults (path_of (variant.Operation around)) lent.now.selection_set
      → operation_faults s n ≢ []
  operation-noted around lent n = noted (λ (o : Operation). o.selection_set) operation_path around.now
      lent.now n.value (path_of (variant.Operation around)) (ap path_of (sym (variant.rolls-Operation around))
      ∙ fold-roll-Around SelectionPath path_step (Around-F.Operation around))

  pub fragment-noted : (around lent : Bor Fragment) (n : NodeView Fragment) → around.now ≡ n.value
      → lent.now ≡ n.value → HasFaults (path_of (variant.Fragment around)) lent.now.selection_set
      → fragment_faults s n ≢ []
  fragment-noted around lent n = noted (λ (f : Fragment). f.selection_set) fragment_path around.now lent.now
      n.value (path_of (variant.Fragment around)) (ap path_of (sym (variant.rolls-Fragment around))
      ∙ fold-roll-Around SelectionPath path_step (Around-F.Fragment around))
