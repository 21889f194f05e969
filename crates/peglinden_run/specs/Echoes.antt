-- Leaf faults that only repeat what is said of the selections below: GraphQL specification of October 2021,
-- sections 2.4 to 2.8 and 5.3.3.
use Rattle.std.specs.Prelude.{◌≡◌, ◌⊎◌, List, [], ◌∷◌}
use Rattle.apollo_document.specs.Typable.{Fault}
use Rattle.apollo_document.specs.declared.selection_path.SelectionPath.{SelectionPath}
use Rattle.leafcheck.specs.LostSubselections.{HasLost}
use Rattle.leafcheck.specs.declared.leaf_fault.LeafFault.{LeafFault}
use Rattle.leafcheck.specs.declared.leaf_fault.LeafKind.{LeafKind}
use Rattle.leafcheck.specs.declared.leaf_fault.LeafKind.TheVariants.{MissingSubselection, SubselectionOnLeaf}

-- a fault in this way of the field of this path only repeats others: subselections are missing, and some were
-- lost below
abbrev pub Repeats : (SelectionPath → Type 0) → SelectionPath → LeafKind → Type 0
Repeats IsLost path MissingSubselection = IsLost path
Repeats IsLost path SubselectionOnLeaf = ⊥

-- a leaf fault is an echo of these faults
abbrev pub IsEcho : List Fault → LeafFault → Type 0
IsEcho faults leaf = Repeats (λ path. HasLost path faults) leaf.path leaf.kind

-- kept is of a list, in order, exactly what is not so
abbrev pub LeavesOut : {A : Type 0} → (A → Type 0) → List A → List A → Type 0
LeavesOut IsSo [] kept = kept ≡ []
LeavesOut {A} IsSo (x ∷ xs) kept = (IsSo x × LeavesOut IsSo xs kept)
    ⊎ ((¬ IsSo x) × ((rest : List A) × ((kept ≡ x ∷ rest) × LeavesOut IsSo xs rest)))
