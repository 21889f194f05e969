-- Which leaf faults are echoes, and what is left out of a list with one element more.
use Rattle.std.proofs.Common.{◌≡◌, ◌↔◌, ◌⊎◌, List, [], ◌∷◌, ◌++◌, inl, inr, refl, ap}
use Rattle.apollo_document.specs.declared.selection_path.SelectionPath.{SelectionPath}
use Rattle.leafcheck.specs.declared.leaf_fault.LeafKind.{LeafKind}
use Rattle.leafcheck.specs.declared.leaf_fault.LeafKind.TheVariants.{MissingSubselection, SubselectionOnLeaf}
use Rattle.peglinden_run.specs.Echoes.{LeavesOut, Repeats}

-- one that is so
pub leaves_out-so : {A : Type 0} (IsSo : A → Type 0) (xs kept : List A) (x : A) → LeavesOut IsSo xs kept
    → IsSo x → LeavesOut IsSo (xs ++ x ∷ []) kept
leaves_out-so IsSo [] kept x out so = inl (so, out)
leaves_out-so IsSo (y ∷ xs) kept x (inl out) so = inl (out.0, leaves_out-so IsSo xs kept x out.1 so)
leaves_out-so IsSo (y ∷ xs) kept x (inr out) so = inr (
  out.0,
  (out.1.0, (out.1.1.0, leaves_out-so IsSo xs out.1.0 x out.1.1.1 so)),
)

-- one that is not so
pub leaves_out-other : {A : Type 0} (IsSo : A → Type 0) (xs kept : List A) (x : A) → LeavesOut IsSo xs kept
    → (¬ IsSo x) → LeavesOut IsSo (xs ++ x ∷ []) (kept ++ x ∷ [])
leaves_out-other IsSo [] kept x out never = inr (never, ([], (ap (λ l. l ++ x ∷ []) out, refl)))
leaves_out-other IsSo (y ∷ xs) kept x (inl out) never = inl
    (out.0, leaves_out-other IsSo xs kept x out.1 never)
leaves_out-other IsSo (y ∷ xs) kept x (inr out) never = inr (
  out.0,
  (
    out.1.0 ++ x ∷ [],
    (ap (λ l. l ++ x ∷ []) out.1.1.0, leaves_out-other IsSo xs out.1.0 x out.1.1.1 never),
  ),
)

-- a fault is an echo where others say in another way what was lost
pub repeats_as : (IsLost HasLost : SelectionPath → Type 0)
    → ((path : SelectionPath) → IsLost path ↔ HasLost path)
    → (path : SelectionPath) (kind : LeafKind) → Repeats IsLost path kind ↔ Repeats HasLost path kind
repeats_as IsLost HasLost same path MissingSubselection = same path
repeats_as IsLost HasLost same path SubselectionOnLeaf = (λ never. never, λ never. never)
