-- What the proofs of clones cite.
use Rattle.apollo_meaning.proofs.Prelude.{◌≡◌, Option, None, Some, ap, refl}

-- an option is a clone of another, where a clone of what it holds is the same
abbrev pub IsOptionClone : {T : Type 0} → Option T → Option T → Type 0
IsOptionClone None None = Unit {0}
IsOptionClone None (Some y) = ⊥
IsOptionClone (Some x) None = ⊥
IsOptionClone (Some x) (Some y) = y ≡ x

-- it is the same then
pub same_option : {T : Type 0} (o p : Option T) → IsOptionClone o p → p ≡ o
same_option None None h = refl
same_option None (Some y) h = elim h [ ]
same_option (Some x) None h = elim h [ ]
same_option (Some x) (Some y) h = ap Some h
