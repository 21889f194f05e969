-- What is said of all that is at fault.
use Rattle.std.proofs.Common.{◌≡◌, ◌-◌, ℕ, zero, suc, length, take, List, [], ◌∷◌, Option, None, Some, false, refl, subst, arith}
use Rattle.apollo_document.specs.Typable.{Fault as DocumentFault}
use Rattle.apollo_meaning.specs.Faults.Collisions.{Fault}
use Rattle.leafcheck.specs.declared.leaf_fault.LeafFault.{LeafFault}
use Rattle.peglinden_run.specs.declared.form.Form.{Form}
use Rattle.peglinden_run.specs.Findings.{AreSaid, Found, SaysAll, any_fault, first_of}
use Rattle.peglinden_run.specs.Reports.{Adds, SaysEach}
use Rattle.peglinden_run.proofs.ReportLemmas.{three-added}

module _ (OfSchema : Fault → List ℕ → Type 0) (OfDocument : DocumentFault → List ℕ
    → Type 0) (OfLeaf : LeafFault → List ℕ → Type 0) where
  -- what is added for each sort of faults, in turn
  pub says-all : (found : Found) (none one two three : List ℕ) → none ≡ []
      → Adds (SaysEach OfSchema found.schema) none one → Adds (SaysEach OfDocument found.document) one two
      → Adds (SaysEach OfLeaf found.leaves) two three → SaysAll OfSchema OfDocument OfLeaf found three
  says-all found none one two three is schema document leaves = record {
    of_schema = schema.0;
    schema = schema.1.1;
    of_document = document.0;
    document = document.1.1;
    of_leaves = leaves.0;
    leaves = leaves.1.1;
    are = three-added schema.0 document.0 leaves.0 none one two three is schema.1.0 document.1.0 leaves.1.0;
  }

  -- nothing is said where nothing is at fault
  says-nothing : (xs : List Fault) (ys : List DocumentFault) (zs : List LeafFault) (it : Found)
      → xs ≡ it.schema → ys ≡ it.document → zs ≡ it.leaves → any_fault it ≡ false
      → SaysAll OfSchema OfDocument OfLeaf it []
  says-nothing [] [] [] it a b c is =
      says-all it [] [] [] [] refl ([], (refl, subst (λ l. SaysEach OfSchema l []) a refl))
      ([], (refl, subst (λ l. SaysEach OfDocument l []) b refl))
      ([], (refl, subst (λ l. SaysEach OfLeaf l []) c refl))
  says-nothing (x ∷ xs) ys zs it a b c is = absurd (grind (arith, is, a))
  says-nothing [] (y ∷ ys) zs it a b c is = absurd (grind (arith, is, b))
  says-nothing [] [] (z ∷ zs) it a b c is = absurd (grind (arith, is, c))

taken-none : (A : Type 0) (n : ℕ) → length (take {A = A} n []) ≡ 0
taken-none A zero = refl
taken-none A (suc n) = refl

-- of nothing nothing is taken
none-taken : (most : ℕ) (xs : List Fault) (ys : List DocumentFault) (zs : List LeafFault) (it : Found)
    → xs ≡ it.schema → ys ≡ it.document → zs ≡ it.leaves → any_fault it ≡ false
    → any_fault (first_of (Some most) it) ≡ false
none-taken most [] [] [] it a b c is = rw (← a, ← b, ← c) (rw (
  taken-none Fault most,
  taken-none DocumentFault (most - 0),
  taken-none LeafFault (most - 0 - 0),
) refl)
none-taken most (x ∷ xs) ys zs it a b c is = absurd (grind (arith, is, a))
none-taken most [] (y ∷ ys) zs it a b c is = absurd (grind (arith, is, b))
none-taken most [] [] (z ∷ zs) it a b c is = absurd (grind (arith, is, c))

-- of nothing the first is nothing
none-first : (most : Option ℕ) (it : Found) → any_fault it ≡ false → any_fault (first_of most it) ≡ false
none-first None it is = is
none-first (Some most) it is = none-taken most it.schema it.document it.leaves it refl refl refl is

-- no form says anything
pub nothing_said : (form : Form) (most : Option ℕ) (it : Found) (text : List ℕ) → any_fault it ≡ false
    → text ≡ [] → AreSaid form (first_of most it) text
nothing_said form most it text is none =
    let first = first_of most it in
    rw none (says-nothing _ _ _ first.schema first.document first.leaves first refl refl refl (none-first most
    it is))
