-- The faults of selections behind others, and of documents one of whose sets has a fault.
use Rattle.std.proofs.Common.{◌≡◌, ◌≢◌, ◌<◌, ◌∙◌, ap, sym, refl, ℕ, zero, suc, List, [], ◌∷◌, ◌++◌, length}
use Rattle.std.proofs.Common.{get_or, take, drop, Some, append_assoc, drop-cons, arith}
use Rattle.std.specs.List.{flat_map, slice_get}
use Rattle.std.proofs.lemmas.List.{take-append-drop}
use Rattle.std.proofs.lemmas.List.Elements.{filter_map-append}
use Rattle.graphql_nodes.specs.NameView.{NameView}
use Rattle.graphql_nodes.specs.NodeView.{NodeView}
use Rattle.graphql_nodes.specs.Tables.{values_of}
use Rattle.apollo_document.specs.declared.selection_path.SelectionPath.{SelectionPath}
use Rattle.apollo_executable.specs.Operations.{all_operations}
use Rattle.apollo_executable.specs.declared.document.ExecutableDocument.{ExecutableDocument}
use Rattle.apollo_executable.specs.declared.operation.Fragment.{Fragment}
use Rattle.apollo_executable.specs.declared.operation.Operation.{Operation}
use Rattle.apollo_executable.specs.declared.selection.Selection.{Selection}
use Rattle.apollo_schema.specs.declared.schema.Schema.{Schema}
use Rattle.leafcheck.specs.LeafFaults.{fragment_faults, leaf_faults_in, leaf_faults, operation_faults}
use Rattle.leafcheck.specs.declared.leaf_fault.LeafFault.{LeafFault}
use Rattle.leafcheck.proofs.PlacedLemmas.{placed-joined}

-- two lists that are nothing together
both-none : {A : Type 0} (xs ys : List A) → xs ++ ys ≡ [] → (xs ≡ []) × (ys ≡ [])
both-none [] ys none = (refl, none)
both-none (x ∷ xs) ys none = absurd (cc)

filled-at : {X A : Type 0} (f : X → List A) (xs : List X) (k : ℕ) (x : X) → slice_get xs k ≡ Some x → f x ≢ []
    → flat_map f xs ≢ []
filled-at f [] k x at some none = absurd (cc)
filled-at f (y ∷ ys) zero x at some none = grind (arith, at, some, (both-none (f y) (flat_map f ys) none).0)
filled-at f (y ∷ ys) (suc k) x at some none =
    filled-at f ys k x at some (both-none (f y) (flat_map f ys) none).1

module _ (s : Schema) (ty : NameView) (path : SelectionPath) where
  abbrev faults : List Selection → List LeafFault
  faults = leaf_faults_in s ty path

  -- the faults of selections behind others
  apart : (xs ys : List Selection) → faults (xs ++ ys) ≡ faults xs ++ faults ys
  apart xs ys = rw (placed-joined ty path xs ys, filter_map-append) refl

  -- the faults of one selection more
  pub faults-more : (old now new : List LeafFault) (xs : List Selection) (x : Selection)
      → now ≡ old ++ faults xs → new ≡ now ++ faults (x ∷ []) → new ≡ old ++ faults (xs ++ x ∷ [])
  faults-more old now new xs x was more = rw (more, was, apart xs (x ∷ []), append_assoc) refl

  -- selections have a fault where one of them has
  pub faults-at : (xs : List Selection) (n : ℕ) (x : Selection) → (n < length xs) × (x ≡ get_or xs n x)
      → faults (x ∷ []) ≢ [] → faults xs ≢ []
  faults-at xs n x at some none =
      let rest = drop (suc n) xs in
      let here : xs ≡ take n xs ++ (x ∷ rest) = sym (take-append-drop n xs)
      ∙ ap (λ (l : List Selection). take n xs ++ l) (drop-cons xs n x at.0
      ∙ ap (λ (y : Selection). y ∷ rest) (sym at.1)) in
      let parts : faults (take n xs) ++ (faults (x ∷ []) ++ faults rest) ≡ [] =
      sym (ap faults here ∙ apart (take n xs) (x ∷ rest) ∙ rw (apart (x ∷ []) rest)) ∙ none in
      some (both-none _ _ (both-none (faults (take n xs)) _ parts).1).0

-- and a document where one of its operations has, or one of its fragments
module _ (s : Schema) (document : ExecutableDocument) where
  pub operation-at : (k : ℕ) (n : NodeView Operation)
      → slice_get (all_operations document.operations) k ≡ Some n → operation_faults s n ≢ []
      → leaf_faults s document ≢ []
  operation-at k n at some none = filled-at (operation_faults s) _ k n at some (both-none _ _ none).0

  pub fragment-at : (k : ℕ) (n : NodeView Fragment) → slice_get (values_of document.fragments) k ≡ Some n
      → fragment_faults s n ≢ [] → leaf_faults s document ≢ []
  fragment-at k n at some none = filled-at (fragment_faults s) _ k n at some
      (both-none (flat_map (operation_faults s) (all_operations document.operations)) _ none).1
