-- What a search among places in order finds.
use Rattle.std.proofs.Common.{◌≡◌, ◌∙◌, ◌<◌, ◌≤◌, ℕ, List, Any, arith, ap, get_or, le_refl, length, subst}
use Rattle.std.proofs.Common.{sym, true}
use Rattle.std.proofs.Common.{Bool, Bor, false, refl, ⊎_elim}
use denote.Param.Members.{Mut}
use Rattle.std.proofs.lemmas.Bool.{cases_lt, true≢false}
use Rattle.std.proofs.lemmas.Fn.{always_returns_same}
use Rattle.std.proofs.lemmas.List.{get_or_default}
use Rattle.std.proofs.lemmas.List.Folds.{Any-from_list_any, list_any-from_Any}
use Rattle.std.proofs.lemmas.List.Sorted.{ranks_by, searchable_from_sorted, sorted_far}
use Rattle.std.specs.Cmp.{IsStrictWeakOrder, both_ways}
use Rattle.std.specs.Fn.{Called, ComparesAs}
use Rattle.std.specs.List.{list_any}
use Rattle.std.specs.List.Sorted.{IsPartitionPoint, IsPartitionedBy, IsSortedBy}
use Rattle.std.specs.Ordering.{is_lt, ordering_index}
use Rattle.std.specs.declared.cmp.Ordering.{Ordering}
use Rattle.std.specs.declared.cmp.Ordering.TheVariants.{Less, Equal, Greater}
use Rattle.apollo_document.specs.declared.selection_path.SelectionPath.{SelectionPath}
use Rattle.leafcheck.specs.LostPlaces.{AreInOrder, path_at}
use Rattle.leafcheck.specs.LostSubselections.{BeginsWith}
use Rattle.leafcheck.specs.PathOrder.{begins_with, path_cmp}
use Rattle.leafcheck.specs.declared.places.Place.{Place}
use Rattle.leafcheck.proofs.PathOrderLemmas.{begins_behind, begins_with-Begins, between_begins, path_total}
use Rattle.leafcheck.proofs.PathOrderLemmas.{turned}

-- what comes no later than what is less is less
lower : (one other : Ordering) → ordering_index one ≤ ordering_index other → is_lt other ≡ true
    → is_lt one ≡ true
lower Less other before less = refl
lower Equal Less before less = absurd (omega arith)
lower Equal Equal before less = less
lower Equal Greater before less = absurd (true≢false (sym less))
lower Greater Less before less = absurd (omega arith)
lower Greater Equal before less = absurd (true≢false (sym less))
lower Greater Greater before less = less

-- the order that a sort gives which compares paths
pub ordered-from_sort_by : {F : Type 0} {g : Mut F (Bor Place × (Bor Place × Unit {0})) Ordering} {f : F}
    (places : List Place)
    → ((lt : Place → Place → Bool) → IsStrictWeakOrder lt → ComparesAs g lt f → IsSortedBy lt places)
    → ((a : Bor Place × (Bor Place × Unit {0})) (r : Ordering) (f' : F) → Called g f a r f'
    → (r ≡ path_cmp (path_at a.0.now) (path_at a.1.0.now)) × (f' ≡ f))
    → AreInOrder places
ordered-from_sort_by {g = g} {f = f} places up compares =
    up (λ one other. is_lt (path_cmp (path_at one) (path_at other))) (ranks_by path_total path_at)
    (always_returns_same g (λ a r. is_lt r ≡ is_lt (path_cmp (path_at a.0.now) (path_at a.1.0.now))) f
    (λ a r f' k. (ap is_lt (compares a r f' k).0, (compares a r f' k).1)))

-- whether a place is less than the path
abbrev pub is_before : SelectionPath → Place → Bool
is_before path place = is_lt (path_cmp (path_at place) path)

-- places in order have those that are less first
pub split_by : (places : List Place) (path : SelectionPath) → AreInOrder places
    → IsPartitionedBy (is_before path) places
split_by places path ordered i j default before inside less =
    lower (path_cmp (path_at (get_or places i default)) path)
    (path_cmp (path_at (get_or places j default)) path)
    (searchable_from_sorted path_total path_at places path ordered i j default before inside) less

module _ (places : List Place) (path : SelectionPath) (at : ℕ) (ordered : AreInOrder places)
    (split : IsPartitionPoint (λ (place : Place). is_before path place ≡ true)
    (λ (place : Place). is_before path place ≡ false) places at) where
  abbrev Begins : Place → Type 0
  Begins place = BeginsWith (path_at place) path

  -- what begins with the path stands behind those that are less
  behind : (k : ℕ) (place : Place) → k < length places → get_or places k place ≡ place → Begins place → at ≤ k
  behind k place below is begins =
      ⊎_elim (λ before. absurd (true≢false (sym (split.0 k place (omega arith) before)
      ∙ ap (is_before path) is
      ∙ begins_behind path (path_at place) begins))) (λ not_before. not_before) (cases_lt k at)

  -- where one begins with the path, the first that is not less does
  pub first_begins : Any Begins places
      → (at < length places) × ((default : Place) → Begins (get_or places at default))
  first_begins any =
      let k = any.0 in
      let place = any.1 in
      let begins = any.4 in
      let not_behind = behind k place any.2 any.3 begins in
      let below = any.2 in
      let inside : at < length places = omega arith in
      let first = get_or places at place in
      let far = sorted_far (λ one other. is_lt (path_cmp (path_at one) (path_at other)))
      (ranks_by path_total path_at) places ordered at k place not_behind below in
      let not_before : is_lt (path_cmp (path_at place) (path_at first)) ≡ false =
      ap (λ (p : Place). is_lt (path_cmp (path_at p) (path_at first))) (sym any.3) ∙ far in
      let lower = turned (path_cmp path (path_at first)) (path_cmp (path_at first) path)
      (path_total.antisymm path (path_at first)) (split.1 at place (le_refl at) inside) in
      let upper = turned (path_cmp (path_at first) (path_at place))
      (path_cmp (path_at place) (path_at first)) (path_total.antisymm (path_at first) (path_at place))
      not_before in
      let one = between_begins path (path_at place) begins (path_at first) lower upper in
      (inside, λ default. subst Begins (get_or_default places at place default inside) one)

  abbrev test : Place → Bool
  test place = begins_with (path_at place) path

  tested : list_any test places ≡ true → Any Begins places
  tested passes =
      let any = Any-from_list_any test places passes in
      (any.0, any.1, any.2, any.3, (begins_with-Begins (path_at any.1) path).0 any.4)

  -- so that one alone is to be tested
  pub first_tells : (first : Place) → at < length places → first ≡ get_or places at first
      → test first ≡ list_any test places
  first_tells first inside is = both_ways (test first) (list_any test places)
      (λ passes. list_any-from_Any test places (at, first, inside, sym is, passes))
      (λ any. (begins_with-Begins (path_at first) path).1
      (subst Begins (sym is) ((first_begins (tested any)).1 first)))

  -- and none, where all are less
  pub none_tells : length places ≤ at → false ≡ list_any test places
  none_tells outside = both_ways false (list_any test places) (λ never. absurd (true≢false (sym never)))
      (λ any. absurd (let inside = (first_begins (tested any)).0 in omega arith))
