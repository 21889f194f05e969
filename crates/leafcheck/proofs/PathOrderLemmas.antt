-- Paths in order: those that begin with one path stand together, behind that path.
use Rattle.std.proofs.Common.{◌≡◌, ◌∙◌, ◌↔◌, ◌<◌, ◌≤◌, ℕ, List, [], ◌∷◌, IsTrue, eq-eqb, eqb-true, length}
use Rattle.std.proofs.Common.{map, take}
use Rattle.std.proofs.Common.{arith, false, refl, sym, ap}
use Rattle.std.proofs.lemmas.Cmp.{lists_total, nat_cmp_total, nat_list_cmp_total, on_total, ranked}
use Rattle.std.proofs.lemmas.Cmp.{then_total}
use Rattle.std.proofs.lemmas.Cmp.{tied_itself}
use Rattle.std.specs.Cmp.{IsTotalOrder}
use Rattle.std.specs.Cmp.Lexicographic.{same_text, slice_cmp, texts_ties}
use Rattle.std.specs.Ordering.{is_eq, is_gt, is_lt, nat_cmp, ordering_reverse}
use Rattle.std.specs.Ordering.{ordering_then}
use Rattle.std.specs.declared.cmp.Ordering.{Ordering}
use Rattle.std.specs.declared.cmp.Ordering.TheVariants.{Less, Equal, Greater}
use Rattle.graphql_nodes.proofs.Comparisons.{and_true, both_true, head_same, lists, names, tail_same, texts}
use Rattle.graphql_nodes.specs.Comparing.{bare_name}
use Rattle.graphql_nodes.specs.NameView.{NameView}
use Rattle.graphql_nodes.specs.declared.operation_type.OperationType.{OperationType}
use Rattle.graphql_nodes.specs.declared.operation_type.OperationType.TheVariants.{Mutation, Query}
use Rattle.graphql_nodes.specs.declared.operation_type.OperationType.TheVariants.{Subscription}
use Rattle.apollo_document.specs.BareErrors.{bare_root}
use Rattle.apollo_document.specs.declared.selection_path.ExecutableDefinitionName.{ExecutableDefinitionName}
use Rattle.apollo_document.specs.declared.selection_path.ExecutableDefinitionName.TheVariants as named
use Rattle.apollo_document.specs.declared.selection_path.SelectionPath.{SelectionPath}
use Rattle.leafcheck.specs.LostSubselections.{BeginsWith}
use Rattle.leafcheck.specs.PathOrder.{begins_with, kind_rank, name_cmp, name_text, path_cmp, text_cmp}

-- the order is a total one
pub path_total : IsTotalOrder path_cmp
path_total = then_total (on_total (λ (p : SelectionPath). kind_rank p.root) nat_cmp_total)
    (then_total (on_total (λ (p : SelectionPath). name_text p.root) nat_list_cmp_total)
    (on_total (λ (p : SelectionPath). p.nested_fields)
    (lists_total (on_total (λ (n : NameView). n.text) nat_list_cmp_total))))

-- what is not less one way is not greater the other way
pub turned : (one other : Ordering) → one ≡ ordering_reverse other → is_lt other ≡ false → is_gt one ≡ false
turned one Less is less = absurd (cc)
turned one Equal is less = ap is_gt is
turned one Greater is less = ap is_gt is

neither : (one other : Ordering) → is_gt one ≡ false → is_gt other ≡ false → one ≡ ordering_reverse other
    → one ≡ Equal
neither Equal other below above is = refl
neither Greater other below above is = absurd (cc)
neither Less Less below above is = absurd (cc)
neither Less Equal below above is = absurd (cc)
neither Less Greater below above is = absurd (cc)

-- what stands between two that tie ties with both
module _ {K : Type 0} {R : K → K → Ordering} (o : IsTotalOrder R) (x y z : K) (below : is_gt (R x y) ≡ false)
    (above : is_gt (R y z) ≡ false) (tie : R x z ≡ Equal) where
  first_tied : R x y ≡ Equal
  first_tied = neither (R x y) (R y z) below above (o.congr x z y tie ∙ o.antisymm z y)

  second_tied : R y z ≡ Equal
  second_tied = sym (o.congr x y z first_tied) ∙ tie

-- of two tests, the second one decides where the first one ties
first_up : (first second : Ordering) → is_gt (ordering_then first second) ≡ false → is_gt first ≡ false
first_up Less second up = refl
first_up Equal second up = refl
first_up Greater second up = up

second_up : (first second : Ordering) → first ≡ Equal → is_gt (ordering_then first second) ≡ false
    → is_gt second ≡ false
second_up first second tie up = rw tie at up

-- texts tie where they are one
text_tied : (one other : List ℕ) → one ≡ other → text_cmp one other ≡ Equal
text_tied one other is = rw is (tied_itself nat_list_cmp_total other)

tied_text : (one other : List ℕ) → text_cmp one other ≡ Equal → one ≡ other
tied_text one other tie = same_text one other (sym (texts_ties one other ∙ ap is_eq tie))

-- names are one without their locations where their texts are
bare_as : (one other : NameView) → one.text ≡ other.text → bare_name one ≡ bare_name other
bare_as one other is = λ i. bare_name (record one { text = is i })

-- keys that begin with others are not less
longer : (xs ps : List NameView) → map bare_name (take (length ps) xs) ≡ map bare_name ps
    → is_lt (slice_cmp name_cmp xs ps) ≡ false
longer [] [] begins = refl
longer (x ∷ xs) [] begins = refl
longer [] (p ∷ ps) begins = absurd (cc)
longer (x ∷ xs) (p ∷ ps) begins =
    let same : x.text ≡ p.text = ap (λ (n : NameView). n.text) (head_same begins) in
    let rest : map bare_name (take (length ps) xs) ≡ map bare_name ps = tail_same begins in
    rw (text_tied x.text p.text same) (longer xs ps rest)

-- keys between some and others that begin with them begin with them too
keys_between : (ps ys xs : List NameView) → is_gt (slice_cmp name_cmp ps ys) ≡ false
    → is_gt (slice_cmp name_cmp ys xs) ≡ false → map bare_name (take (length ps) xs) ≡ map bare_name ps
    → map bare_name (take (length ps) ys) ≡ map bare_name ps
keys_between [] ys xs below above begins = refl
keys_between (p ∷ ps) [] xs below above begins = absurd (cc)
keys_between (p ∷ ps) (y ∷ ys) [] below above begins = absurd (cc)
keys_between (p ∷ ps) (y ∷ ys) (x ∷ xs) below above begins =
    let same : p.text ≡ x.text = sym (ap (λ (n : NameView). n.text) (head_same begins)) in
    let rest : map bare_name (take (length ps) xs) ≡ map bare_name ps = tail_same begins in
    let tie = text_tied p.text x.text same in
    let up = first_up (name_cmp p y) (slice_cmp name_cmp ps ys) below in
    let on = first_up (name_cmp y x) (slice_cmp name_cmp ys xs) above in
    let one = first_tied nat_list_cmp_total p.text y.text x.text up on tie in
    let two = second_tied nat_list_cmp_total p.text y.text x.text up on tie in
    let key = bare_as y p (sym (tied_text p.text y.text one)) in
    let below_it = keys_between ps ys xs (second_up _ _ one below) (second_up _ _ two above) rest in
    λ i. key i ∷ below_it i

-- the number of a definition and the text of its name don't see locations
rank-bare : (root : ExecutableDefinitionName) → kind_rank (bare_root root) ≡ kind_rank root
rank-bare (named.AnonymousOperation Query) = refl
rank-bare (named.AnonymousOperation Mutation) = refl
rank-bare (named.AnonymousOperation Subscription) = refl
rank-bare (named.NamedOperation Query name) = refl
rank-bare (named.NamedOperation Mutation name) = refl
rank-bare (named.NamedOperation Subscription name) = refl
rank-bare (named.Fragment name) = refl

text-bare : (root : ExecutableDefinitionName) → name_text (bare_root root) ≡ name_text root
text-bare (named.AnonymousOperation kind) = refl
text-bare (named.NamedOperation kind name) = refl
text-bare (named.Fragment name) = refl

-- the numbers of operations without a name, and with one
anonymous_below : (kind : OperationType) → kind_rank (named.AnonymousOperation kind) < 3
anonymous_below Query = omega arith
anonymous_below Mutation = omega arith
anonymous_below Subscription = omega arith

named_from : (kind : OperationType) (name : NameView) → 3 ≤ kind_rank (named.NamedOperation kind name)
named_from Query name = omega arith
named_from Mutation name = omega arith
named_from Subscription name = omega arith

named_below : (kind : OperationType) (name : NameView) → kind_rank (named.NamedOperation kind name) < 6
named_below Query name = omega arith
named_below Mutation name = omega arith
named_below Subscription name = omega arith

-- and where these are one, definitions are
one_root : (one other : ExecutableDefinitionName) → kind_rank one ≡ kind_rank other
    → name_text one ≡ name_text other → bare_root one ≡ bare_root other
one_root (named.AnonymousOperation Query) (named.AnonymousOperation Query) rank text = refl
one_root (named.AnonymousOperation Mutation) (named.AnonymousOperation Mutation) rank text = refl
one_root (named.AnonymousOperation Subscription) (named.AnonymousOperation Subscription) rank text = refl
one_root (named.NamedOperation Query a) (named.NamedOperation Query b) rank text =
    ap (named.NamedOperation Query) (bare_as a b text)
one_root (named.NamedOperation Mutation a) (named.NamedOperation Mutation b) rank text =
    ap (named.NamedOperation Mutation) (bare_as a b text)
one_root (named.NamedOperation Subscription a) (named.NamedOperation Subscription b) rank text =
    ap (named.NamedOperation Subscription) (bare_as a b text)
one_root (named.Fragment a) (named.Fragment b) rank text = ap named.Fragment (bare_as a b text)
one_root (named.AnonymousOperation kind) (named.AnonymousOperation other) rank text =
    absurd (omega (arith, rank))
one_root (named.NamedOperation kind a) (named.NamedOperation other b) rank text =
    absurd (omega (arith, rank))
one_root (named.AnonymousOperation kind) (named.NamedOperation other b) rank text =
    absurd (omega (arith, rank, anonymous_below kind, named_from other b))
one_root (named.AnonymousOperation kind) (named.Fragment b) rank text =
    absurd (omega (arith, rank, anonymous_below kind))
one_root (named.NamedOperation kind a) (named.AnonymousOperation other) rank text =
    absurd (omega (arith, rank, named_from kind a, anonymous_below other))
one_root (named.NamedOperation kind a) (named.Fragment b) rank text =
    absurd (omega (arith, rank, named_below kind a))
one_root (named.Fragment a) (named.AnonymousOperation other) rank text =
    absurd (omega (arith, rank, anonymous_below other))
one_root (named.Fragment a) (named.NamedOperation other b) rank text =
    absurd (omega (arith, rank, named_below other b))

module _ (p x : SelectionPath) (begins : BeginsWith x p) where
  same_rank : kind_rank p.root ≡ kind_rank x.root
  same_rank = sym (rank-bare p.root) ∙ ap kind_rank (sym begins.0) ∙ rank-bare x.root

  same_name : name_text p.root ≡ name_text x.root
  same_name = sym (text-bare p.root) ∙ ap name_text (sym begins.0) ∙ text-bare x.root

  -- a path that begins with another is not less
  pub begins_behind : is_lt (path_cmp x p) ≡ false
  begins_behind =
      let ranks : nat_cmp (kind_rank x.root) (kind_rank p.root) ≡ Equal =
      rw same_rank (tied_itself nat_cmp_total (kind_rank x.root)) in
      let names = text_tied (name_text x.root) (name_text p.root) (sym same_name) in
      rw (ranks, names) (longer x.nested_fields p.nested_fields begins.1)

  -- and what stands between the two begins with the other too
  pub between_begins : (y : SelectionPath) → is_gt (path_cmp p y) ≡ false → is_gt (path_cmp y x) ≡ false
      → BeginsWith y p
  between_begins y below above =
      let ranks : nat_cmp (kind_rank p.root) (kind_rank x.root) ≡ Equal =
      rw (← same_rank) (tied_itself nat_cmp_total (kind_rank p.root)) in
      let up = first_up (nat_cmp (kind_rank p.root) (kind_rank y.root)) _ below in
      let on = first_up (nat_cmp (kind_rank y.root) (kind_rank x.root)) _ above in
      let rank_one = first_tied nat_cmp_total (kind_rank p.root) (kind_rank y.root) (kind_rank x.root) up on
      ranks in
      let rank_two = second_tied nat_cmp_total (kind_rank p.root) (kind_rank y.root) (kind_rank x.root) up on
      ranks in
      let names = text_tied (name_text p.root) (name_text x.root) same_name in
      let named_below = second_up _ _ rank_one below in
      let named_above = second_up _ _ rank_two above in
      let name_up = first_up (text_cmp (name_text p.root) (name_text y.root)) _ named_below in
      let name_on = first_up (text_cmp (name_text y.root) (name_text x.root)) _ named_above in
      let name_one = first_tied nat_list_cmp_total (name_text p.root) (name_text y.root) (name_text x.root)
      name_up name_on names in
      let name_two = second_tied nat_list_cmp_total (name_text p.root) (name_text y.root) (name_text x.root)
      name_up name_on names in
      let rank : kind_rank y.root ≡ kind_rank p.root = sym (ranked _ _ Equal (sym rank_one)) in (
        one_root y.root p.root rank (sym (tied_text (name_text p.root) (name_text y.root) name_one)),
        keys_between p.nested_fields y.nested_fields x.nested_fields (second_up _ _ name_one named_below)
            (second_up _ _ name_two named_above) begins.1,
      )

-- the test says whether a path begins with another
pub begins_with-Begins : (path outer : SelectionPath)
    → IsTrue (begins_with path outer) ↔ BeginsWith path outer
begins_with-Begins path outer =
    let names_at = (lists names).at outer.nested_fields (take (length outer.nested_fields) path.nested_fields)
    in
    let name_at = texts.at (name_text path.root) (name_text outer.root) in (
      λ begins.
          let both = both_true _ _ begins in
          let roots = both_true _ _ both.0 in (
            one_root path.root outer.root (eqb-true _ _ roots.0) (name_at.0 roots.1),
            sym (names_at.0 both.1),
          ),
      λ begins. and_true _ _ (and_true _ _ (eq-eqb _ _ (sym (same_rank outer path begins)))
          (name_at.1 (sym (same_name outer path begins)))) (names_at.1 (sym begins.1)),
    )
