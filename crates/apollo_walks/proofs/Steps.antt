-- What is to come of a walk, turn by turn.
use Rattle.std.proofs.Common.{◌≡◌, ◌⊎◌, inr, ◌+◌, ℕ, suc, true, false, List, [], ◌∷◌, None, Some, refl, ap}
use Rattle.std.proofs.Common.{arith, append_assoc, append-nil}
use Rattle.std.proofs.lemmas.List.Sums.{sum_by-cons}
use Rattle.apollo_walks.specs.Selections.{Selections, none, field, spread, inline, Fragments, Names, no_names}
use Rattle.apollo_walks.specs.Selections.{with_name, with_names, fragment_of}
use Rattle.apollo_walks.specs.Reachable.{at_fragment}
use Rattle.apollo_walks.specs.ToCome.{ToCome, IsToCome, joined, turns_of_lists}
use Rattle.apollo_walks.specs.TurnByTurn.{a_turn_before, over, AreTurnByTurn, IsAllToCome}
use Rattle.apollo_walks.specs.Turns.{lists_below, own_turns, whole_turns, total}
use Rattle.apollo_walks.specs.WalkOrder.{Order, of_none, of_inline, of_field, of_passed, of_fragment}
use Rattle.apollo_walks.proofs.Existence.{ordered}
use Rattle.apollo_walks.proofs.Names.{with_names-append, with_names-in}
use Rattle.apollo_walks.proofs.Orders.{order_determined}
use Rattle.apollo_walks.proofs.Whole.{opened-among, order_reaches, order_walk}

module _ {F : Type 0} (fragments : Fragments F) where
  -- there is one that is to come
  pub what_is_to_come : (before : Names) (lists : List (Selections F))
      → (x : ToCome F) × IsToCome fragments before lists x
  what_is_to_come before lists =
      let o = ordered fragments before _ in
      let x : ToCome F = record {
        fields = o.fields;
        opened = with_names o.opened before;
        turns = turns_of_lists lists + total whole_turns fragments o.opened;
      } in
      (x, record { names = o.opened; order = o.order; opened = refl; turns = refl })

  -- and no other
  pub one-to-come : (before : Names) (lists : List (Selections F)) (x y : ToCome F)
      → IsToCome fragments before lists x → IsToCome fragments before lists y → x ≡ y
  one-to-come before lists x y p q =
      let same = order_determined fragments p.order q.order in
      let opened : x.opened ≡ y.opened = rw (p.opened, q.opened, same.1) refl in
      let turns : x.turns ≡ y.turns = rw (p.turns, q.turns, same.1) refl in
      λ i. record { fields = same.0 i; opened = opened i; turns = turns i }

  -- two lists as one, before a third
  regrouped : {before : Names} {p q t : Selections F} {fs : List F} {ns : List (List ℕ)}
      → Order fragments before (inline p (inline q t)) fs ns
      → Order fragments before (inline (inline p q) t) fs ns
  regrouped {before = before} (of_inline {first = xs} {opened = ms} a (of_inline {first = ys} {opened = ks} b
      c)) = rw (← append_assoc xs ys _, ← append_assoc ms ks _)
      (of_inline (of_inline a b) (rw (← with_names-append ms ks before) at c))

  -- a list is opened if there is something in it
  over-joined : {before : Names} {fs : List F} {ns : List (List ℕ)} (below : Selections F)
      (ss : List (Selections F)) → Order fragments before (joined (over below ss)) fs ns
      → Order fragments before (inline below (joined ss)) fs ns × (turns_of_lists (over below ss)
      ≡ lists_below below + own_turns below + turns_of_lists ss)
  over-joined none ss order = (of_inline of_none order, omega arith)
  over-joined s ss order = (order, omega arith)

  module _ (before : Names) where
    field-first : {f : F} {below rest t : Selections F} {fs : List F} {ns : List (List ℕ)}
        → Order fragments before (inline (inline below rest) t) fs ns
        → Order fragments before (inline (field f below rest) t) (f ∷ fs) ns
    field-first (of_inline a b) = of_inline (of_field a) b

    passed-first : {n : List ℕ} {rest t : Selections F} {fs : List F} {ns : List (List ℕ)}
        → (before n ≡ true) ⊎ (fragment_of fragments n ≡ None) → Order fragments before (inline rest t) fs ns
        → Order fragments before (inline (spread n rest) t) fs ns
    passed-first why (of_inline a b) = of_inline (of_passed why a) b

    fragment-first : {n : List ℕ} {set rest t : Selections F} {fs : List F} {ns : List (List ℕ)}
        → before n ≡ false → fragment_of fragments n ≡ Some set
        → Order fragments (with_name n before) (inline (inline set rest) t) fs ns
        → Order fragments before (inline (spread n rest) t) fs (n ∷ ns)
    fragment-first closed found (of_inline a b) = of_inline (of_fragment closed found a) b

    opens : (n : List ℕ) (set rest : Selections F) (ss : List (Selections F)) (x : ToCome F)
        → before n ≡ false → fragment_of fragments n ≡ Some set
        → IsToCome fragments (with_name n before) (set ∷ rest ∷ ss) x
        → IsToCome fragments before (spread n rest ∷ ss) (a_turn_before x)
    opens n set rest ss x closed found p =
        let first = sum_by-cons (λ m. at_fragment 0 whole_turns (fragment_of fragments m)) n p.names in
        record {
          names = n ∷ p.names;
          order = fragment-first closed found (regrouped p.order);
          opened = p.opened;
          turns = omega (arith, p.turns, ap (at_fragment 0 whole_turns) found, first);
        }

    -- what is to come before that, by one turn that opens no name
    one_turn : {ls ss : List (Selections F)} {x : ToCome F} {fs : List F} (p : IsToCome fragments before ss x)
        → Order fragments before (joined ls) fs p.names → turns_of_lists ls ≡ turns_of_lists ss + 1
        → IsToCome fragments before ls (record { fields = fs; opened = x.opened; turns = suc x.turns })
    one_turn p order one =
        record { names = p.names; order = order; opened = p.opened; turns = omega (arith, p.turns, one) }

    pub turn-by-turn : AreTurnByTurn fragments before
    turn-by-turn = record {
      ends = record { names = []; order = of_none; opened = refl; turns = refl };
      closes = λ ss x p. one_turn p (of_inline of_none p.order) (omega arith);
      gives = λ f below rest ss x p.
          let over_it = over-joined below _ p.order in
          one_turn p (field-first (regrouped over_it.0)) (omega (arith, over_it.1));
      goes_inside = λ inner rest ss x p. one_turn p (regrouped p.order) (omega arith);
      passes = λ n rest ss x why p. one_turn p (passed-first why p.order) (omega arith);
      opens = opens;
      goes_on = λ s ss x p. omega (arith, p.turns);
    }

  -- a walk begins with one list
  alone : {s : Selections F} {fs : List F} {ns : List (List ℕ)}
      → Order fragments no_names (inline s none) fs ns → Order fragments no_names s fs ns
  alone (of_inline {first = fs} {opened = ns} a of_none) = rw (append-nil fs, append-nil ns) a

  pub begins : (s : Selections F) (x : ToCome F) → IsToCome fragments no_names (s ∷ []) x
      → IsAllToCome fragments s x
  begins s x p =
      let order = alone p.order in
      let reaches = order_reaches fragments s x.fields p.names order in
      record {
        walk = order_walk fragments s x.fields p.names order;
        turns = (p.names, reaches, omega (arith, p.turns));
        opens = λ n.
            let in_names = with_names-in p.names n no_names in
            rw p.opened (
              λ h. reaches.sound n (opened-among n _ h),
              λ r. in_names (inr (reaches.complete n r)),
            );
      }
