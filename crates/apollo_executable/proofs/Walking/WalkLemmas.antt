-- What the parts of a walk say of its open lists.
use Rattle.std.proofs.Common.{◌≡◌, ◌≤◌, ◌<◌, ◌+◌, ℕ, Bool, cond, true, false, List, [], ◌∷◌, ◌++◌, Option}
use Rattle.std.proofs.Common.{None, Some, Result, Ok, Err, OnOk, OnErr, is_err, length, arith, refl, sym, ap}
use Rattle.std.proofs.Common.{◌∙◌}
use Rattle.std.proofs.lemmas.List.{reverse-append, map-append}
use Rattle.std.specs.Prelude.{nat_eq}
use Rattle.std.specs.Borrow.{Bor}
use Rattle.std.specs.declared.alloc.AllocError.{AllocError}
use Rattle.graphql_nodes.specs.NodeView.{NodeView}
use Rattle.apollo_walks.specs.Selections.{Names}
use Rattle.apollo_walks.specs.ToCome.{ToCome}
use Rattle.apollo_executable.specs.Walks.Left.{waiting_lists, names_opened, left_of, whole_walk, IsTurn}
use Rattle.apollo_executable.specs.Walks.LeftByTurn.{IsLeftByTurn, IsWholeWalk}
use Rattle.apollo_executable.specs.Walks.NextItem.{IsOver}
use Rattle.apollo_executable.specs.Walks.Seen.{seen_of, seen}
use Rattle.apollo_executable.specs.Walks.Step.{GivesInTurn, IsStep}
use Rattle.apollo_executable.specs.declared.selection.Selection.{Selection}
use Rattle.apollo_executable.specs.declared.selection.SelectionSet.{SelectionSet}
use Rattle.apollo_executable.specs.declared.selection.Field.{Field}
use Rattle.apollo_executable.specs.declared.document.ExecutableDocument.{ExecutableDocument}
use Rattle.apollo_executable.specs.declared.walks.open_lists.OpenLists.{OpenLists}
use Rattle.apollo_executable.specs.declared.walks.walk.Walk.{Walk}

abbrev Did : Type 0
Did = Result (Option (Bor (NodeView Field))) AllocError

abbrev fields : ToCome (NodeView Field) → List (NodeView Field)
fields x = x.fields

abbrev opened : ToCome (NodeView Field) → Names
opened x = x.opened

abbrev turns : ToCome (NodeView Field) → ℕ
turns x = x.turns

pub waiting-push : (lists : List (Bor (List Selection))) (l : Bor (List Selection))
    → waiting_lists (lists ++ l ∷ []) ≡ l.now ∷ waiting_lists lists
unfolding waiting_lists
waiting-push lists l = simp (map-append, reverse-append)

pub waiting-empty : waiting_lists [] ≡ []
unfolding waiting_lists
waiting-empty = refl

pub OnErr-always : {T E : Type 0} (A : Type 0) (r : Result T E) → A → OnErr r A
OnErr-always A r a = grind (arith, a)

pub cons-by-length : {A : Type 0} (xs : List A) → (nat_eq (length xs) 0) ≡ false
    → (x : A) × (ys : List A) × (xs ≡ x ∷ ys)
cons-by-length [] is = absurd (cc)
cons-by-length (x ∷ xs) is = (x, xs, refl)

-- what one turn costs, opens and gives
counts : (start : SelectionSet) (old new : OpenLists) (did : Did) → IsTurn old did new
    → (cond (is_err did) 1 0 ≤ 1) × ((left_of old).turns + cond (is_err did) 1 0 ≡ (left_of new).turns + 1)
    × ((left_of new).opened ≡ (left_of old).opened) × GivesInTurn (seen_of start old false) did
    (seen_of start new (is_err did)) × OnOk did ((left_of new).turns < (left_of old).turns)
counts start old new (Ok (Some field)) is =
    let e = ap turns is.0 in
    (omega arith, omega arith, sym (ap opened is.0), (ap fields is.0, is.1), omega arith)
counts start old new (Ok None) is =
    let e = ap turns is in (omega arith, omega arith, sym (ap opened is), ap fields is, omega arith)
counts start old new (Err error) is =
    let e = ap turns is in (omega arith, omega arith, sym (ap opened is), (refl, refl), tt)

-- a whole walk over this set, where these lists are open
abbrev whole_of : SelectionSet → OpenLists → ToCome (NodeView Field)
whole_of start lists = whole_walk lists.deep lists.document.now start

-- what one turn leaves of a walk over this set
pub record IsTurned (start : SelectionSet) (old new : OpenLists) (did : Did) : Type 0 where
  pub step : IsStep (seen_of start old false) did (seen_of start new (is_err did))
  pub left_over : (left_of new).turns ≤ (whole_of start new).turns
  pub left_open : (left_of new).opened ≡ (whole_of start new).opened
  pub bounded : (seen_of start new (is_err did)).taken ≤ (whole_of start new).turns
  pub less : OnOk did ((left_of new).turns < (left_of old).turns)

module _ (is_left : (deep : Bool) (document : ExecutableDocument) (names : Names)
    (lists : List (List Selection)) → IsLeftByTurn deep document names lists)
    (is_whole : (deep : Bool) (document : ExecutableDocument) (set : SelectionSet)
    → IsWholeWalk deep document set (whole_walk deep document set)) where
  pub turned : (w : Walk) (new : OpenLists) (did : Did) → w.lists.ended ≡ false → new.deep ≡ w.lists.deep
      → new.document ≡ w.lists.document → IsTurn w.lists did new → IsTurned w.start.now w.lists new did
  turned w new did going deep document turn =
      let start = w.start.now in
      let same : whole_of start new
      ≡ whole_of start w.lists = λ i. whole_walk (deep i) ((document i).now) start in
      let all = ap turns same in
      let more : 0 < (left_of w.lists).turns =
      rw going ((is_left _ _ _ (waiting_lists w.lists.waiting.items)).goes_on w.lists.current.now) in
      let over = w.left_over in
      let (one, spent, names, gives, less) = counts start w.lists new did turn in
      let bounded : (seen_of start new (is_err did)).taken ≤ (whole_of start new).turns =
      omega (arith, one, spent, all) in
      record {
        step = record {
          deep = deep;
          document = λ i. (document i).now;
          start = refl;
          going = going;
          gives = gives;
          taken = omega (arith, one, spent, all);
          bound = (is_whole _ _ start).within _ bounded;
        };
        left_over = omega (arith, one, spent, all);
        left_open = names ∙ w.left_open ∙ sym (ap opened same);
        bounded = bounded;
        less = less;
      }

  -- no field comes where no list is open, and the walk is over if memory sufficed
  pub at-end : (w : Walk) → w.refused ≡ false → w.lists.ended ≡ true
      → ((seen w).coming ≡ []) × IsOver (seen w)
  at-end w fine ended =
      let whole = is_whole w.lists.deep w.lists.document.now w.start.now in
      let nothing : left_of w.lists ≡ record { fields = []; opened = names_opened w.lists; turns = 0 } =
      rw ended (is_left _ _ _ []).ends in
      let names : (whole_of w.start.now w.lists).opened ≡ names_opened w.lists = sym w.left_open
      ∙ ap opened nothing in
      let none_left = ap turns nothing in
      let taken : (seen w).taken ≡ (whole_of w.start.now w.lists).turns =
      rw fine (omega (arith, none_left)) in
      (rw (fine, nothing) refl, (rw taken whole.turns, rw names at whole.opened))
