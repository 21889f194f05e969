-- What ends a value. Where nothing comes next that may go on with it, what is spelled is read. What the value
-- would have taken never comes next behind what was read. Both depend on the value: an optional part that is
-- left out would have been taken, and one that is there is not taken twice.
use Rattle.std.proofs.Common.{◌≡◌, ℕ, Bool, true, false, not, cond, List, [], ◌∷◌, ◌++◌, Option, Some, None}
use Rattle.std.proofs.Common.{Ok, inl, inr, refl, sym, ap, ◌∙◌, append_assoc}
use Rattle.graphql_grammar.specs.declared.kind.Kind.{Kind}
use Rattle.graphql_grammar.specs.Kinds.{Kinds, each_kind, none}
use Rattle.graphql_grammar.specs.Words.{WordView, begins, ended, starting}
use Rattle.graphql_grammar.specs.Pieces.{Piece, Reading, State, Wrong, ◌>>=◌, branch, choose, filtered, item}
use Rattle.graphql_grammar.specs.Pieces.{located, mapped, nothing, optional, read_first, refused, seq, tested}
use Rattle.graphql_grammar.proofs.BranchLaws.{branch_law, goes_on_with}
use Rattle.graphql_grammar.proofs.PieceLaws.{Apart, Begun, Lawful, Stops, Took, apart, filtered_law, if_then}
use Rattle.graphql_grammar.proofs.PieceLaws.{implied, is_begun, item_law, located_law, mapped_law, not_begun}
use Rattle.graphql_grammar.proofs.PieceLaws.{nothing_law, optional_law, seq_law}
use Rattle.graphql_grammar.proofs.ReadingLemmas.{read_as, bind_ok, chosen, ended_append}

-- what may go on with a value, and what of that is taken wherever it comes next
pub record Limits : Type 0 where
  pub more : Kinds
  pub taken : Kinds

-- a lawful piece, and what ends each of its values
pub record Bounded {A : Type 0} (p : Piece A) (e : A → Limits) : Type 0 where
  pub lawful : Lawful p
  pub ends : (x : A) (front rest : List WordView) (last : ℕ) → p.spells x front → Stops (e x).more rest
      → p.read (record { last = last; left = front ++ rest })
      ≡ Ok (x, record { last = ended last front; left = rest })
  pub greedy : (s : State) (x : A) (then : State) → p.read s ≡ Ok (x, then) → Stops (e x).taken then.left

-- no kind comes next that is none
pub never : (rest : List WordView) → Stops none rest
never [] = tt
never (w ∷ ws) = refl

pub stops_where : (kinds : Kinds) (words : List WordView) → begins kinds words ≡ false → Stops kinds words
stops_where kinds [] e = tt
stops_where kinds (w ∷ ws) e = e

-- what stops all of one set stops all of another
pub stops_by : (a b : Kinds) → ((kind : Kind) → a kind ≡ false → b kind ≡ false) → (words : List WordView)
    → Stops a words → Stops b words
stops_by a b less [] stops = tt
stops_by a b less (w ∷ ws) stops = less w.kind stops

-- the same, by looking at each kind
pub within : (more after : Kinds) → each_kind (λ kind. if_then (not (after kind)) (more kind)) ≡ true
    → (kind : Kind) → after kind ≡ false → more kind ≡ false
within more after e kind h = apart more (λ other. not (after other)) e kind (ap not h)

-- ---- other limits

-- more may be said to go on, and less to be taken
pub wider : {A : Type 0} (p : Piece A) (e d : A → Limits) → Bounded p e
    → ((x : A) (front : List WordView) → p.spells x front → (rest : List WordView) → Stops (d x).more rest
    → Stops (e x).more rest)
    → ((x : A) (front : List WordView) → p.spells x front → (rest : List WordView) → Stops (e x).taken rest
    → Stops (d x).taken rest) → Bounded p d
wider p e d pb more taken = record {
  lawful = pb.lawful;
  ends = λ x front rest last h stops. pb.ends x front rest last h (more x front h rest stops);
  greedy = λ s x then is. let t : Took p.spells s x then = pb.lawful.sound s x then is in taken x t.front
      t.spelled then.left (pb.greedy s x then is);
}

-- what goes on with every value of a piece, of which none may be taken
abbrev pub same_limits : {A : Type 0} → Kinds → A → Limits
same_limits more x = record { more = more; taken = none }

pub lawful_bounded : {A : Type 0} (p : Piece A) → Lawful p → Bounded p (same_limits p.more)
lawful_bounded p pl = record { lawful = pl; ends = pl.complete; greedy = λ s x then is. never then.left }

-- ---- nothing

pub nothing_bounded : {A : Type 0} (wrong : Wrong) (e : A → Limits) → Bounded (nothing wrong) e
nothing_bounded wrong e = record {
  lawful = nothing_law wrong;
  ends = λ x front rest last h stops. absurd h;
  greedy = λ s x then is. absurd cc;
}

-- ---- one after the other

over : (first more after : Kinds) (may_be_empty : Bool) (tail rest : List WordView) → Apart more first
    → Begun first may_be_empty tail
    → (may_be_empty ≡ true → (kind : Kind) → after kind ≡ false → more kind ≡ false) → Stops after rest
    → Stops more (tail ++ rest)
over first more after may_be_empty [] rest apart begun less stops =
    stops_by after more (less begun) rest stops
over first more after may_be_empty (t ∷ ts) rest apart begun less stops = apart t.kind begun

module _ {A B : Type 0} (p : Piece A) (q : Piece B) (pl : Lawful p) (ql : Lawful q) (e : A
    × B → Limits) (qb : (x : A) → Bounded q (λ y. e (x, y))) where
  seq_ends : (x : A × B) (head tail rest : List WordView) (last : ℕ) → p.spells x.0 head → q.spells x.1 tail
      → Stops p.more (tail ++ rest) → Stops (e x).more rest
      → (seq p q).read (record { last = last; left = (head ++ tail) ++ rest })
      ≡ Ok (x, record { last = ended last (head ++ tail); left = rest })
  seq_ends x head tail rest last h g stops end = simp (
    append_assoc head tail rest,
    pl.complete x.0 head (tail ++ rest) last h stops,
    (qb x.0).ends x.1 tail rest (ended last head) g end,
    ended_append last head tail,
  )

  seq_greedy : (s : State) (x : A × B) (then : State) → (seq p q).read s ≡ Ok (x, then)
      → Stops (e x).taken then.left
  seq_greedy s x then is =
      let b = bind_ok (p.read s) (λ y. q.read y.1 >>= λ z. Ok ((y.0, z.0), z.1)) (x, then) is in
      let y : A × State = b.0 in
      let d = bind_ok (q.read y.1) (λ z. Ok ((y.0, z.0), z.1)) (x, then) b.2 in
      let z : B × State = d.0 in
      read_as (λ x then. Stops (e x).taken then.left) d.2 ((qb y.0).greedy y.1 z.0 z.1 d.1)

  -- what ends the second ends both; where the second may be empty, that must end the first
  pub seq_bounded : Apart p.more q.first
      → ((x : A × B) → q.may_be_empty ≡ true → (kind : Kind) → (e x).more kind ≡ false → p.more kind ≡ false)
      → Bounded (seq p q) e
  seq_bounded apart less = record {
    lawful = seq_law p q pl ql apart;
    ends = λ x front rest last h stops. rw h.whole
        (seq_ends x h.head h.tail rest last h.first h.second (over q.first p.more (e x).more q.may_be_empty
        h.tail rest apart (ql.begun x.1 h.tail h.second) (less x) stops) stops);
    greedy = seq_greedy;
  }

-- ---- the same, said otherwise

pub mapped_bounded : {A B : Type 0} (f : A → B) (p : Piece A) (e : B → Limits) → Bounded p (λ a. e (f a))
    → Bounded (mapped f p) e
mapped_bounded {A} {B} f p e pb = record {
  lawful = mapped_law f p pb.lawful;
  ends = λ x front rest last h stops.
      ap (λ (r : Reading A). r >>= λ y. Ok (f y.0, y.1)) (pb.ends h.0 front rest last h.2 (rw (← h.1) stops))
      ∙ ap (λ (b : B). Ok (b, record { last = ended last front; left = rest })) (sym h.1);
  greedy = λ s x then is.
      let b = bind_ok (p.read s) (λ y. Ok (f y.0, y.1)) (x, then) is in
      let y : A × State = b.0 in
      read_as (λ x then. Stops (e x).taken then.left) b.2 (pb.greedy s y.0 y.1 b.1);
}

-- ---- only what passes a test

pub filtered_bounded : {A : Type 0} (test : A → Bool) (wrong : Wrong) (p : Piece A) (e : A → Limits)
    → Bounded p e → Bounded (filtered test wrong p) e
filtered_bounded {A} test wrong p e pb = record {
  lawful = filtered_law test wrong p pb.lawful;
  ends = λ x front rest last h stops.
      let then : State = record { last = ended last front; left = rest } in
      ap (λ (r : Reading A). r >>= tested test wrong) (pb.ends x front rest last h.0 stops)
      ∙ ap (λ (b : Bool). cond b (Ok (x, then)) (refused (wrong rest) rest)) h.1;
  greedy = λ s x then is.
      let b = bind_ok (p.read s) (tested test wrong) (x, then) is in
      let y : A × State = b.0 in
      elim (chosen (test y.0) (Ok y) (refused (wrong y.1.left) y.1.left) (Ok (x, then)) b.2) [
        | inl (hit, same) ↦ read_as (λ x then. Stops (e x).taken then.left) same (pb.greedy s y.0 y.1 b.1)
        | inr (miss, same) ↦ absurd cc
      ];
}

-- ---- one or none

-- what begins one that is not there would be taken
abbrev pub optional_limits : {A : Type 0} → Kinds → (A → Limits) → Option A → Limits
optional_limits first e None = record { more = first; taken = first }
optional_limits first e (Some x) = e x

module _ {A : Type 0} (p : Piece A) (solid : p.may_be_empty ≡ false) (e : A → Limits) (pb : Bounded p e) where
  optional_ends : (x : Option A) (front rest : List WordView) (last : ℕ) → (optional p).spells x front
      → Stops (optional_limits p.first e x).more rest
      → (optional p).read (record { last = last; left = front ++ rest })
      ≡ Ok (x, record { last = ended last front; left = rest })
  optional_ends None front rest last h stops =
      rw h (ap (λ (b : Bool). cond b (p.read (record { last = last; left = rest }) >>= λ y. Ok
      (Some y.0, y.1)) (Ok (None, record { last = last; left = rest }))) (not_begun none p.first rest stops))
  optional_ends (Some a) front rest last h stops = simp (
    is_begun p.first p.may_be_empty front rest solid (pb.lawful.begun a front h),
    pb.ends a front rest last h stops,
  )

  optional_greedy : (s : State) (x : Option A) (then : State) → (optional p).read s ≡ Ok (x, then)
      → Stops (optional_limits p.first e x).taken then.left
  optional_greedy s x then is =
      elim (chosen (begins p.first s.left) (p.read s >>= λ y. Ok (Some y.0, y.1)) (Ok (None, s))
      (Ok (x, then)) is) [
        | inl (hit, same) ↦
            let b = bind_ok (p.read s) (λ y. Ok (Some y.0, y.1)) (x, then) same in
            let y : A × State = b.0 in
            read_as (λ x then. Stops (optional_limits p.first e x).taken then.left) b.2
            (pb.greedy s y.0 y.1 b.1)
        | inr (miss, same) ↦ read_as (λ x then. Stops (optional_limits p.first e x).taken then.left) same
            (stops_where p.first s.left miss)
      ]

  pub optional_bounded : Bounded (optional p) (optional_limits p.first e)
  optional_bounded = record {
    lawful = optional_law p pb.lawful solid;
    ends = optional_ends;
    greedy = optional_greedy;
  }

-- ---- one of several

pub choose_bounded : {A : Type 0} (flag : Bool) {p q : Piece A} (e : A → Limits) → Bounded p e → Bounded q e
    → Bounded (choose flag p q) e
choose_bounded true e pb qb = pb
choose_bounded false e pb qb = qb

module _ {A : Type 0} (first more : Kinds) (pick : Kind → Piece A) (wrong : Wrong) (e : A
    → Limits) (bounds : (kind : Kind) → Bounded (pick kind) e) where
  branch_ends : (x : A) (front rest : List WordView) (last : ℕ)
      → (branch first more pick wrong).spells x front → Stops (e x).more rest
      → (branch first more pick wrong).read (record { last = last; left = front ++ rest })
      ≡ Ok (x, record { last = ended last front; left = rest })
  branch_ends x [] rest last h stops = absurd h
  branch_ends x (w ∷ ws) rest last h stops = (bounds w.kind).ends x (w ∷ ws) rest last h stops

  branch_greedy : (last : ℕ) (left : List WordView) (x : A) (then : State)
      → read_first pick wrong (record { last = last; left = left }) left ≡ Ok (x, then)
      → Stops (e x).taken then.left
  branch_greedy last [] x then is = absurd cc
  branch_greedy last (w ∷ ws) x then is = (bounds w.kind).greedy (record { last = last; left = w ∷ ws }) x
      then is

  pub branch_bounded : each_kind (λ kind. not (pick kind).may_be_empty) ≡ true
      → each_kind (λ kind. implied ((pick kind).first kind) (first kind)) ≡ true
      → goes_on_with more pick ≡ true → Bounded (branch first more pick wrong) e
  branch_bounded solid heads goes = record {
    lawful = branch_law first more pick wrong (λ kind. (bounds kind).lawful) solid heads goes;
    ends = branch_ends;
    greedy = λ s x then is. branch_greedy s.last s.left x then is;
  }

-- ---- with where it stands

module _ {A : Type 0} (p : Piece A) (solid : p.may_be_empty ≡ false) (e : A × (ℕ × ℕ) → Limits) (pb : (at : ℕ
    × ℕ) → Bounded p (λ x. e (x, at))) where
  located_filled : (front : List WordView) → Begun p.first p.may_be_empty front → front ≡ [] → ⊥
  located_filled [] begun none = absurd (let both = sym begun ∙ solid in cc)
  located_filled (w ∷ ws) begun none = absurd cc

  located_ends : (x : A × (ℕ × ℕ)) (front rest : List WordView) (last : ℕ) → (located p).spells x front
      → Stops (e x).more rest
      → (located p).read (record { last = last; left = front ++ rest })
      ≡ Ok (x, record { last = ended last front; left = rest })
  located_ends x [] rest last h stops = absurd (located_filled [] ((pb x.1).lawful.begun x.0 [] h.0) refl)
  located_ends x (w ∷ ws) rest last h stops = rw ((pb x.1).ends x.0 (w ∷ ws) rest last h.0 stops, h.1)

  pub located_bounded : Bounded (located p) e
  located_bounded = record {
    lawful = located_law p (pb (0, 0)).lawful solid;
    ends = located_ends;
    greedy = λ s x then is.
        let b = bind_ok (p.read s) (λ y. Ok ((y.0, (starting s.left, y.1.last)), y.1)) (x, then) is in
        let y : A × State = b.0 in
        read_as (λ x then. Stops (e x).taken then.left) b.2
        ((pb (starting s.left, y.1.last)).greedy s y.0 y.1 b.1);
  }

-- ---- an item

pub item_bounded : {A : Type 0} (kinds : Kinds) (wrong : Wrong) (p : Piece A) (e : A → Limits) → Bounded p e
    → each_kind (λ other. implied (p.first other) (kinds other)) ≡ true → p.may_be_empty ≡ false
    → Bounded (item kinds wrong p) e
item_bounded kinds wrong p e pb first solid =
    let il : Lawful (item kinds wrong p) = item_law kinds wrong p pb.lawful first solid in
    record {
      lawful = il;
      ends = λ x front rest last h stops.
          ap (λ (b : Bool). cond b (p.read (record { last = last; left = front ++ rest }))
          (refused (wrong (front ++ rest)) (front ++ rest))) (is_begun kinds false front rest refl
          (il.begun x front h)) ∙ pb.ends x front rest last h stops;
      greedy = λ s x then is. elim (chosen (begins kinds s.left) (p.read s) (refused (wrong s.left) s.left)
          (Ok (x, then)) is) [ inl (hit, same) ↦ pb.greedy s x then same | inr (miss, same) ↦ absurd cc ];
    }
