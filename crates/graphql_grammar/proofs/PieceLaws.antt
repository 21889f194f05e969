-- What a piece reads is spelled so, and what is spelled so is read, whatever stands behind it that can't go
-- on with it.
use Rattle.std.proofs.Common.{arith, ◌≡◌, ℕ, zero, suc, Bool, true, false, not, ◌&&◌, cond, List, [], ◌∷◌}
use Rattle.std.proofs.Common.{◌++◌, Option, Some, None, Ok, inl, inr, refl, sym, ap, ◌∙◌, append_assoc}
use Rattle.graphql_grammar.specs.declared.fault.FaultKind.{FaultKind}
use Rattle.graphql_grammar.specs.declared.fault.FaultKind.TheVariants.{Expected, TooDeep}
use Rattle.graphql_grammar.specs.declared.fault.Item.TheVariants as i
use Rattle.graphql_grammar.specs.declared.kind.Kind.{Kind}
use Rattle.graphql_grammar.specs.Kinds.{Kinds, each_kind, either_of, only}
use Rattle.graphql_grammar.specs.Words.{WordView, begins, ended, starting}
use Rattle.graphql_grammar.specs.Pieces.{Piece, Reading, State, Wrong, ◌>>=◌, filtered, headed, item, located}
use Rattle.graphql_grammar.specs.Pieces.{mapped, nested, nothing, optional, picked, picked_at, refused, seq}
use Rattle.graphql_grammar.specs.Pieces.{sign, sign_or, take_picked, take_word, tested, word}
use Rattle.graphql_grammar.specs.Spelling.{Parts}
use Rattle.graphql_grammar.proofs.KindLemmas.{of_each}
use Rattle.graphql_grammar.proofs.ReadingLemmas.{read_as, bind_ok, chosen, ended_append, or_false, or_left}
use Rattle.graphql_grammar.proofs.ReadingLemmas.{or_right}

-- reading took words from the front that spell the value
pub record Took {A : Type 0} (spells : A → List WordView → Type 0) (s : State) (x : A) (then : State) : Type
    0 where
  pub front : List WordView
  pub left : s.left ≡ front ++ then.left
  pub last : then.last ≡ ended s.last front
  pub spelled : spells x front

-- words that spell one thing, and words that spell another
pub joined : {P Q : List WordView → Type 0} (head tail : List WordView) → P head → Q tail
    → Parts P Q (head ++ tail)
joined head tail h g = record { head = head; tail = tail; whole = refl; first = h; second = g }

-- one thing was taken, and then another
pub took_both : {A B : Type 0} {P : A → List WordView → Type 0} {Q : B → List WordView → Type 0}
    {s between then : State} {x : A} {y : B} → Took P s x between → Took Q between y then
    → Took (λ (z : A × B) front. Parts (P z.0) (Q z.1) front) s (x, y) then
took_both {s} {then = then} t u = record {
  front = t.front ++ u.front;
  left = t.left ∙ ap (λ (l : List WordView). t.front ++ l) u.left
      ∙ sym (append_assoc t.front u.front then.left);
  last = u.last ∙ ap (λ (n : ℕ). ended n u.front) t.last ∙ sym (ended_append s.last t.front u.front);
  spelled = joined t.front u.front t.spelled u.spelled;
}

-- the words that were taken spell something else, too
pub took_as : {A B : Type 0} {P : A → List WordView → Type 0} {Q : B → List WordView → Type 0}
    {s then : State} {x : A} (y : B) → Took P s x then
    → ((front : List WordView) → P x front → Q y front) → Took Q s y then
took_as y t so = record { front = t.front; left = t.left; last = t.last; spelled = so t.front t.spelled }

-- what no words spell is taken at once
pub took_none : {A : Type 0} {P : A → List WordView → Type 0} {s : State} (x : A) → P x [] → Took P s x s
took_none x h = record { front = []; left = refl; last = refl; spelled = h }

-- none of these kinds comes next
abbrev pub Stops : Kinds → List WordView → Type 0
Stops more [] = Unit {0}
Stops more (t ∷ ts) = more t.kind ≡ false

-- such words begin with one of these kinds, or are none
abbrev pub Begun : Kinds → Bool → List WordView → Type 0
Begun first may_be_empty [] = may_be_empty ≡ true
Begun first may_be_empty (t ∷ ts) = first t.kind ≡ true

-- nothing of the second set is in the first
abbrev pub Apart : Kinds → Kinds → Type 0
Apart more first = (kind : Kind) → first kind ≡ true → more kind ≡ false

-- what a piece reads is spelled so
abbrev pub Sound : {A : Type 0} → Piece A → Type 0
Sound {A} p = (s : State) (x : A) (then : State) → p.read s ≡ Ok (x, then) → Took p.spells s x then

-- what a piece reads is spelled so, and what is spelled so is read, whatever stands behind it that can't go
-- on with it
pub record Lawful {A : Type 0} (p : Piece A) : Type 0 where
  pub sound : Sound p
  pub complete : (x : A) (front rest : List WordView) (last : ℕ) → p.spells x front → Stops p.more rest
      → p.read (record { last = last; left = front ++ rest })
      ≡ Ok (x, record { last = ended last front; left = rest })
  pub begun : (x : A) (front : List WordView) → p.spells x front → Begun p.first p.may_be_empty front

pub stops_left : (a b : Kinds) (rest : List WordView) → Stops (either_of a b) rest → Stops a rest
stops_left a b [] stops = tt
stops_left a b (t ∷ ts) stops = (or_false (a t.kind) (b t.kind) stops).0

pub stops_right : (a b : Kinds) (rest : List WordView) → Stops (either_of a b) rest → Stops b rest
stops_right a b [] stops = tt
stops_right a b (t ∷ ts) stops = (or_false (a t.kind) (b t.kind) stops).1

-- ---- sets of kinds, by looking at each kind

-- not both
abbrev pub if_then : Bool → Bool → Bool
if_then true true = false
if_then true false = true
if_then false b = true

not_both : (a b : Bool) → (if_then a b) ≡ true → a ≡ true → b ≡ false
not_both a b e h = grind arith

-- no kind is in both
pub apart : (more first : Kinds) → each_kind (λ kind. if_then (first kind) (more kind)) ≡ true
    → Apart more first
apart more first e kind h =
    not_both (first kind) (more kind) (of_each (λ kind. if_then (first kind) (more kind)) e kind) h

-- ---- one word

took_word : (kinds : Kinds) (fault : FaultKind) (wrong : Wrong) (last : ℕ) (left : List WordView)
    (w : WordView) (then : State) → take_word kinds fault left ≡ Ok (w, then)
    → Took (word kinds wrong).spells (record { last = last; left = left }) w then
took_word kinds fault wrong last [] w then e = absurd cc
took_word kinds fault wrong last (o ∷ os) w then e =
    elim (chosen (kinds o.kind) (Ok (o, record { last = o.end; left = os })) (refused fault (o ∷ os))
    (Ok (w, then)) e) [
      | inl (hit, is) ↦ read_as (Took (word kinds wrong).spells (record { last = last; left = o ∷ os })) is
          (record { front = o ∷ []; left = refl; last = refl; spelled = (refl, hit) })
      | inr (miss, is) ↦ absurd cc
    ]

word_again : (kinds : Kinds) (fault : FaultKind) (w : WordView) (front rest : List WordView) (last : ℕ)
    → (front ≡ w ∷ []) × (kinds w.kind ≡ true)
    → take_word kinds fault (front ++ rest) ≡ Ok (w, record { last = ended last front; left = rest })
word_again kinds fault w front rest last h =
    rw h.0 (ap (λ (b : Bool). cond b (Ok (w, record { last = w.end; left = rest }))
    (refused fault (w ∷ rest))) h.1)

pub word_law : (kinds : Kinds) (wrong : Wrong) → Lawful (word kinds wrong)
word_law kinds wrong = record {
  sound = λ s x then e. took_word kinds (wrong s.left) wrong s.last s.left x then e;
  complete = λ x front rest last h _. word_again kinds (wrong (front ++ rest)) x front rest last h;
  begun = λ x front h. rw h.0 h.1;
}

took_picked : {A : Type 0} (pick : WordView → Option A) (kinds : Kinds) (wrong : Wrong) (fault : FaultKind)
    (last : ℕ) (w : WordView) (ws : List WordView) (made : Option A) (x : A) (then : State) → pick w ≡ made
    → picked_at w ws made fault ≡ Ok (x, then)
    → Took (picked pick kinds wrong).spells (record { last = last; left = w ∷ ws }) x then
took_picked pick kinds wrong fault last w ws None x then is e = absurd cc
took_picked {A} pick kinds wrong fault last w ws (Some y) x then is e =
    read_as (Took (picked pick kinds wrong).spells (record { last = last; left = w ∷ ws })) e
    (record { front = w ∷ []; left = refl; last = refl; spelled = (w, refl, is) })

took_first : {A : Type 0} (pick : WordView → Option A) (kinds : Kinds) (wrong : Wrong) (fault : FaultKind)
    (last : ℕ) (left : List WordView) (x : A) (then : State) → take_picked pick fault left ≡ Ok (x, then)
    → Took (picked pick kinds wrong).spells (record { last = last; left = left }) x then
took_first pick kinds wrong fault last [] x then e = absurd cc
took_first pick kinds wrong fault last (w ∷ ws) x then e = took_picked pick kinds wrong fault last w ws
    (pick w) x then refl e

-- what a word is picked as says that it is of these kinds
pub picked_law : {A : Type 0} (pick : WordView → Option A) (kinds : Kinds) (wrong : Wrong)
    → ((w : WordView) (x : A) → pick w ≡ Some x → kinds w.kind ≡ true) → Lawful (picked pick kinds wrong)
picked_law {A} pick kinds wrong sure = record {
  sound = λ s x then e. took_first pick kinds wrong (wrong s.left) s.last s.left x then e;
  complete = λ x front rest last h _. rw h.1
      (ap (λ (o : Option A). picked_at h.0 rest o (wrong (h.0 ∷ rest))) h.2);
  begun = λ x front h. rw h.1 (sure h.0 x h.2);
}

pub sign_or_law : (kind : Kind) (wrong : Wrong) → Lawful (sign_or kind wrong)
sign_or_law kind wrong = record {
  sound = λ s x then e.
      let b = bind_ok (take_word (only kind) (wrong s.left) s.left) (λ y. Ok (tt, y.1)) (x, then) e in
      let y : WordView × State = b.0 in
      read_as (Took (sign_or kind wrong).spells s) b.2
      (took_as tt (took_word (only kind) (wrong s.left) wrong s.last s.left y.0 y.1 b.1)
      (λ _ h. (y.0, h.0, h.1)));
  complete = λ x front rest last h _.
      ap (λ (r : Reading WordView). r >>= λ y. Ok (tt, y.1)) (word_again (only kind) (wrong (front ++ rest))
      h.0 front rest last (h.1, h.2));
  begun = λ x front h. rw h.1 h.2;
}

pub sign_law : (kind : Kind) → Lawful (sign kind)
sign_law kind = sign_or_law kind (λ _. Expected (i.Word kind))

-- ---- nothing

pub nothing_law : {A : Type 0} (wrong : Wrong) → Lawful (nothing {A = A} wrong)
nothing_law {A} wrong = record {
  sound = λ s x then e. absurd cc;
  complete = λ x front rest last h stops. absurd h;
  begun = λ x front h. absurd h;
}

-- ---- one after the other

through : (first more after : Kinds) (may_be_empty : Bool) (tail rest : List WordView) → Apart more first
    → Begun first may_be_empty tail → Stops (cond may_be_empty (either_of after more) after) rest
    → Stops more (tail ++ rest)
through first more after may_be_empty (t ∷ ts) rest apart begun stops = apart t.kind begun
through first more after true [] rest apart begun stops = stops_right after more rest stops
through first more after false [] rest apart begun stops = absurd cc

after_stops : (more after : Kinds) (may_be_empty : Bool) (rest : List WordView)
    → Stops (cond may_be_empty (either_of after more) after) rest → Stops after rest
after_stops more after true rest stops = stops_left after more rest stops
after_stops more after false rest stops = stops

begun_both : (p q : Kinds) (e f : Bool) (head tail : List WordView) → Begun p e head → Begun q f tail
    → Begun (cond e (either_of p q) p) (e && f) (head ++ tail)
begun_both p q true f (t ∷ ts) tail h g = or_left (p t.kind) (q t.kind) h
begun_both p q false f (t ∷ ts) tail h g = h
begun_both p q true f [] [] h g = g
begun_both p q true f [] (t ∷ ts) h g = or_right (p t.kind) (q t.kind) g
begun_both p q false f [] tail h g = absurd cc

pub seq_sound : {A B : Type 0} (p : Piece A) (q : Piece B) → Sound p → Sound q → Sound (seq p q)
seq_sound {A} {B} p q ps qs s x then e =
    let b = bind_ok (p.read s) (λ y. q.read y.1 >>= λ z. Ok ((y.0, z.0), z.1)) (x, then) e in
    let y : A × State = b.0 in
    let d = bind_ok (q.read y.1) (λ z. Ok ((y.0, z.0), z.1)) (x, then) b.2 in
    let z : B × State = d.0 in
    read_as (Took (seq p q).spells s) d.2 (took_both (ps s y.0 y.1 b.1) (qs y.1 z.0 z.1 d.1))

module _ {A B : Type 0} (p : Piece A) (q : Piece B) (pl : Lawful p) (ql : Lawful q) where
  seq_again : (x : A × B) (head tail rest : List WordView) (last : ℕ) → p.spells x.0 head → q.spells x.1 tail
      → Stops p.more (tail ++ rest) → Stops q.more rest
      → (seq p q).read (record { last = last; left = (head ++ tail) ++ rest })
      ≡ Ok (x, record { last = ended last (head ++ tail); left = rest })
  seq_again x head tail rest last h g stops end = simp (
    append_assoc head tail rest,
    pl.complete x.0 head (tail ++ rest) last h stops,
    ql.complete x.1 tail rest (ended last head) g end,
    ended_append last head tail,
  )

  pub seq_law : Apart p.more q.first → Lawful (seq p q)
  seq_law apart = record {
    sound = seq_sound p q pl.sound ql.sound;
    complete = λ x front rest last h stops. rw h.whole
        (seq_again x h.head h.tail rest last h.first h.second (through q.first p.more q.more q.may_be_empty
        h.tail rest apart (ql.begun x.1 h.tail h.second) stops) (after_stops p.more q.more q.may_be_empty
        rest stops));
    begun = λ x front h. rw h.whole
        (begun_both p.first q.first p.may_be_empty q.may_be_empty h.head h.tail (pl.begun x.0 h.head h.first)
        (ql.begun x.1 h.tail h.second));
  }

-- ---- the same, said otherwise

pub mapped_sound : {A B : Type 0} (f : A → B) (p : Piece A) → Sound p → Sound (mapped f p)
mapped_sound {A} f p ps s x then e =
    let b = bind_ok (p.read s) (λ y. Ok (f y.0, y.1)) (x, then) e in
    let y : A × State = b.0 in
    read_as (Took (mapped f p).spells s) b.2 (took_as (f y.0) (ps s y.0 y.1 b.1) (λ _ h. (y.0, refl, h)))

pub mapped_law : {A B : Type 0} (f : A → B) (p : Piece A) → Lawful p → Lawful (mapped f p)
mapped_law {A} {B} f p pl = record {
  sound = mapped_sound f p pl.sound;
  complete = λ x front rest last h stops.
      ap (λ (r : Reading A). r >>= λ y. Ok (f y.0, y.1)) (pl.complete h.0 front rest last h.2 stops)
      ∙ ap (λ (b : B). Ok (b, record { last = ended last front; left = rest })) (sym h.1);
  begun = λ x front h. pl.begun h.0 front h.2;
}

-- ---- only what passes a test

pub filtered_law : {A : Type 0} (test : A → Bool) (wrong : Wrong) (p : Piece A) → Lawful p
    → Lawful (filtered test wrong p)
filtered_law {A} test wrong p pl = record {
  sound = λ s x then e.
      let b = bind_ok (p.read s) (tested test wrong) (x, then) e in
      let y : A × State = b.0 in
      elim (chosen (test y.0) (Ok y) (refused (wrong y.1.left) y.1.left) (Ok (x, then)) b.2) [
        | inl (hit, is) ↦ read_as (Took (filtered test wrong p).spells s) is
            (took_as y.0 (pl.sound s y.0 y.1 b.1) (λ _ h. (h, hit)))
        | inr (miss, is) ↦ absurd cc
      ];
  complete = λ x front rest last h stops.
      let then : State = record { last = ended last front; left = rest } in
      ap (λ (r : Reading A). r >>= tested test wrong) (pl.complete x front rest last h.0 stops)
      ∙ ap (λ (b : Bool). cond b (Ok (x, then)) (refused (wrong rest) rest)) h.1;
  begun = λ x front h. pl.begun x front h.0;
}

-- ---- one or none

pub not_begun : (a b : Kinds) (rest : List WordView) → Stops (either_of a b) rest → begins b rest ≡ false
not_begun a b [] stops = refl
not_begun a b (t ∷ ts) stops = (or_false (a t.kind) (b t.kind) stops).1

pub is_begun : (first : Kinds) (may_be_empty : Bool) (front rest : List WordView) → may_be_empty ≡ false
    → Begun first may_be_empty front → begins first (front ++ rest) ≡ true
is_begun first may_be_empty [] rest e b = absurd cc
is_begun first may_be_empty (t ∷ ts) rest e b = b

begun_anyhow : (first : Kinds) (may_be_empty : Bool) (front : List WordView) → may_be_empty ≡ false
    → Begun first may_be_empty front → Begun first true front
begun_anyhow first may_be_empty [] e b = absurd cc
begun_anyhow first may_be_empty (t ∷ ts) e b = b

module _ {A : Type 0} (p : Piece A) (pl : Lawful p) (solid : p.may_be_empty ≡ false) where
  optional_sound : (s : State) (x : Option A) (then : State) → (optional p).read s ≡ Ok (x, then)
      → Took (optional p).spells s x then
  optional_sound s x then e =
      elim (chosen (begins p.first s.left) (p.read s >>= λ y. Ok (Some y.0, y.1)) (Ok (None, s))
      (Ok (x, then)) e) [
        | inl (hit, is) ↦
            let b = bind_ok (p.read s) (λ y. Ok (Some y.0, y.1)) (x, then) is in
            let y : A × State = b.0 in
            read_as (Took (optional p).spells s) b.2
            (took_as (Some y.0) (pl.sound s y.0 y.1 b.1) (λ _ h. h))
        | inr (miss, is) ↦ read_as (Took (optional p).spells s) is (took_none None refl)
      ]

  optional_again : (x : Option A) (front rest : List WordView) (last : ℕ) → (optional p).spells x front
      → Stops (optional p).more rest
      → (optional p).read (record { last = last; left = front ++ rest })
      ≡ Ok (x, record { last = ended last front; left = rest })
  optional_again None front rest last h stops =
      rw h (ap (λ (b : Bool). cond b (p.read (record { last = last; left = rest }) >>= λ y. Ok
      (Some y.0, y.1)) (Ok (None, record { last = last; left = rest }))) (not_begun p.more p.first rest
      stops))
  optional_again (Some a) front rest last h stops = simp (
    is_begun p.first p.may_be_empty front rest solid (pl.begun a front h),
    pl.complete a front rest last h (stops_left p.more p.first rest stops),
  )

  optional_begun : (x : Option A) (front : List WordView) → (optional p).spells x front
      → Begun p.first true front
  optional_begun None front h = rw h refl
  optional_begun (Some a) front h = begun_anyhow p.first p.may_be_empty front solid (pl.begun a front h)

  pub optional_law : Lawful (optional p)
  optional_law = record { sound = optional_sound; complete = optional_again; begun = optional_begun }

-- ---- with where it stands

start_of : (first : Kinds) (e : Bool) (front rest : List WordView) → e ≡ false → Begun first e front
    → starting (front ++ rest) ≡ starting front
start_of first e [] rest miss b = absurd cc
start_of first e (t ∷ ts) rest miss b = refl

end_of : (first : Kinds) (e : Bool) (front : List WordView) (last : ℕ) → e ≡ false → Begun first e front
    → ended last front ≡ ended 0 front
end_of first e [] last miss b = absurd cc
end_of first e (t ∷ ts) last miss b = refl

module _ {A : Type 0} (p : Piece A) (pl : Lawful p) (solid : p.may_be_empty ≡ false) where
  located_sound : (s : State) (x : A × (ℕ × ℕ)) (then : State) → (located p).read s ≡ Ok (x, then)
      → Took (located p).spells s x then
  located_sound s x then e =
      let b = bind_ok (p.read s) (λ y. Ok ((y.0, (starting s.left, y.1.last)), y.1)) (x, then) e in
      let y : A × State = b.0 in
      let t : Took p.spells s y.0 y.1 = pl.sound s y.0 y.1 b.1 in
      let begun : Begun p.first p.may_be_empty t.front = pl.begun y.0 t.front t.spelled in
      let start : starting s.left ≡ starting t.front = ap starting t.left ∙ start_of p.first p.may_be_empty
      t.front y.1.left solid begun in
      let end : y.1.last ≡ ended 0 t.front = t.last ∙ end_of p.first p.may_be_empty t.front s.last solid
      begun in
      let span : (starting s.left, y.1.last) ≡ (starting t.front, ended 0 t.front) = cc in
      read_as (Took (located p).spells s) b.2
      (record { front = t.front; left = t.left; last = t.last; spelled = (t.spelled, span) })

  located_again : (x : A × (ℕ × ℕ)) (front rest : List WordView) (last : ℕ) → (located p).spells x front
      → Stops p.more rest
      → (located p).read (record { last = last; left = front ++ rest })
      ≡ Ok (x, record { last = ended last front; left = rest })
  located_again x front rest last h stops =
      let begun : Begun p.first p.may_be_empty front = pl.begun x.0 front h.0 in
      let start : starting (front ++ rest) ≡ starting front = start_of p.first p.may_be_empty front rest solid
      begun in
      let end : ended last front ≡ ended 0 front = end_of p.first p.may_be_empty front last solid begun in
      let span : (starting (front ++ rest), ended last front) ≡ x.1 =
      let both : (starting (front ++ rest), ended last front) ≡ (starting front, ended 0 front) =
      cc in both ∙ sym h.1 in
      ap (λ (r : Reading A). r >>= λ y. Ok ((y.0, (starting (front ++ rest), y.1.last)), y.1))
      (pl.complete x.0 front rest last h.0 stops)
      ∙ ap (λ (w : ℕ × ℕ). Ok ((x.0, w), record { last = ended last front; left = rest })) span

  pub located_law : Lawful (located p)
  located_law = record {
    sound = located_sound;
    complete = located_again;
    begun = λ x front h. pl.begun x.0 front h.0;
  }

-- ---- what begins with a sign, and is never gone on with

-- the second where the first
abbrev pub implied : Bool → Bool → Bool
implied true b = b
implied false b = true

pub by_implied : (a b : Bool) → implied a b ≡ true → a ≡ true → b ≡ true
by_implied a b e h = grind arith

pub by_not : (b : Bool) → not b ≡ true → b ≡ false
by_not b e = grind arith

-- nothing goes on with what goes on with nothing
stops_none : (more : Kinds) → each_kind (λ other. not (more other)) ≡ true → (rest : List WordView)
    → Stops more rest
stops_none more nowhere [] = tt
stops_none more nowhere (w ∷ ws) = by_not (more w.kind) (of_each (λ other. not (more other)) nowhere w.kind)

-- what begins with one of these begins with one of those
begun_within : (a b : Kinds) (e : Bool) → each_kind (λ other. implied (a other) (b other)) ≡ true → e ≡ false
    → (front : List WordView) → Begun a e front → Begun b false front
begun_within a b e within solid [] h = absurd cc
begun_within a b e within solid (w ∷ ws) h =
    by_implied (a w.kind) (b w.kind) (of_each (λ other. implied (a other) (b other)) within w.kind) h

pub headed_law : {A : Type 0} (kinds : Kinds) (p : Piece A) → Lawful p
    → each_kind (λ other. implied (p.first other) (kinds other)) ≡ true
    → each_kind (λ other. not (p.more other)) ≡ true → p.may_be_empty ≡ false → Lawful (headed kinds p)
headed_law {A} kinds p pl first more solid = record {
  sound = λ s x then e. took_as x (pl.sound s x then e) (λ _ h. h);
  complete = λ x front rest last h stops. pl.complete x front rest last h (stops_none p.more more rest);
  begun = λ x front h. begun_within p.first kinds p.may_be_empty first solid front (pl.begun x front h);
}

-- ---- items

pub item_law : {A : Type 0} (kinds : Kinds) (wrong : Wrong) (p : Piece A) → Lawful p
    → each_kind (λ other. implied (p.first other) (kinds other)) ≡ true → p.may_be_empty ≡ false
    → Lawful (item kinds wrong p)
item_law {A} kinds wrong p pl first solid = record {
  sound = λ s x then e. elim (chosen (begins kinds s.left) (p.read s) (refused (wrong s.left) s.left)
      (Ok (x, then)) e) [
        | inl (hit, is) ↦ took_as x (pl.sound s x then is) (λ _ h. h)
        | inr (miss, is) ↦ absurd cc
      ];
  complete = λ x front rest last h stops.
      ap (λ (b : Bool). cond b (p.read (record { last = last; left = front ++ rest }))
      (refused (wrong (front ++ rest)) (front ++ rest)))
      (is_begun kinds false front rest refl (begun_within p.first kinds p.may_be_empty first solid front
      (pl.begun x front h))) ∙ pl.complete x front rest last h stops;
  begun = λ x front h. begun_within p.first kinds p.may_be_empty first solid front (pl.begun x front h);
}

-- ---- what is nested

pub nested_law : {A : Type 0} (depth : ℕ) (p : ℕ → Piece A) → ((n : ℕ) → Lawful (p n))
    → Lawful (nested depth p)
nested_law zero p pl = nothing_law (λ _. TooDeep)
nested_law (suc depth) p pl = pl depth
