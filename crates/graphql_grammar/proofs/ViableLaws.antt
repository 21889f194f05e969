-- The words before the one that is refused begin what a piece spells.
use Rattle.std.proofs.Common.{subst, ◌≡◌, ℕ, zero, suc, Bool, true, false, List, [], ◌∷◌, ◌++◌, Option, Some}
use Rattle.std.proofs.Common.{None, Ok, Err, ◌⊎◌, inl, inr, refl, sym, ap, ◌∙◌, append_assoc, length}
use Rattle.std.proofs.lemmas.List.{append-nil}
use Rattle.graphql_grammar.specs.declared.fault.FaultKind.TheVariants.{TooDeep}
use Rattle.graphql_grammar.specs.declared.kind.Kind.{Kind}
use Rattle.graphql_grammar.specs.Kinds.{Kinds, only}
use Rattle.graphql_grammar.specs.Refusals.{Viable}
use Rattle.graphql_grammar.specs.Spelling.{Parts, spells_by}
use Rattle.graphql_grammar.specs.Words.{WordView, begins, ended, starting}
use Rattle.graphql_grammar.specs.Pieces.{Piece, Refusal, State, Wrong, ◌>>=◌, behind_sign, branch}
use Rattle.graphql_grammar.specs.Pieces.{filtered, headed, item, listed, located, many, many_at}
use Rattle.graphql_grammar.specs.Pieces.{mapped, nested, nothing, optional, read_first, refused}
use Rattle.graphql_grammar.specs.Pieces.{separated, separated_of, seq, sign, some}
use Rattle.graphql_grammar.specs.Pieces.{tested}
use Rattle.graphql_grammar.proofs.BlindLaws.{another, another_law}
use Rattle.graphql_grammar.proofs.KindLemmas.{only_kind}
use Rattle.graphql_grammar.proofs.ManyLaws.{and_others}
use Rattle.graphql_grammar.proofs.PieceLaws.{Begun, Lawful, Took, joined, optional_law, sign_law}
use Rattle.graphql_grammar.proofs.ReadingLemmas.{chosen}
pub use Rattle.graphql_grammar.proofs.BeginsLaws.{Begins, Leads, begun_leads, leads_begins, bind_err}
pub use Rattle.graphql_grammar.proofs.BeginsLaws.{is_only, bare_word, word_begins, picked_begins}
pub use Rattle.graphql_grammar.proofs.BeginsLaws.{sign_or_begins, sign_begins}
use Rattle.graphql_grammar.proofs.BeginsLaws.{at_once, refused_left, given_err}

-- ---- one after the other

-- words that begin one thing begin it and another, which some words spell
before : {A B : Type 0} {P : A → List WordView → Type 0} (Q : B → List WordView → Type 0)
    {words left : List WordView} → Viable P words left → (y : B) (others : List WordView) → Q y others
    → Viable (λ (z : A × B) front. Parts (P z.0) (Q z.1) front) words left
before Q v y others h = record {
  front = v.front;
  more = v.more ++ others;
  value = (v.value, y);
  whole = v.whole;
  spelled = rw (← append_assoc v.front v.more others) (joined (v.front ++ v.more) others v.spelled h);
}

-- words that begin another thing behind one that was taken begin both
behind : {A B : Type 0} {P P2 : A → List WordView → Type 0} {Q : B → List WordView → Type 0} {s then : State}
    {x : A} {left : List WordView} → Took P s x then
    → ((y : A) (front : List WordView) → P y front → P2 y front) → Viable Q then.left left
    → Viable (λ (z : A × B) front. Parts (P2 z.0) (Q z.1) front) s.left left
behind {x = x} {left} t wider v = record {
  front = t.front ++ v.front;
  more = v.more;
  value = (x, v.value);
  whole = t.left ∙ ap (λ (l : List WordView). t.front ++ l) v.whole ∙ sym (append_assoc t.front v.front left);
  spelled = rw (append_assoc t.front v.front v.more)
      (joined t.front (v.front ++ v.more) (wider x t.front t.spelled) v.spelled);
}

module _ {A B : Type 0} {p p2 : Piece A} {q q2 : Piece B} (pl : Lawful p) (pb : Begins p p2)
    (qb : Begins q q2) where
  seq_viable : (s : State) (e : Refusal) → (seq p q).read s ≡ Err e → Viable (seq p2 q2).spells s.left e.left
  seq_viable s e h = elim (bind_err {B = (A × B) × State} (p.read s) (λ y. q.read y.1 >>= λ z. Ok
      ((y.0, z.0), z.1)) e h) [
        | inl g ↦ before q2.spells (pb.viable s e g) qb.value qb.words qb.some
        | inr g ↦ let y : A × State = g.0 in behind (pl.sound s y.0 y.1 g.1) pb.wider
            (qb.viable y.1 e (given_err {B = A × B} (q.read y.1) (λ z. ((y.0, z.0), z.1)) e g.2))
      ]

  pub seq_begins : Begins (seq p q) (seq p2 q2)
  seq_begins = record {
    value = (pb.value, qb.value);
    words = pb.words ++ qb.words;
    some = joined pb.words qb.words pb.some qb.some;
    wider = λ x front h. record {
      head = h.head;
      tail = h.tail;
      whole = h.whole;
      first = pb.wider x.0 h.head h.first;
      second = qb.wider x.1 h.tail h.second;
    };
    viable = seq_viable;
  }

-- ---- the same, said otherwise

pub mapped_begins : {A B : Type 0} (f : A → B) {p q : Piece A} → Begins p q → Begins (mapped f p) (mapped f q)
mapped_begins {A} {B} f {p} {q} pb = record {
  value = f pb.value;
  words = pb.words;
  some = (pb.value, refl, pb.some);
  wider = λ x front h. (h.0, h.1, pb.wider h.0 front h.2);
  viable = λ s e h.
      let v : Viable q.spells s.left e.left =
      pb.viable s e (given_err {B = B} (p.read s) (λ x. (f x.0, x.1)) e h) in
      record {
        front = v.front;
        more = v.more;
        value = f v.value;
        whole = v.whole;
        spelled = (v.value, refl, v.spelled);
      };
}

-- ---- only what passes a test

-- words that go on with these spell what passes
pub record GoesOn {A : Type 0} (test : A → Bool) (spells : A → List WordView
    → Type 0) (front : List WordView) : Type 0 where
  pub more : List WordView
  pub value : A
  pub spelled : spells value (front ++ more)
  pub passes : test value ≡ true

-- where only what no words spell fails the test, words that pass go on with what fails
pub none_goes_on : {A : Type 0} (test : A → Bool) (q : Piece A) (y : A) (words : List WordView)
    → q.spells y words → test y ≡ true
    → ((x : A) (front : List WordView) → q.spells x front → test x ≡ false → front ≡ [])
    → (x : A) (front : List WordView) → q.spells x front → test x ≡ false → GoesOn test q.spells front
none_goes_on test q y words h passes fails x front g e = record {
  more = words;
  value = y;
  spelled = rw ((fails x front g e)) h;
  passes = passes;
}

module _ {A : Type 0} (test : A → Bool) (wrong : Wrong) {p q : Piece A} (pl : Lawful p) (pb : Begins p q)
    (goes_on : (x : A) (front : List WordView) → q.spells x front
    → test x ≡ false → GoesOn test q.spells front) where
  passing : (x : A) (front : List WordView) (b : Bool) → q.spells x front → test x ≡ b
      → GoesOn test q.spells front
  passing x front true h e = record { more = []; value = x; spelled = rw ((append-nil front)) h; passes = e }
  passing x front false h e = goes_on x front h e

  -- what begins something begins something that passes
  test_ahead : (words left : List WordView) → Viable q.spells words left
      → Viable (filtered test wrong q).spells words left
  test_ahead words left v =
      let k : GoesOn test q.spells (v.front ++ v.more) = passing v.value (v.front ++ v.more) (test v.value)
      v.spelled refl in
      record {
        front = v.front;
        more = v.more ++ k.more;
        value = k.value;
        whole = v.whole;
        spelled = (rw (← append_assoc v.front v.more k.more) k.spelled, k.passes);
      }

  test_failed : (y : A × State) (e : Refusal) → tested test wrong y ≡ Err e → y.1.left ≡ e.left
  test_failed y e h = elim (chosen (test y.0) (Ok y) (refused (wrong y.1.left) y.1.left) (Err e) h) [
    | inl (hit, is) ↦ absurd cc
    | inr (miss, is) ↦ refused_left {A = A × State} (wrong y.1.left) y.1.left e is
  ]

  test_behind : (s : State) (e : Refusal) (y : A × State) → p.read s ≡ Ok y → tested test wrong y ≡ Err e
      → Viable q.spells s.left e.left
  test_behind s e y h g =
      let t : Took p.spells s y.0 y.1 = pl.sound s y.0 y.1 h in
      record {
        front = t.front;
        more = [];
        value = y.0;
        whole = t.left ∙ ap (λ (l : List WordView). t.front ++ l) (test_failed y e g);
        spelled = rw ((append-nil t.front)) (pb.wider y.0 t.front t.spelled);
      }

  filtered_viable : (s : State) (e : Refusal) → (filtered test wrong p).read s ≡ Err e
      → Viable (filtered test wrong q).spells s.left e.left
  filtered_viable s e h = test_ahead s.left e.left (elim (bind_err (p.read s) (tested test wrong) e h) [
    | inl g ↦ pb.viable s e g
    | inr g ↦ test_behind s e g.0 g.1 g.2
  ])

  pub filtered_begins : Begins (filtered test wrong p) (filtered test wrong q)
  filtered_begins =
      let k : GoesOn test q.spells pb.words = passing pb.value pb.words (test pb.value) pb.some refl in
      record {
        value = k.value;
        words = pb.words ++ k.more;
        some = (k.spelled, k.passes);
        wider = λ x front h. (pb.wider x front h.0, h.1);
        viable = filtered_viable;
      }

-- ---- one or none, and any number

module _ {A : Type 0} {p q : Piece A} (leads : Leads p q) where
  optional_wider : (x : Option A) (front : List WordView) → (optional p).spells x front
      → (optional q).spells x front
  optional_wider None front h = h
  optional_wider (Some x) front h = leads.wider x front h

  -- one that is refused at once is left out
  none_or_one : (words left : List WordView) → (words ≡ left) ⊎ Viable q.spells words left
      → Viable (optional q).spells words left
  none_or_one words left o = elim o [
    | inl same ↦ at_once (optional q).spells words left None [] same refl
    | inr v ↦ record {
      front = v.front;
      more = v.more;
      value = Some v.value;
      whole = v.whole;
      spelled = v.spelled;
    }
  ]

  optional_viable : (s : State) (e : Refusal) → (optional p).read s ≡ Err e
      → Viable (optional q).spells s.left e.left
  optional_viable s e h = elim (chosen (begins p.first s.left) (p.read s >>= λ y. Ok (Some y.0, y.1))
      (Ok (None, s)) (Err e) h) [
        | inl (hit, is) ↦ none_or_one s.left e.left
            (leads.viable s e (given_err {B = Option A} (p.read s) (λ y. (Some y.0, y.1)) e is))
        | inr (miss, is) ↦ absurd cc
      ]

  pub optional_begins : Begins (optional p) (optional q)
  optional_begins = record {
    value = None;
    words = [];
    some = refl;
    wider = optional_wider;
    viable = optional_viable;
  }

module _ {A : Type 0} {p q : Piece A} (pl : Lawful p) (pb : Begins p q) where
  many_wider : (xs : List A) (front : List WordView) → (many p).spells xs front → (many q).spells xs front
  many_wider [] front h = h
  many_wider (x ∷ xs) front h = record {
    head = h.head;
    tail = h.tail;
    whole = h.whole;
    first = pb.wider x h.head h.first;
    second = many_wider xs h.tail h.second;
  }

  -- the next one and those behind it are a list
  as_list : {words left : List WordView} → Viable (seq q (many q)).spells words left
      → Viable (many q).spells words left
  as_list v =
      record { front = v.front; more = v.more; value = listed v.value; whole = v.whole; spelled = v.spelled }

  many_viable : (n : ℕ) (s : State) (e : Refusal) → many_at p.first p.read n s ≡ Err e
      → Viable (many q).spells s.left e.left
  many_viable zero s e h = absurd cc
  many_viable (suc n) s e h = elim (chosen (begins p.first s.left) (p.read s >>= and_others p n) (Ok ([], s))
      (Err e) h) [
        | inl (hit, is) ↦ as_list (elim (bind_err (p.read s) (and_others p n) e is) [
          | inl g ↦ before (many q).spells (pb.viable s e g) [] [] refl
          | inr g ↦ let y : A × State = g.0 in behind (pl.sound s y.0 y.1 g.1) pb.wider (many_viable n y.1 e
              (given_err {B = List A} (many_at p.first p.read n y.1) (λ z. (y.0 ∷ z.0, z.1)) e g.2))
        ])
        | inr (miss, is) ↦ absurd cc
      ]

  pub many_begins : Begins (many p) (many q)
  many_begins = record {
    value = [];
    words = [];
    some = refl;
    wider = many_wider;
    viable = λ s e h. many_viable (length s.left) s e h;
  }

pub some_begins : {A : Type 0} {p q : Piece A} → Lawful p → Begins p q → Begins (some p) (some q)
some_begins pl pb = mapped_begins listed (seq_begins pl pb (many_begins pl pb))

-- ---- one of several, by the kind of the first word

-- what spells nothing
pub nothing_leads : {A : Type 0} (wrong : Wrong) {q : Piece A} → Leads (nothing wrong) q
nothing_leads {A} wrong {q} = record {
  wider = λ x front h. absurd h;
  viable = λ s e h. inl (refused_left {A = A × State} (wrong s.left) s.left e h);
}

pub headed_leads : {A : Type 0} (kinds : Kinds) {p q : Piece A} → Leads p q
    → Leads (headed kinds p) (headed kinds q)
headed_leads kinds leads = record { wider = leads.wider; viable = leads.viable }

module _ {A : Type 0} (pick pick2 : Kind → Piece A) (wrong : Wrong) (leads : (kind : Kind)
    → Leads (pick kind) (pick2 kind)) where
  by_first : (w : WordView) (ws left : List WordView) (y : A) (front behind : List WordView)
      → w ∷ ws ≡ front ++ left → (pick2 w.kind).spells y (front ++ behind)
      → (w ∷ ws ≡ left) ⊎ Viable (spells_by (λ kind. (pick2 kind).spells)) (w ∷ ws) left
  by_first w ws left y [] behind whole h = inl whole
  by_first w ws left y (f ∷ fs) behind whole h =
      let head : w ≡ f = cc in
      inr (record {
        front = f ∷ fs;
        more = behind;
        value = y;
        whole = whole;
        spelled = subst (λ (v : WordView). (pick2 v.kind).spells y (f ∷ (fs ++ behind))) head h;
      })

  branch_viable : (last : ℕ) (left : List WordView) (e : Refusal)
      → read_first pick wrong (record { last = last; left = left }) left ≡ Err e
      → (left ≡ e.left) ⊎ Viable (spells_by (λ kind. (pick2 kind).spells)) left e.left
  branch_viable last [] e h = inl (refused_left {A = A × State} (wrong []) [] e h)
  branch_viable last (w ∷ ws) e h = elim ((leads w.kind).viable (record { last = last; left = w ∷ ws }) e h) [
    | inl same ↦ inl same
    | inr v ↦ by_first w ws e.left v.value v.front v.more v.whole v.spelled
  ]

  branch_wider : (y : A) (front : List WordView) → spells_by (λ kind. (pick kind).spells) y front
      → spells_by (λ kind. (pick2 kind).spells) y front
  branch_wider y [] h = absurd h
  branch_wider y (w ∷ ws) h = (leads w.kind).wider y (w ∷ ws) h

  pub branch_leads : {first more : Kinds}
      → Leads (branch first more pick wrong) (branch first more pick2 wrong)
  branch_leads = record { wider = branch_wider; viable = λ s e h. branch_viable s.last s.left e h }

-- what is picked by the kind that its words begin with
pub picked_by : {A : Type 0} (pick : Kind → Piece A) (kind : Kind) (x : A) (words : List WordView)
    → Begun (only kind) false words → (pick kind).spells x words
    → spells_by (λ kind. (pick kind).spells) x words
picked_by pick kind x [] begun h = absurd cc
picked_by pick kind x (w ∷ ws) begun h =
    subst (λ (k : Kind). (pick k).spells x (w ∷ ws)) (sym (only_kind kind w.kind begun)) h

-- ---- with where it stands, what begins with one of these, items, and what is nested

pub located_begins : {A : Type 0} {p q : Piece A} → Begins p q → Begins (located p) (located q)
located_begins {A} {p} {q} pb = record {
  value = (pb.value, (starting pb.words, ended 0 pb.words));
  words = pb.words;
  some = (pb.some, refl);
  wider = λ x front h. (pb.wider x.0 front h.0, h.1);
  viable = λ s e h.
      let v : Viable q.spells s.left e.left = pb.viable s e (given_err {B = A × (ℕ × ℕ)} (p.read s)
      (λ x. ((x.0, (starting s.left, x.1.last)), x.1)) e h) in
      record {
        front = v.front;
        more = v.more;
        value = (v.value, (starting (v.front ++ v.more), ended 0 (v.front ++ v.more)));
        whole = v.whole;
        spelled = (v.spelled, refl);
      };
}

pub headed_begins : {A : Type 0} (kinds : Kinds) {p q : Piece A} → Begins p q
    → Begins (headed kinds p) (headed kinds q)
headed_begins kinds pb =
    record { value = pb.value; words = pb.words; some = pb.some; wider = pb.wider; viable = pb.viable }

pub item_begins : {A : Type 0} (kinds : Kinds) (wrong : Wrong) {p q : Piece A} → Begins p q
    → Begins (item kinds wrong p) (item kinds wrong q)
item_begins {A} kinds wrong {p} {q} pb = record {
  value = pb.value;
  words = pb.words;
  some = pb.some;
  wider = pb.wider;
  viable = λ s e h. elim (chosen (begins kinds s.left) (p.read s) (refused (wrong s.left) s.left) (Err e) h) [
    | inl (hit, is) ↦ pb.viable s e is
    | inr (miss, is) ↦ at_once q.spells s.left e.left pb.value pb.words
        (refused_left {A = A × State} (wrong s.left) s.left e is) pb.some
  ];
}

-- what may nest so deep, against what may nest one deeper
pub nested_leads : {A : Type 0} (depth : ℕ) (p q : ℕ → Piece A) → ((n : ℕ) → Begins (p n) (q (suc n)))
    → Leads (nested depth p) (nested (suc depth) q)
nested_leads zero p q deeper = nothing_leads (λ _. TooDeep)
nested_leads (suc depth) p q deeper = begun_leads (deeper depth)

-- ---- one or more with a sign between them

another_begins : {A : Type 0} (kind : Kind) {p q : Piece A} → Begins p q
    → Begins (another kind p) (another kind q)
another_begins kind pb = mapped_begins behind_sign (seq_begins (sign_law kind) (sign_begins kind) pb)

pub separated_begins : {A : Type 0} (kind : Kind) {p q : Piece A} → Lawful p → Begins p q
    → Begins (separated kind p) (separated kind q)
separated_begins kind {p} pl pb =
    mapped_begins separated_of (seq_begins (optional_law (sign kind) (sign_law kind) refl)
    (optional_begins (begun_leads (sign_begins kind)))
    (seq_begins pl pb (many_begins (another_law kind p pl) (another_begins kind pb))))
