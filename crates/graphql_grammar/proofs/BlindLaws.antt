-- Reading looks at one word ahead only: what stands behind the word that is next changes nothing of what is
-- read before it.
use Rattle.std.proofs.Common.{◌≡◌, ℕ, zero, suc, ◌<◌, ◌≤◌, Bool, true, false, cond, List, [], ◌∷◌, ◌++◌}
use Rattle.std.proofs.Common.{length, Option, Some, None, Ok, Err, ◌⊎◌, inl, inr, refl, sym, ap, ◌∙◌}
use Rattle.std.proofs.Common.{append_assoc, arith}
use Rattle.std.proofs.lemmas.List.{length-append}
use Rattle.graphql_grammar.specs.declared.fault.FaultKind.{FaultKind}
use Rattle.graphql_grammar.specs.declared.fault.FaultKind.TheVariants.{Expected, TooDeep}
use Rattle.graphql_grammar.specs.declared.fault.Item.TheVariants as i
use Rattle.graphql_grammar.specs.declared.kind.Kind.{Kind}
use Rattle.graphql_grammar.specs.Kinds.{Kinds, only}
use Rattle.graphql_grammar.specs.Words.{WordView, begins, starting}
use Rattle.graphql_grammar.specs.Pieces.{Piece, Reading, State, Wrong, ◌>>=◌, behind_sign, branch}
use Rattle.graphql_grammar.specs.Pieces.{filtered, headed, item, listed, located, many, many_at, mapped}
use Rattle.graphql_grammar.specs.Pieces.{nested, nothing, optional, picked, read_first, refused, separated}
use Rattle.graphql_grammar.specs.Pieces.{separated_of, seq, sign, sign_or, some, take_picked, take_word}
use Rattle.graphql_grammar.specs.Pieces.{tested, word}
use Rattle.graphql_grammar.specs.Refusals.{EndOf}
use Rattle.graphql_grammar.proofs.ManyLaws.{and_others, shorter}
use Rattle.graphql_grammar.proofs.PieceLaws.{Lawful, mapped_law, seq_law, sign_law}

-- a word, and two lists of words that may stand behind it
pub record Fork : Type 0 where
  pub at : WordView
  pub one : List WordView
  pub other : List WordView

-- the same words up to that one, that one included
pub record Forked (f : Fork) (l m : List WordView) : Type 0 where
  pub front : List WordView
  pub here : l ≡ front ++ f.at ∷ f.one
  pub there : m ≡ front ++ f.at ∷ f.other

-- reading stands at the same place, at that word or before it
pub record Alike (f : Fork) (s t : State) : Type 0 where
  pub last : s.last ≡ t.last
  pub left : Forked f s.left t.left

-- the words that are left where reading ended, or was refused
abbrev pub rest_of : {A : Type 0} → Reading A → List WordView
rest_of (Ok x) = x.1.left
rest_of (Err e) = e.left

-- the same was read, or both were refused, and at the same place
abbrev pub Agree : {A : Type 0} → Fork → Reading A → Reading A → Type 0
Agree f (Ok x) (Ok y) = (x.0 ≡ y.0) × Alike f x.1 y.1
Agree f (Ok x) (Err e) = ⊥
Agree f (Err d) (Ok y) = ⊥
Agree f (Err d) (Err e) = Forked f d.left e.left

-- reading went past that word, or it is the same whatever stands behind the word
abbrev pub Related : {A : Type 0} → Fork → Reading A → Reading A → Type 0
Related f r q = (length (rest_of r) ≤ length f.one) ⊎ Agree f r q

-- reading goes forward, and looks at one word ahead only
pub record Blind {A : Type 0} (p : Piece A) : Type 0 where
  pub within : (s : State) → EndOf (rest_of (p.read s)) s.left
  pub same : (f : Fork) (s t : State) → Alike f s t → Related f (p.read s) (p.read t)

-- ---- ends of words

nothing_taken : (left : List WordView) → EndOf left left
nothing_taken left = ([], refl)

end_through : (a b c : List WordView) → EndOf a b → EndOf b c → EndOf a c
end_through a b c h g =
    (g.0 ++ h.0, g.1 ∙ ap (λ (l : List WordView). g.0 ++ l) h.1 ∙ sym (append_assoc g.0 h.0 a))

end_short : (part whole : List WordView) → EndOf part whole → length part ≤ length whole
end_short part whole h = omega (arith, ap length h.1, length-append h.0 part)

at_most : (a b c : ℕ) → a ≤ b → b ≤ c → a ≤ c
at_most a b c h g = omega arith

-- ---- words and states that are the same up to a word

forked_is : (f : Fork) (R : List WordView → List WordView → Type 0)
    → ((front : List WordView) → R (front ++ f.at ∷ f.one) (front ++ f.at ∷ f.other)) → (l m : List WordView)
    → Forked f l m → R l m
forked_is f R h l m d = rw d.here (rw d.there (h d.front))

begins_at : (f : Fork) (kinds : Kinds) (front : List WordView)
    → begins kinds (front ++ f.at ∷ f.one) ≡ begins kinds (front ++ f.at ∷ f.other)
begins_at f kinds [] = refl
begins_at f kinds (v ∷ vs) = refl

begins_same : (f : Fork) (kinds : Kinds) (l m : List WordView) → Forked f l m
    → begins kinds l ≡ begins kinds m
begins_same f kinds l m d = forked_is f (λ (a b : List WordView). begins kinds a ≡ begins kinds b)
    (begins_at f kinds) l m d

starting_at : (f : Fork) (front : List WordView)
    → starting (front ++ f.at ∷ f.one) ≡ starting (front ++ f.at ∷ f.other)
starting_at f [] = refl
starting_at f (v ∷ vs) = refl

starting_same : (f : Fork) (l m : List WordView) → Forked f l m → starting l ≡ starting m
starting_same f l m d = forked_is f (λ (a b : List WordView). starting a ≡ starting b) (starting_at f) l m d

-- there is a word left on both ways
one_left : (f : Fork) (l m : List WordView) → Forked f l m → length l ≤ 0 → ⊥
one_left f l m d le = omega (arith, ap length d.here, length-append d.front (f.at ∷ f.one))

other_left : (f : Fork) (l m : List WordView) → Forked f l m → length m ≤ 0 → ⊥
other_left f l m d le = omega (arith, ap length d.there, length-append d.front (f.at ∷ f.other))

-- ---- one reading after the other

bind_within : {A B : Type 0} (r : Reading A) (g : A × State → Reading B) (left : List WordView)
    → EndOf (rest_of r) left → ((x : A × State) → EndOf (rest_of (g x)) x.1.left)
    → EndOf (rest_of (r >>= g)) left
bind_within (Ok x) g left h within = end_through (rest_of (g x)) x.1.left left (within x) h
bind_within (Err e) g left h within = h

past_still : {A B : Type 0} (r : Reading A) (g : A × State → Reading B) (n : ℕ) → length (rest_of r) ≤ n
    → ((x : A × State) → EndOf (rest_of (g x)) x.1.left) → length (rest_of (r >>= g)) ≤ n
past_still (Ok x) g n past within = at_most (length (rest_of (g x))) (length x.1.left) n
    (end_short (rest_of (g x)) x.1.left (within x)) past
past_still (Err e) g n past within = past

bind_agree : {A B : Type 0} (f : Fork) (r q : Reading A) (g h : A × State → Reading B) → Agree f r q
    → ((x : A) (s t : State) → r ≡ Ok (x, s) → q ≡ Ok (x, t) → Alike f s t → Related f (g (x, s)) (h (x, t)))
    → Related f (r >>= g) (q >>= h)
bind_agree {A} f (Ok x) (Ok y) g h agree next =
    rw (← agree.0) (next x.0 x.1 y.1 refl (ap (λ (z : A). Ok (z, y.1)) (sym agree.0)) agree.1)
bind_agree f (Ok x) (Err e) g h agree next = absurd agree
bind_agree f (Err d) (Ok y) g h agree next = absurd agree
bind_agree f (Err d) (Err e) g h agree next = inr agree

bind_same : {A B : Type 0} (f : Fork) (r q : Reading A) (g h : A × State → Reading B) → Related f r q
    → ((x : A × State) → EndOf (rest_of (g x)) x.1.left)
    → ((x : A) (s t : State) → r ≡ Ok (x, s) → q ≡ Ok (x, t) → Alike f s t → Related f (g (x, s)) (h (x, t)))
    → Related f (r >>= g) (q >>= h)
bind_same f r q g h rel within next = elim rel [
  | inl past ↦ inl (past_still r g (length f.one) past within)
  | inr agree ↦ bind_agree f r q g h agree next
]

chosen_within : {A : Type 0} (b : Bool) (r q : Reading A) (left : List WordView) → EndOf (rest_of r) left
    → EndOf (rest_of q) left → EndOf (rest_of (cond b r q)) left
chosen_within true r q left h g = h
chosen_within false r q left h g = g

chosen_same : {A : Type 0} (f : Fork) (b c : Bool) (r q u v : Reading A) → b ≡ c → Related f r q
    → Related f u v → Related f (cond b r u) (cond c q v)
chosen_same f true true r q u v e h g = h
chosen_same f true false r q u v e h g = absurd cc
chosen_same f false true r q u v e h g = absurd cc
chosen_same f false false r q u v e h g = g

-- ---- one word

-- the first word, if it is such
abbrev take_if : Bool → FaultKind → WordView → List WordView → Reading WordView
take_if b fault v vs = cond b (Ok (v, record { last = v.end; left = vs })) (refused fault (v ∷ vs))

taken_within : (b : Bool) (fault : FaultKind) (v : WordView) (vs : List WordView)
    → EndOf (rest_of (take_if b fault v vs)) (v ∷ vs)
taken_within true fault v vs = (v ∷ [], refl)
taken_within false fault v vs = ([], refl)

word_within : (kinds : Kinds) (fault : FaultKind) (left : List WordView)
    → EndOf (rest_of (take_word kinds fault left)) left
word_within kinds fault [] = ([], refl)
word_within kinds fault (v ∷ vs) = taken_within (kinds v.kind) fault v vs

taken_last : (f : Fork) (b : Bool) (c d : FaultKind)
    → Related f (take_if b c f.at f.one) (take_if b d f.at f.other)
taken_last f true c d = inl (omega arith)
taken_last f false c d = inr (record { front = []; here = refl; there = refl })

taken_before : (f : Fork) (b : Bool) (c d : FaultKind) (v : WordView) (vs : List WordView)
    → Related f (take_if b c v (vs ++ f.at ∷ f.one)) (take_if b d v (vs ++ f.at ∷ f.other))
taken_before f true c d v vs =
    inr (refl, record { last = refl; left = record { front = vs; here = refl; there = refl } })
taken_before f false c d v vs = inr (record { front = v ∷ vs; here = refl; there = refl })

word_at : (f : Fork) (kinds : Kinds) (c d : FaultKind) (front : List WordView)
    → Related f (take_word kinds c (front ++ f.at ∷ f.one)) (take_word kinds d (front ++ f.at ∷ f.other))
word_at f kinds c d [] = taken_last f (kinds f.at.kind) c d
word_at f kinds c d (v ∷ vs) = taken_before f (kinds v.kind) c d v vs

word_same : (f : Fork) (kinds : Kinds) (c d : FaultKind) (l m : List WordView) → Forked f l m
    → Related f (take_word kinds c l) (take_word kinds d m)
word_same f kinds c d l m h = forked_is f (λ (a b : List WordView). Related f (take_word kinds c a)
    (take_word kinds d b)) (word_at f kinds c d) l m h

pub word_blind : (kinds : Kinds) (wrong : Wrong) → Blind (word kinds wrong)
word_blind kinds wrong = record {
  within = λ s. word_within kinds (wrong s.left) s.left;
  same = λ f s t a. word_same f kinds (wrong s.left) (wrong t.left) s.left t.left a.left;
}

picked_within : {A : Type 0} (made : Option A) (fault : FaultKind) (v : WordView) (vs : List WordView)
    → EndOf (rest_of (take_picked (λ _. made) fault (v ∷ vs))) (v ∷ vs)
picked_within None fault v vs = ([], refl)
picked_within (Some x) fault v vs = (v ∷ [], refl)

pick_within : {A : Type 0} (pick : WordView → Option A) (fault : FaultKind) (left : List WordView)
    → EndOf (rest_of (take_picked pick fault left)) left
pick_within pick fault [] = ([], refl)
pick_within pick fault (v ∷ vs) = picked_within (pick v) fault v vs

picked_last : {A : Type 0} (f : Fork) (made : Option A) (c d : FaultKind)
    → Related f (take_picked (λ _. made) c (f.at ∷ f.one)) (take_picked (λ _. made) d (f.at ∷ f.other))
picked_last f None c d = inr (record { front = []; here = refl; there = refl })
picked_last f (Some x) c d = inl (omega arith)

picked_before : {A : Type 0} (f : Fork) (made : Option A) (c d : FaultKind) (v : WordView)
    (vs : List WordView)
    → Related f (take_picked (λ _. made) c (v ∷ (vs ++ f.at ∷ f.one))) (take_picked (λ _. made) d
    (v ∷ (vs ++ f.at ∷ f.other)))
picked_before f None c d v vs = inr (record { front = v ∷ vs; here = refl; there = refl })
picked_before f (Some x) c d v vs =
    inr (refl, record { last = refl; left = record { front = vs; here = refl; there = refl } })

pick_at : {A : Type 0} (f : Fork) (pick : WordView → Option A) (c d : FaultKind) (front : List WordView)
    → Related f (take_picked pick c (front ++ f.at ∷ f.one)) (take_picked pick d (front ++ f.at ∷ f.other))
pick_at f pick c d [] = picked_last f (pick f.at) c d
pick_at f pick c d (v ∷ vs) = picked_before f (pick v) c d v vs

pub picked_blind : {A : Type 0} (pick : WordView → Option A) (kinds : Kinds) (wrong : Wrong)
    → Blind (picked pick kinds wrong)
picked_blind pick kinds wrong = record {
  within = λ s. pick_within pick (wrong s.left) s.left;
  same = λ f s t a. forked_is f (λ (l m : List WordView). Related f (take_picked pick (wrong s.left) l)
      (take_picked pick (wrong t.left) m)) (pick_at f pick (wrong s.left) (wrong t.left)) s.left t.left
      a.left;
}

pub sign_or_blind : (kind : Kind) (wrong : Wrong) → Blind (sign_or kind wrong)
sign_or_blind kind wrong = record {
  within = λ s. bind_within {B = Unit {0}} (take_word (only kind) (wrong s.left) s.left) (λ x. Ok (tt, x.1))
      s.left (word_within (only kind) (wrong s.left) s.left) (λ x. nothing_taken x.1.left);
  same = λ f s t a. bind_same {B = Unit {0}} f (take_word (only kind) (wrong s.left) s.left)
      (take_word (only kind) (wrong t.left) t.left) (λ x. Ok (tt, x.1)) (λ x. Ok (tt, x.1))
      (word_same f (only kind) (wrong s.left) (wrong t.left) s.left t.left a.left)
      (λ x. nothing_taken x.1.left) (λ x u v _ _ b. inr (refl, b));
}

pub sign_blind : (kind : Kind) → Blind (sign kind)
sign_blind kind = sign_or_blind kind (λ _. Expected (i.Word kind))

-- ---- nothing

pub nothing_blind : {A : Type 0} (wrong : Wrong) → Blind (nothing {A = A} wrong)
nothing_blind wrong = record { within = λ s. nothing_taken s.left; same = λ f s t a. inr a.left }

-- ---- one after the other

module _ {A B : Type 0} {p : Piece A} {q : Piece B} (pb : Blind p) (qb : Blind q) where
  second_within : (x : A × State)
      → EndOf (rest_of {A = A × B} (q.read x.1 >>= λ y. Ok ((x.0, y.0), y.1))) x.1.left
  second_within x = bind_within {B = A × B} (q.read x.1) (λ y. Ok ((x.0, y.0), y.1)) x.1.left (qb.within x.1)
      (λ y. nothing_taken y.1.left)

  second_same : (f : Fork) (x : A) (s t : State) → Alike f s t
      → Related {A = A × B} f (q.read s >>= λ y. Ok ((x, y.0), y.1)) (q.read t >>= λ y. Ok ((x, y.0), y.1))
  second_same f x s t a = bind_same {B = A × B} f (q.read s) (q.read t) (λ y. Ok ((x, y.0), y.1))
      (λ y. Ok ((x, y.0), y.1)) (qb.same f s t a) (λ y. nothing_taken y.1.left) (λ y u v _ _ b. inr (refl, b))

  pub seq_blind : Blind (seq p q)
  seq_blind = record {
    within = λ s. bind_within {B = A × B} (p.read s) (λ x. q.read x.1 >>= λ y. Ok ((x.0, y.0), y.1)) s.left
        (pb.within s) second_within;
    same = λ f s t a.
        bind_same {B = A × B} f (p.read s) (p.read t) (λ x. q.read x.1 >>= λ y. Ok ((x.0, y.0), y.1))
        (λ x. q.read x.1 >>= λ y. Ok ((x.0, y.0), y.1)) (pb.same f s t a) second_within
        (λ x u v _ _ b. second_same f x u v b);
  }

-- ---- the same, said otherwise

pub mapped_blind : {A B : Type 0} (f : A → B) {p : Piece A} → Blind p → Blind (mapped f p)
mapped_blind {A} {B} f {p} pb = record {
  within = λ s. bind_within {B = B} (p.read s) (λ x. Ok (f x.0, x.1)) s.left (pb.within s)
      (λ x. nothing_taken x.1.left);
  same = λ k s t a. bind_same {B = B} k (p.read s) (p.read t) (λ x. Ok (f x.0, x.1)) (λ x. Ok (f x.0, x.1))
      (pb.same k s t a) (λ x. nothing_taken x.1.left) (λ x u v _ _ b. inr (refl, b));
}

-- ---- only what passes a test

tested_within : {A : Type 0} (b : Bool) (fault : FaultKind) (x : A × State)
    → EndOf (rest_of (tested (λ _. b) (λ _. fault) x)) x.1.left
tested_within true fault x = nothing_taken x.1.left
tested_within false fault x = nothing_taken x.1.left

tested_same : {A : Type 0} (f : Fork) (b : Bool) (c d : FaultKind) (x : A) (s t : State) → Alike f s t
    → Related f (tested (λ _. b) (λ _. c) (x, s)) (tested (λ _. b) (λ _. d) (x, t))
tested_same f true c d x s t a = inr (refl, a)
tested_same f false c d x s t a = inr a.left

pub filtered_blind : {A : Type 0} (test : A → Bool) (wrong : Wrong) {p : Piece A} → Blind p
    → Blind (filtered test wrong p)
filtered_blind {A} test wrong {p} pb = record {
  within = λ s. bind_within {B = A} (p.read s) (tested test wrong) s.left (pb.within s)
      (λ x. tested_within (test x.0) (wrong x.1.left) x);
  same = λ f s t a.
      bind_same {B = A} f (p.read s) (p.read t) (tested test wrong) (tested test wrong) (pb.same f s t a)
      (λ x. tested_within (test x.0) (wrong x.1.left) x)
      (λ x u v _ _ b. tested_same f (test x) (wrong u.left) (wrong v.left) x u v b);
}

-- ---- one or none

pub optional_blind : {A : Type 0} {p : Piece A} → Blind p → Blind (optional p)
optional_blind {A} {p} pb = record {
  within = λ s.
      chosen_within (begins p.first s.left) (p.read s >>= λ x. Ok (Some x.0, x.1)) (Ok (None, s)) s.left
      (bind_within {B = Option A} (p.read s) (λ x. Ok (Some x.0, x.1)) s.left (pb.within s)
      (λ x. nothing_taken x.1.left)) (nothing_taken s.left);
  same = λ f s t a.
      chosen_same {A = Option A} f (begins p.first s.left) (begins p.first t.left) (p.read s >>= λ x. Ok
      (Some x.0, x.1)) (p.read t >>= λ x. Ok (Some x.0, x.1)) (Ok (None, s)) (Ok (None, t))
      (begins_same f p.first s.left t.left a.left)
      (bind_same {B = Option A} f (p.read s) (p.read t) (λ x. Ok (Some x.0, x.1)) (λ x. Ok (Some x.0, x.1))
      (pb.same f s t a) (λ x. nothing_taken x.1.left) (λ x u v _ _ b. inr (refl, b))) (inr (refl, a));
}

-- ---- any number

module _ {A : Type 0} {p : Piece A} (pl : Lawful p) (solid : p.may_be_empty ≡ false) (pb : Blind p) where
  others_within : (n : ℕ) → ((s : State) → EndOf (rest_of (many_at p.first p.read n s)) s.left)
      → (x : A × State) → EndOf (rest_of (and_others p n x)) x.1.left
  others_within n within x = bind_within {B = List A} (many_at p.first p.read n x.1)
      (λ y. Ok (x.0 ∷ y.0, y.1)) x.1.left (within x.1) (λ y. nothing_taken y.1.left)

  many_within : (n : ℕ) (s : State) → EndOf (rest_of (many_at p.first p.read n s)) s.left
  many_within zero s = nothing_taken s.left
  many_within (suc n) s = chosen_within {A = List A} (begins p.first s.left) (p.read s >>= and_others p n)
      (Ok ([], s)) s.left (bind_within {B = List A} (p.read s) (and_others p n) s.left (pb.within s)
      (others_within n (λ t. many_within n t))) (nothing_taken s.left)

  many_same : (f : Fork) (n m : ℕ) (s t : State) → Alike f s t → length s.left ≤ n → length t.left ≤ m
      → Related f (many_at p.first p.read n s) (many_at p.first p.read m t)
  many_same f zero m s t a le lm = absurd (one_left f s.left t.left a.left le)
  many_same f (suc n) zero s t a le lm = absurd (other_left f s.left t.left a.left lm)
  many_same f (suc n) (suc m) s t a le lm = chosen_same {A = List A} f (begins p.first s.left)
      (begins p.first t.left) (p.read s >>= and_others p n) (p.read t >>= and_others p m) (Ok ([], s))
      (Ok ([], t)) (begins_same f p.first s.left t.left a.left) (bind_same {B = List A} f (p.read s)
      (p.read t) (and_others p n) (and_others p m) (pb.same f s t a) (others_within n (many_within n))
      (λ x u v here there b.
      let less : length u.left < length s.left = shorter p pl solid s x u here in
      let fewer : length v.left < length t.left = shorter p pl solid t x v there in
      bind_same {B = List A} f (many_at p.first p.read n u) (many_at p.first p.read m v)
      (λ y. Ok (x ∷ y.0, y.1)) (λ y. Ok (x ∷ y.0, y.1)) (many_same f n m u v b (omega arith)
      (omega arith)) (λ y. nothing_taken y.1.left) (λ y j k _ _ c. inr (refl, c)))) (inr (refl, a))

  pub many_blind : Blind (many p)
  many_blind = record {
    within = λ s. many_within (length s.left) s;
    same = λ f s t a. many_same f (length s.left) (length t.left) s t a (omega arith) (omega arith);
  }

pub some_blind : {A : Type 0} {p : Piece A} → Lawful p → p.may_be_empty ≡ false → Blind p → Blind (some p)
some_blind pl solid pb = mapped_blind listed (seq_blind pb (many_blind pl solid pb))

-- ---- one of several, by the kind of the first word

module _ {A : Type 0} (pick : Kind → Piece A) (wrong : Wrong) (blind : (kind : Kind)
    → Blind (pick kind)) where
  branch_within : (last : ℕ) (left : List WordView)
      → EndOf (rest_of (read_first pick wrong (record { last = last; left = left }) left)) left
  branch_within last [] = nothing_taken []
  branch_within last (v ∷ vs) = (blind v.kind).within (record { last = last; left = v ∷ vs })

  branch_at : (f : Fork) (last : ℕ) (front : List WordView)
      → Related f (read_first pick wrong (record { last = last; left = front ++ f.at ∷ f.one }) (front
      ++ f.at ∷ f.one)) (read_first pick wrong (record { last = last; left = front ++ f.at ∷ f.other }) (front
      ++ f.at ∷ f.other))
  branch_at f last [] = (blind f.at.kind).same f (record { last = last; left = f.at ∷ f.one })
      (record { last = last; left = f.at ∷ f.other })
      (record { last = refl; left = record { front = []; here = refl; there = refl } })
  branch_at f last (v ∷ vs) = (blind v.kind).same f (record { last = last; left = v ∷ (vs ++ f.at ∷ f.one) })
      (record { last = last; left = v ∷ (vs ++ f.at ∷ f.other) })
      (record { last = refl; left = record { front = v ∷ vs; here = refl; there = refl } })

  branch_same : (f : Fork) (s t : State) → Alike f s t
      → Related f (read_first pick wrong s s.left) (read_first pick wrong t t.left)
  branch_same f s t a =
      rw (← a.last) (forked_is f (λ (l m : List WordView). Related f
      (read_first pick wrong (record { last = s.last; left = l }) l) (read_first pick wrong
      (record { last = s.last; left = m }) m)) (branch_at f s.last) s.left t.left a.left)

  pub branch_blind : {first more : Kinds} → Blind (branch first more pick wrong)
  branch_blind = record { within = λ s. branch_within s.last s.left; same = branch_same }

-- ---- with where it stands

-- a value, and where it stands
abbrev placed : {A : Type 0} → A → ℕ → ℕ → A × (ℕ × ℕ)
placed x start end = (x, (start, end))

module _ {A : Type 0} {p : Piece A} (pb : Blind p) where
  located_same : (f : Fork) (s t : State) → Alike f s t → Related f ((located p).read s) ((located p).read t)
  located_same f s t a = bind_same {B = A × (ℕ × ℕ)} f (p.read s) (p.read t)
      (λ x. Ok ((x.0, (starting s.left, x.1.last)), x.1)) (λ x. Ok ((x.0, (starting t.left, x.1.last)), x.1))
      (pb.same f s t a) (λ x. nothing_taken x.1.left) (λ x u v _ _ b. inr (
        ap (λ (n : ℕ). placed x n u.last) (starting_same f s.left t.left a.left)
            ∙ ap (λ (n : ℕ). placed x (starting t.left) n) b.last,
        b,
      ))

  pub located_blind : Blind (located p)
  located_blind = record {
    within = λ s. bind_within {B = A × (ℕ × ℕ)} (p.read s) (λ x. Ok ((x.0, (starting s.left, x.1.last)), x.1))
        s.left (pb.within s) (λ x. nothing_taken x.1.left);
    same = located_same;
  }

-- ---- what begins with one of these, items, and what is nested

pub headed_blind : {A : Type 0} (kinds : Kinds) {p : Piece A} → Blind p → Blind (headed kinds p)
headed_blind kinds pb = record { within = pb.within; same = pb.same }

pub item_blind : {A : Type 0} (kinds : Kinds) (wrong : Wrong) {p : Piece A} → Blind p
    → Blind (item kinds wrong p)
item_blind {A} kinds wrong {p} pb = record {
  within = λ s. chosen_within (begins kinds s.left) (p.read s) (refused (wrong s.left) s.left) s.left
      (pb.within s) (nothing_taken s.left);
  same = λ f s t a. chosen_same f (begins kinds s.left) (begins kinds t.left) (p.read s) (p.read t)
      (refused (wrong s.left) s.left) (refused (wrong t.left) t.left) (begins_same f kinds s.left t.left
      a.left) (pb.same f s t a) (inr a.left);
}

pub nested_blind : {A : Type 0} (depth : ℕ) (p : ℕ → Piece A) → ((n : ℕ) → Blind (p n))
    → Blind (nested depth p)
nested_blind zero p pb = nothing_blind (λ _. TooDeep)
nested_blind (suc depth) p pb = pb depth

-- ---- one or more with a sign between them

-- one behind the sign
abbrev pub another : {A : Type 0} → Kind → Piece A → Piece A
another kind p = mapped behind_sign (seq (sign kind) p)

pub another_law : {A : Type 0} (kind : Kind) (p : Piece A) → Lawful p → Lawful (another kind p)
another_law kind p pl = mapped_law behind_sign (seq (sign kind) p) (seq_law (sign kind) p (sign_law kind) pl
    (λ _ _. refl))

another_blind : {A : Type 0} (kind : Kind) {p : Piece A} → Blind p → Blind (another kind p)
another_blind kind pb = mapped_blind behind_sign (seq_blind (sign_blind kind) pb)

pub separated_blind : {A : Type 0} (kind : Kind) {p : Piece A} → Lawful p → Blind p → Blind (separated kind p)
separated_blind kind {p} pl pb = mapped_blind separated_of (seq_blind (optional_blind (sign_blind kind))
    (seq_blind pb (many_blind (another_law kind p pl) refl (another_blind kind pb))))
