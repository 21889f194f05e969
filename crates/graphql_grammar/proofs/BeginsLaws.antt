-- Words that begin what a piece spells, and refusals: what both are, and of one word.
use Rattle.std.proofs.Common.{◌≡◌, true, List, [], ◌∷◌, Option, Some}
use Rattle.std.proofs.Common.{None, Result, Ok, Err, ◌⊎◌, inl, inr, refl, ap}
use Rattle.std.proofs.lemmas.Bool.{eq-eqb}
use Rattle.graphql_grammar.specs.declared.fault.FaultKind.{FaultKind}
use Rattle.graphql_grammar.specs.declared.fault.FaultKind.TheVariants.{Expected}
use Rattle.graphql_grammar.specs.declared.fault.Item.TheVariants as i
use Rattle.graphql_grammar.specs.declared.kind.Kind.{Kind}
use Rattle.graphql_grammar.specs.Kinds.{Kinds, only, tag}
use Rattle.graphql_grammar.specs.Refusals.{Viable}
use Rattle.graphql_grammar.specs.Words.{WordView}
use Rattle.graphql_grammar.specs.Pieces.{Piece, Reading, Refusal, State, Wrong, ◌>>=◌}
use Rattle.graphql_grammar.specs.Pieces.{picked, refused}
use Rattle.graphql_grammar.specs.Pieces.{sign, sign_or, take_picked}
use Rattle.graphql_grammar.specs.Pieces.{take_sign, take_word, word}
use Rattle.graphql_grammar.proofs.ReadingLemmas.{chosen}

-- the second piece spells something, and what the first does; and the words before the one that the first
-- refuses begin what the second spells
pub record Begins {A : Type 0} (p q : Piece A) : Type 0 where
  pub value : A
  pub words : List WordView
  pub some : q.spells value words
  pub wider : (x : A) (front : List WordView) → p.spells x front → q.spells x front
  pub viable : (s : State) (e : Refusal) → p.read s ≡ Err e → Viable q.spells s.left e.left

-- the second piece spells what the first does; what the first refuses it refuses at once, or the words before
-- begin what the second spells
pub record Leads {A : Type 0} (p q : Piece A) : Type 0 where
  pub wider : (x : A) (front : List WordView) → p.spells x front → q.spells x front
  pub viable : (s : State) (e : Refusal) → p.read s ≡ Err e → (s.left ≡ e.left) ⊎ Viable q.spells s.left
      e.left

-- ---- from one to the other

-- where nothing was taken, anything that is spelled goes on
pub at_once : {A : Type 0} (spells : A → List WordView → Type 0) (words left : List WordView) (x : A)
    (others : List WordView) → words ≡ left → spells x others → Viable spells words left
at_once spells words left x others same h =
    record { front = []; more = others; value = x; whole = same; spelled = h }

pub begun_leads : {A : Type 0} {p q : Piece A} → Begins p q → Leads p q
begun_leads pb = record { wider = pb.wider; viable = λ s e h. inr (pb.viable s e h) }

at_once_or : {A : Type 0} (spells : A → List WordView → Type 0) (words left : List WordView) (x : A)
    (others : List WordView) → spells x others → (words ≡ left) ⊎ Viable spells words left
    → Viable spells words left
at_once_or spells words left x others h o = elim o [
  | inl same ↦ at_once spells words left x others same h
  | inr v ↦ v
]

-- where something is spelled, what is refused at once may begin it
pub leads_begins : {A : Type 0} {p q : Piece A} → Leads p q → (x : A) (words : List WordView)
    → q.spells x words → Begins p q
leads_begins {A} {p} {q} leads x words h = record {
  value = x;
  words = words;
  some = h;
  wider = leads.wider;
  viable = λ s e g. at_once_or q.spells s.left e.left x words h (leads.viable s e g);
}

-- ---- refusals

abbrev failed : {A : Type 0} → Refusal → Result A Refusal
failed e = Err e

pub refused_left : {A : Type 0} (fault : FaultKind) (left : List WordView) (e : Refusal)
    → refused {A = A} fault left ≡ Err e → left ≡ e.left
refused_left fault left e h =
    let here : Refusal = record { kind = fault; left = left } in
    let same : here ≡ e = cc in
    ap (λ (r : Refusal). r.left) same

pub bind_err : {A B : Type 0} (r : Result A Refusal) (f : A → Result B Refusal) (e : Refusal)
    → (r >>= f) ≡ Err e → (r ≡ Err e) ⊎ ((x : A) × (r ≡ Ok x) × (f x ≡ Err e))
bind_err (Ok x) f e h = inr (x, refl, h)
bind_err {A} (Err d) f e h = inl (let same : d ≡ e = cc in ap (λ (r : Refusal). failed {A = A} r) same)

-- what never fails behind a reading leaves its refusal as it is
pub given_err : {A B : Type 0} (r : Reading A) (g : A × State → B × State) (e : Refusal)
    → (r >>= λ x. Ok (g x)) ≡ Err e → r ≡ Err e
given_err (Ok x) g e h = absurd cc
given_err {A} (Err d) g e h = let same : d ≡ e = cc in ap (λ (r : Refusal). failed {A = A × State} r) same

-- ---- one word

-- a word of this kind
abbrev pub bare_word : Kind → WordView
bare_word kind = record { kind = kind; text = []; start = 0; end = 0 }

pub is_only : (kind : Kind) → only kind kind ≡ true
is_only kind = eq-eqb (tag kind) (tag kind) refl

not_taken : (kinds : Kinds) (fault : FaultKind) (left : List WordView) (e : Refusal)
    → take_word kinds fault left ≡ Err e → left ≡ e.left
not_taken kinds fault [] e h = refused_left {A = WordView × State} fault [] e h
not_taken kinds fault (w ∷ ws) e h = elim (chosen (kinds w.kind) (Ok (w, record { last = w.end; left = ws }))
    (refused fault (w ∷ ws)) (Err e) h) [
      | inl (hit, is) ↦ absurd cc
      | inr (miss, is) ↦ refused_left {A = WordView × State} fault (w ∷ ws) e is
    ]

pub word_begins : (kinds : Kinds) (wrong : Wrong) (kind : Kind) → kinds kind ≡ true
    → Begins (word kinds wrong) (word kinds wrong)
word_begins kinds wrong kind h = record {
  value = bare_word kind;
  words = bare_word kind ∷ [];
  some = (refl, h);
  wider = λ x front g. g;
  viable = λ s e g. at_once (word kinds wrong).spells s.left e.left (bare_word kind) (bare_word kind
      ∷ []) (not_taken kinds (wrong s.left) s.left e g) (refl, h);
}

not_made : {A : Type 0} (made : Option A) (fault : FaultKind) (w : WordView) (ws : List WordView)
    (e : Refusal) → take_picked (λ _. made) fault (w ∷ ws) ≡ Err e → w ∷ ws ≡ e.left
not_made {A} None fault w ws e h = refused_left {A = A × State} fault (w ∷ ws) e h
not_made (Some x) fault w ws e h = absurd cc

not_picked : {A : Type 0} (pick : WordView → Option A) (fault : FaultKind) (left : List WordView)
    (e : Refusal) → take_picked pick fault left ≡ Err e → left ≡ e.left
not_picked {A} pick fault [] e h = refused_left {A = A × State} fault [] e h
not_picked pick fault (w ∷ ws) e h = not_made (pick w) fault w ws e h

pub picked_begins : {A : Type 0} (pick : WordView → Option A) (kinds : Kinds) (wrong : Wrong) (w : WordView)
    (x : A) → pick w ≡ Some x → Begins (picked pick kinds wrong) (picked pick kinds wrong)
picked_begins pick kinds wrong w x h = record {
  value = x;
  words = w ∷ [];
  some = (w, refl, h);
  wider = λ y front g. g;
  viable = λ s e g. at_once (picked pick kinds wrong).spells s.left e.left x
      (w ∷ []) (not_picked pick (wrong s.left) s.left e g) (w, refl, h);
}

sign_refused : (kind : Kind) (fault : FaultKind) (left : List WordView) (e : Refusal)
    → take_sign kind fault left ≡ Err e → left ≡ e.left
sign_refused kind fault left e h = not_taken (only kind) fault left e
    (given_err {B = Unit {0}} (take_word (only kind) fault left) (λ x. (tt, x.1)) e h)

pub sign_or_begins : (kind : Kind) (wrong : Wrong) → Begins (sign_or kind wrong) (sign_or kind wrong)
sign_or_begins kind wrong = record {
  value = tt;
  words = bare_word kind ∷ [];
  some = (bare_word kind, refl, is_only kind);
  wider = λ x front g. g;
  viable = λ s e g. at_once (sign_or kind wrong).spells s.left e.left tt (bare_word kind
      ∷ []) (sign_refused kind (wrong s.left) s.left e g) (bare_word kind, refl, is_only kind);
}

pub sign_begins : (kind : Kind) → Begins (sign kind) (sign kind)
sign_begins kind = sign_or_begins kind (λ _. Expected (i.Word kind))
