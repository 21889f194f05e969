-- What a grammar is made of. A piece says which words spell a value, and how it is read.
--
-- Pieces are made of pieces: one after the other (`seq`), one or none (`optional`), any number (`many`), one
-- or more (`some`). They are made by the kind of the first word too (`branch`). So they are between signs
-- that may nest so deep (`nested`), and with where the words stand (`located`). `read_all` reads a piece and
-- nothing behind it.
use Rattle.std.specs.Prelude.{◌≡◌, ℕ, zero, suc, List, [], ◌∷◌, ◌++◌, length, Bool, true, false, ◌&&◌}
use Rattle.std.specs.Prelude.{if◌then◌else◌, Option, Some, None, Result, Ok, Err}
use Rattle.graphql_grammar.specs.Kinds.{Kinds, either_of, none, only}
use Rattle.graphql_grammar.specs.Spelling.{Parts, spells_by, spells_many, spells_optional}
use Rattle.graphql_grammar.specs.Words.{WordView, begins, ended, starting}
use Rattle.graphql_grammar.specs.declared.fault.FaultKind.{FaultKind}
use Rattle.graphql_grammar.specs.declared.fault.FaultKind.TheVariants.{Expected, TooDeep}
use Rattle.graphql_grammar.specs.declared.fault.Item.TheVariants as i
use Rattle.graphql_grammar.specs.declared.fault.ReadError.{ReadError}
use Rattle.graphql_grammar.specs.declared.fault.ReadError.TheVariants as errors
use Rattle.graphql_grammar.specs.declared.kind.Kind.{Kind}

-- where reading stands: the end of the last word that was taken, and the words that are left
pub record State : Type 0 where
  -- the end of the last word that was taken
  pub last : ℕ
  -- the words that are left
  pub left : List WordView

-- what is wrong, and the words that are left from the one on that it is wrong at
pub record Refusal : Type 0 where
  -- what is wrong
  pub kind : FaultKind
  -- the words from there on
  pub left : List WordView

-- what is read, and where reading stands then
abbrev pub Reading : Type 0 → Type 0
Reading A = Result (A × State) Refusal

-- what is read from where reading stands
abbrev pub Reader : Type 0 → Type 0
Reader A = State → Result (A × State) Refusal

-- what is wrong, by the words that are left
abbrev pub Wrong : Type 0
Wrong = List WordView → FaultKind

-- reading goes on with what was read; a refusal stays
infixl 10 ◌>>=◌
abbrev pub ◌>>=◌ : {A B : Type 0} → Result A Refusal → (A → Result B Refusal) → Result B Refusal
(Ok x) >>= f = f x
(Err e) >>= f = Err e

-- a refusal at the first of these words
abbrev pub refused : {A : Type 0} → FaultKind → List WordView → Result A Refusal
refused kind left = Err (record { kind = kind; left = left })

-- a piece of a grammar: which words spell a value, and how that is read
pub record Piece (A : Type 0) : Type 1 where
  -- which words spell a value
  pub spells : A → List WordView → Type 0
  -- how it is read
  pub read : State → Result (A × State) Refusal
  -- what it begins with
  pub first : Kinds
  -- what may go on with it behind what spells a value
  pub more : Kinds
  -- whether no word at all may spell a value
  pub may_be_empty : Bool

-- ---- one word

-- the next word, if it is of such a kind
abbrev pub take_word : Kinds → FaultKind → List WordView → Reading WordView
take_word kinds fault [] = refused fault []
take_word kinds fault (w ∷ ws) =
    if kinds w.kind then Ok (w, record { last = w.end; left = ws }) else refused fault (w ∷ ws)

-- a word of one of these kinds
abbrev pub word : Kinds → Wrong → Piece WordView
word kinds wrong = record {
  spells = λ w front. (front ≡ w ∷ []) × (kinds w.kind ≡ true);
  read = λ s. take_word kinds (wrong s.left) s.left;
  first = kinds;
  more = none;
  may_be_empty = false;
}

-- what a word is picked as, with the words behind it; where it is picked as nothing, it is refused
abbrev pub picked_at : {A : Type 0} → WordView → List WordView → Option A → FaultKind → Reading A
picked_at w ws None fault = refused fault (w ∷ ws)
picked_at w ws (Some x) fault = Ok (x, record { last = w.end; left = ws })

-- what the next word is picked as
abbrev pub take_picked : {A : Type 0} → (WordView → Option A) → FaultKind → List WordView → Reading A
take_picked pick fault [] = refused fault []
take_picked pick fault (w ∷ ws) = picked_at w ws (pick w) fault

-- a word that is picked as something, which is of one of these kinds
abbrev pub picked : {A : Type 0} → (WordView → Option A) → Kinds → Wrong → Piece A
picked pick kinds wrong = record {
  spells = λ x front. (w : WordView) × (front ≡ w ∷ []) × (pick w ≡ Some x);
  read = λ s. take_picked pick (wrong s.left) s.left;
  first = kinds;
  more = none;
  may_be_empty = false;
}

-- the next word, of which only that it is there matters
abbrev pub take_sign : Kind → FaultKind → List WordView → Reading (Unit {0})
take_sign kind fault left = take_word (only kind) fault left >>= λ x. Ok (tt, x.1)

-- a word of this kind, of which only that it is there matters; what is wrong where it isn't is said
abbrev pub sign_or : Kind → Wrong → Piece (Unit {0})
sign_or kind wrong = record {
  spells = λ _ front. (w : WordView) × (front ≡ w ∷ []) × (only kind w.kind ≡ true);
  read = λ s. take_sign kind (wrong s.left) s.left;
  first = only kind;
  more = none;
  may_be_empty = false;
}

-- a word of this kind, where nothing else may stand
abbrev pub sign : Kind → Piece (Unit {0})
sign kind = sign_or kind (λ _. Expected (i.Word kind))

-- ---- nothing

-- what no words spell
abbrev pub nothing : {A : Type 0} → Wrong → Piece A
nothing wrong = record {
  spells = λ x front. ⊥;
  read = λ s. refused (wrong s.left) s.left;
  first = none;
  more = none;
  may_be_empty = false;
}

-- ---- one after the other

-- one thing is read, and then another
abbrev pub read_both : {A B : Type 0} → Reader A → Reader B → Reader (A × B)
read_both p q s = p s >>= λ x. q x.1 >>= λ y. Ok ((x.0, y.0), y.1)

-- one piece, and then another
abbrev pub seq : {A B : Type 0} → Piece A → Piece B → Piece (A × B)
seq p q = record {
  spells = λ x front. Parts (p.spells x.0) (q.spells x.1) front;
  read = read_both p.read q.read;
  first = if p.may_be_empty then either_of p.first q.first else p.first;
  more = if q.may_be_empty then either_of q.more p.more else q.more;
  may_be_empty = p.may_be_empty && q.may_be_empty;
}

-- ---- the same, said otherwise

-- what is read, made into something else
abbrev pub read_as : {A B : Type 0} → (A → B) → Reader A → Reader B
read_as f p s = p s >>= λ x. Ok (f x.0, x.1)

-- a piece whose value is made into another
abbrev pub mapped : {A B : Type 0} → (A → B) → Piece A → Piece B
mapped {A} f p = record {
  spells = λ b front. (a : A) × (b ≡ f a) × p.spells a front;
  read = read_as f p.read;
  first = p.first;
  more = p.more;
  may_be_empty = p.may_be_empty;
}

-- ---- only what passes a test, which is made behind it

-- what was read, if it passes the test; else what stands behind it is refused
abbrev pub tested : {A : Type 0} → (A → Bool) → Wrong → A × State → Reading A
tested test wrong x = if test x.0 then Ok x else refused (wrong x.1.left) x.1.left

-- a piece whose value passes a test
abbrev pub filtered : {A : Type 0} → (A → Bool) → Wrong → Piece A → Piece A
filtered test wrong p = record {
  spells = λ x front. p.spells x front × (test x ≡ true);
  read = λ s. p.read s >>= tested test wrong;
  first = p.first;
  more = p.more;
  may_be_empty = p.may_be_empty;
}

-- ---- one or none

-- one thing, where such a word comes next, and else none
abbrev pub read_optional : {A : Type 0} → Kinds → Reader A → Reader (Option A)
read_optional first p s = if begins first s.left then (p s >>= λ x. Ok (Some x.0, x.1)) else Ok (None, s)

-- a piece, or nothing
abbrev pub optional : {A : Type 0} → Piece A → Piece (Option A)
optional p = record {
  spells = spells_optional p.spells;
  read = read_optional p.first p.read;
  first = p.first;
  more = either_of p.more p.first;
  may_be_empty = true;
}

-- ---- any number

-- as many things as come one behind the other, and at most so many
abbrev pub many_at : {A : Type 0} → Kinds → Reader A → ℕ → Reader (List A)
many_at first p zero s = Ok ([], s)
many_at first p (suc n) s =
    if begins first s.left then (p s >>= λ x. many_at first p n x.1 >>= λ y. Ok (x.0 ∷ y.0, y.1)) else Ok (
      [],
      s,
    )

-- a piece any number of times
abbrev pub many : {A : Type 0} → Piece A → Piece (List A)
many p = record {
  spells = spells_many p.spells;
  read = λ s. many_at p.first p.read (length s.left) s;
  first = p.first;
  more = either_of p.more p.first;
  may_be_empty = true;
}

-- the first and the others as one list
abbrev pub listed : {A : Type 0} → A × List A → List A
listed x = x.0 ∷ x.1

-- one or more
abbrev pub some : {A : Type 0} → Piece A → Piece (List A)
some p = mapped listed (seq p (many p))

-- ---- one of several, by the kind of the first word

-- what is read by the piece of the next word; where there is none, that is refused
abbrev pub read_first : {A : Type 0} → (Kind → Piece A) → Wrong → State → List WordView → Reading A
read_first pick wrong s [] = refused (wrong []) []
read_first pick wrong s (w ∷ ws) = (pick w.kind).read s

-- the first where the flag is set, else the second
abbrev pub choose : {A : Type 0} → Bool → Piece A → Piece A → Piece A
choose true p q = p
choose false p q = q

-- the piece that is picked by the kind of the first word; what it begins with, and what goes on with it, is
-- said here
abbrev pub branch : {A : Type 0} → Kinds → Kinds → (Kind → Piece A) → Wrong → Piece A
branch first more pick wrong = record {
  spells = spells_by (λ kind. (pick kind).spells);
  read = λ s. read_first pick wrong s s.left;
  first = first;
  more = more;
  may_be_empty = false;
}

-- ---- with where it stands, from the start of its first word to the end of its last

-- a piece with its place: from the start of its first word to the end of its last one
abbrev pub located : {A : Type 0} → Piece A → Piece (A × (ℕ × ℕ))
located p = record {
  spells = λ x front. p.spells x.0 front × (x.1 ≡ (starting front, ended 0 front));
  read = λ s. p.read s >>= λ x. Ok ((x.0, (starting s.left, x.1.last)), x.1);
  first = p.first;
  more = p.more;
  may_be_empty = p.may_be_empty;
}

-- ---- what begins with one of these, as is said here, and is never gone on with

-- a piece that is known to begin with one of these, and is never gone on with
abbrev pub headed : {A : Type 0} → Kinds → Piece A → Piece A
headed kinds p = record {
  spells = p.spells;
  read = p.read;
  first = kinds;
  more = none;
  may_be_empty = false;
}

-- ---- an item, which begins with one of these; what is wrong where it doesn't is said

-- a piece that begins with one of these; where it does not, that is what is wrong
abbrev pub item : {A : Type 0} → Kinds → Wrong → Piece A → Piece A
item kinds wrong p = record {
  spells = p.spells;
  read = λ s. if begins kinds s.left then p.read s else refused (wrong s.left) s.left;
  first = kinds;
  more = p.more;
  may_be_empty = false;
}

-- one or more after each other, with a sign between them, and one before the first or not
abbrev pub separated_of : {A : Type 0} → Option (Unit {0}) × (A × List A) → List A
separated_of x = x.1.0 ∷ x.1.1

-- what stands behind a sign
abbrev pub behind_sign : {A : Type 0} → Unit {0} × A → A
behind_sign x = x.1

-- one or more of a piece with a sign between each two; the sign may stand before the first, too
abbrev pub separated : {A : Type 0} → Kind → Piece A → Piece (List A)
separated kind p =
    mapped separated_of (seq (optional (sign kind)) (seq p (many (mapped behind_sign (seq (sign kind) p)))))

-- ---- what is nested too deep

-- nothing, at a sign that would open it
abbrev pub too_deep : {A : Type 0} → Piece A
too_deep = nothing (λ _. TooDeep)

-- between signs, of which so many may be open: what stands between them may open one less
abbrev pub nested : {A : Type 0} → ℕ → (ℕ → Piece A) → Piece A
nested zero p = too_deep
nested (suc depth) p = p depth

-- ---- what a function returns, against a reading

-- what a function refused is what reading refuses; that memory ran out says nothing of it
abbrev pub Fails : {A : Type 0} → ReadError → List WordView → Reading A → Type 0
Fails errors.Memory left reading = Unit {0}
Fails (errors.Fault kind) left reading = reading ≡ refused kind left

-- what a function returned and left is what reading gives, unless memory ran out
abbrev pub Gives : {A : Type 0} → Result A ReadError → State → Reading A → Type 0
Gives (Ok x) s reading = reading ≡ Ok (x, s)
Gives (Err e) s reading = Fails e s.left reading

-- the same of a value that is seen so
abbrev pub GivesSeen : {A B : Type 0} → (A → B) → Result A ReadError → State → Reading B → Type 0
GivesSeen see (Ok x) s reading = reading ≡ Ok (see x, s)
GivesSeen see (Err e) s reading = Fails e s.left reading

-- what was read before, and what is still read
abbrev pub with_front : {A : Type 0} → List A → Reading (List A) → Reading (List A)
with_front front reading = reading >>= λ y. Ok (front ++ y.0, y.1)

-- what a function returned that adds what is read to a list
abbrev pub Adds : {A : Type 0} → Result (Unit {0}) ReadError → List A → List A → State → Reading (List A)
    → Type 0
Adds (Ok _) old new s reading = with_front old reading ≡ Ok (new, s)
Adds (Err e) old new s reading = Fails e s.left reading

-- ---- all of some words

-- a value, where no word is left behind it
abbrev pub all_read : {A : Type 0} → A → List WordView → Result A Refusal
all_read x [] = Ok x
all_read x (w ∷ ws) = refused (Expected i.End) (w ∷ ws)

-- a piece, from here on, and nothing behind it
abbrev pub read_whole : {A : Type 0} → Piece A → State → Result A Refusal
read_whole p s = p.read s >>= λ x. all_read x.0 x.1.left

-- the same of some words
abbrev pub read_all : {A : Type 0} → Piece A → List WordView → Result A Refusal
read_all p left = read_whole p (record { last = 0; left = left })

-- what a function returned and left is what reading all gives, unless memory ran out
abbrev pub GivesAll : {A : Type 0} → Result A ReadError → List WordView → Result A Refusal → Type 0
GivesAll (Ok x) left reading = reading ≡ Ok x
GivesAll (Err errors.Memory) left reading = Unit {0}
GivesAll (Err (errors.Fault kind)) left reading = reading ≡ refused kind left
