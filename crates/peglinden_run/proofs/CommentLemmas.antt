-- Where comments begin, byte after byte, and token after token.
use Rattle.std.proofs.Common.{◌≡◌, ◌∙◌, ℕ, ◌+◌, ◌-◌, ◌<◌, zero, suc, Bool, true, false, List, [], ◌∷◌, ◌++◌}
use Rattle.std.proofs.Common.{Option, None, Some, Ok, Err, append_assoc, ap, drop, get_or, if◌then◌else◌}
use Rattle.std.proofs.Common.{inr, length, length-take-le, le_of_lt, refl, subst, sym, take}
use Rattle.std.specs.Prelude.{◌&&◌, ◌||◌, nat_eq, not, option_and_then}
use Rattle.std.specs.List.{AllByRecursion, list_any}
use Rattle.std.proofs.lemmas.Bool.{eqb-true, true≢false}
use Rattle.std.proofs.lemmas.List.{append-nil, drop_more, take-append-drop, take_more}
use Rattle.graphql_tokens.specs.Bytes.{is_line_end}
use Rattle.graphql_tokens.specs.First.{First, FirstReading, first_behind, first_of, read_behind}
use Rattle.graphql_tokens.specs.Ignored.{ignored}
use Rattle.graphql_tokens.specs.Lexemes.{Reading, lexeme}
use Rattle.peglinden_run.specs.CommentPlaces.{AddsComments, BeginsAt, IsCommentAt, IsOutside, before_token}
use Rattle.peglinden_run.specs.CommentPlaces.{begun, behind_tokens, goes_on, rest_of}

-- what is a fact of each of two lists is one of both
pub all-append : {A : Type 0} (P : A → Type 0) (xs ys : List A) → AllByRecursion P xs → AllByRecursion P ys
    → AllByRecursion P (xs ++ ys)
all-append P [] ys all more = more
all-append P (x ∷ xs) ys all more = (all.0, all-append P xs ys all.1 more)

-- a fact of each that follows from another
pub all-weaker : {A : Type 0} (P Q : A → Type 0) → ((x : A) → P x → Q x) → (xs : List A)
    → AllByRecursion P xs → AllByRecursion Q xs
all-weaker P Q so [] all = tt
all-weaker P Q so (x ∷ xs) all = (so x all.0, all-weaker P Q so xs all.1)

-- a fact of each of some is one of the first of them
pub all-take : {A : Type 0} (P : A → Type 0) (n : ℕ) (xs : List A) → AllByRecursion P xs
    → AllByRecursion P (take n xs)
all-take P zero xs all = tt
all-take P (suc n) [] all = tt
all-take P (suc n) (x ∷ xs) all = (all.0, all-take P n xs all.1)

neither : (a b : Bool) → a || b ≡ false → (a ≡ false) × (b ≡ false)
neither true b is = absurd (true≢false is)
neither false b is = (refl, is)

none-more : (test : ℕ → Bool) (xs : List ℕ) (x : ℕ) → list_any test xs ≡ false → test x ≡ false
    → list_any test (xs ++ x ∷ []) ≡ false
none-more test [] x none other = rw other refl
none-more test (y ∷ xs) x none other =
    let both = neither (test y) (list_any test xs) none in
    rw (both.0, none-more test xs x both.1 other) refl

-- whether a comment goes on behind one byte more
outside-by : (ends : Bool) (before : List ℕ) (byte : ℕ) (inside : Bool) → is_line_end byte ≡ ends
    → (inside ≡ false → IsOutside before) → not ends && (inside || nat_eq byte 35) ≡ false
    → IsOutside (before ++ byte ∷ [])
outside-by true before byte inside is out goes = record {
  lines = before ++ byte ∷ [];
  starts = inr (before, (byte, (refl, is)));
  line = [];
  none = refl;
  are = sym (append-nil (before ++ byte ∷ []));
}
outside-by false before byte inside is out goes =
    let both = neither inside (nat_eq byte 35) goes in
    let was = out both.0 in
    record {
      lines = was.lines;
      starts = was.starts;
      line = was.line ++ byte ∷ [];
      none = none-more _ was.line byte was.none both.1;
      are = ap (λ l. l ++ byte ∷ []) was.are ∙ append_assoc was.lines was.line _;
    }

-- what is known of the first of these bytes: which places were added, and whether a comment goes on
pub record Found (bytes : List ℕ) (upto at : ℕ) (first places : List ℕ) (inside : Bool) : Type 0 where
  pub added : List ℕ
  pub are : places ≡ first ++ added
  pub begin : AllByRecursion (BeginsAt bytes at) added
  pub outside : inside ≡ false → IsOutside (take upto bytes)

-- a comment that begins with the next byte
begun-here : (bytes : List ℕ) (i at : ℕ) → i < length bytes → get_or bytes i 0 ≡ 35 → IsOutside (take i bytes)
    → BeginsAt bytes at (at + i)
begun-here bytes i at below is out = (
  take i bytes,
  (
    record {
      outside = out;
      after = drop (i + 1) bytes;
      are = sym (take-append-drop i bytes) ∙ ap (λ l. take i bytes ++ l) (drop_more bytes i 0 below
          ∙ ap (λ (b : ℕ). b ∷ drop (i + 1) bytes) is);
    },
    ap (λ (n : ℕ). at + n) (sym (length-take-le i bytes (le_of_lt below))),
  ),
)

begun-all : (bytes : List ℕ) (i at byte : ℕ) (test inside : Bool) → nat_eq byte 35 ≡ test → i < length bytes
    → byte ≡ get_or bytes i 0 → (inside ≡ false → IsOutside (take i bytes))
    → AllByRecursion (BeginsAt bytes at) (if test && not inside then (at + i) ∷ [] else [])
begun-all bytes i at byte true false is below same out =
    (begun-here bytes i at below (sym same ∙ eqb-true byte 35 is) (out refl), tt)
begun-all bytes i at byte true true is below same out = tt
begun-all bytes i at byte false inside is below same out = tt

-- of one byte more
pub found-more : (bytes : List ℕ) (i at : ℕ) (first places more : List ℕ) (inside now : Bool) (byte : ℕ)
    → i < length bytes → byte ≡ get_or bytes i 0 → Found bytes i at first places inside
    → now ≡ goes_on inside byte → more ≡ places ++ begun inside byte (at + i)
    → Found bytes (i + 1) at first more now
found-more bytes i at first places more inside now byte below same was goes adds =
    let next : take i bytes ++ byte ∷ [] ≡ take (i + 1) bytes =
    ap (λ (b : ℕ). take i bytes ++ b ∷ []) same ∙ sym (take_more bytes i 0 below) in
    record {
      added = was.added ++ begun inside byte (at + i);
      are = adds ∙ ap (λ l. l ++ begun inside byte (at + i)) was.are ∙ append_assoc first was.added _;
      begin = all-append _ was.added _ was.begin (begun-all bytes i at byte (nat_eq byte 35) inside refl below
          same was.outside);
      outside = λ out. subst IsOutside next (outside-by (is_line_end byte) (take i bytes) byte inside refl
          was.outside (sym goes ∙ out));
    }

passed-behind : (read : Reading) (passed : ℕ) (text : List ℕ) (first : First)
    → ◌≡◌ {A = FirstReading} (Ok (Some first)) (read_behind passed text read) → first.passed ≡ passed
passed-behind (Ok token) passed text first is =
    let same : first ≡ record {
      passed = passed;
      kind = token.kind;
      text = take token.size text;
      rest = drop token.size text;
    } = cc in
    ap (λ (f : First). f.passed) same
passed-behind (Err wrong) passed text first is = cc

first-behind : (rest : List ℕ) (passed : ℕ) (first : First)
    → ◌≡◌ {A = FirstReading} (Ok (Some first)) (first_behind passed rest) → first.passed ≡ passed
first-behind [] passed first is = cc
first-behind (c ∷ cs) passed first is = passed-behind (lexeme (c ∷ cs)) passed (c ∷ cs) first is

-- a token that comes first stands behind what says nothing
pub first-passed : (text : List ℕ) (first : First)
    → ◌≡◌ {A = FirstReading} (Ok (Some first)) (first_of text) → first.passed ≡ ignored text
first-passed text first is = first-behind (drop (ignored text) text) (ignored text) first is

none-read : (read : Reading) (passed : ℕ) (text : List ℕ)
    → ◌≡◌ {A = FirstReading} (Ok None) (read_behind passed text read) → ⊥
none-read (Ok token) passed text is = cc
none-read (Err wrong) passed text is = cc

none-left : (rest : List ℕ) (passed : ℕ) → ◌≡◌ {A = FirstReading} (Ok None) (first_behind passed rest)
    → rest ≡ []
none-left [] passed is = refl
none-left (c ∷ cs) passed is = absurd (none-read (lexeme (c ∷ cs)) passed (c ∷ cs) is)

-- where no token comes, all says nothing
pub all-before : (text : List ℕ) → ◌≡◌ {A = FirstReading} (Ok None) (first_of text)
    → before_token text ≡ text
all-before text is =
    let none : drop (ignored text) text ≡ [] = none-left (drop (ignored text) text) (ignored text) is in
    sym (append-nil (before_token text)) ∙ ap (λ l. before_token text ++ l) (sym none)
    ∙ take-append-drop (ignored text) text

-- what stands behind one token more
pub behind-next : (text rest behind : List ℕ) (tokens : ℕ) → behind_tokens tokens text ≡ Some rest
    → rest_of (first_of rest) ≡ Some behind → behind_tokens (suc tokens) text ≡ Some behind
behind-next text rest behind tokens is next =
    ap (λ (o : Option (List ℕ)). option_and_then (λ (r : List ℕ). rest_of (first_of r)) o) is ∙ next

-- where comments begin before one token more
pub places-next : (text rest : List ℕ) (tokens : ℕ) (old new : List ℕ) → behind_tokens tokens text ≡ Some rest
    → AllByRecursion (IsCommentAt text) old
    → AddsComments (before_token rest) (length text - length rest) old new
    → AllByRecursion (IsCommentAt text) new
places-next text rest tokens old new behind were adds =
    let here = all-weaker (BeginsAt (before_token rest) (length text - length rest)) (IsCommentAt text)
    (λ place begins. record { tokens = tokens; rest = rest; behind = behind; begins = begins }) adds.0
    adds.1.1
    in
    subst (AllByRecursion (IsCommentAt text)) (sym adds.1.0) (all-append _ old adds.0 were here)
