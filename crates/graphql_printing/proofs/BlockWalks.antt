-- The first line of a text and the others, a byte further on.
use Rattle.std.proofs.Common.{◌≡◌, ◌-◌, ◌≤◌, ◌&&◌, ◌||◌, ◌⊎◌, ℕ, suc, Bool, true, false, List, [], ◌∷◌}
use Rattle.std.proofs.Common.{length, drop, get_or, take, nat_eq, inl, inr, refl, sym, ap, subst, ◌∙◌, arith}
use Rattle.std.specs.Prelude.{not}
use Rattle.std.specs.List.{list_any}
use Rattle.std.proofs.lemmas.Bool.{and_parts, and_right, cases_Bool, eqb-true, not-true, or_parts}
use Rattle.graphql_tokens.specs.Bytes.{begins, is_line_end}
use Rattle.graphql_tokens.specs.BlockStringValues.{is_blank_line, is_white, lines, longer_first}
use Rattle.graphql_printing.specs.BlockTest.{first_is_blank, is_outer, last_is_blank}
use Rattle.graphql_printing.specs.Descriptions.{ends}

-- a text has a first line
record HasFirst (text : List ℕ) : Type 0 where
  first : List ℕ
  others : List (List ℕ)
  are : lines text ≡ first ∷ others

has_first : (text : List ℕ) → HasFirst text
has_first [] = record { first = []; others = []; are = refl }
has_first (c ∷ cs) = by (is_line_end c) (nat_eq c 13 && begins (nat_eq 10) cs) refl refl (has_first cs)
  where
    by : (e both : Bool) → is_line_end c ≡ e → (nat_eq c 13 && begins (nat_eq 10) cs) ≡ both → HasFirst cs
        → HasFirst (c ∷ cs)
    by true true is joined more =
        record { first = more.first; others = more.others; are = rw (is, joined) more.are }
    by true false is joined more = record { first = []; others = lines cs; are = rw (is, joined) refl }
    by false both is joined more =
        record { first = c ∷ more.first; others = more.others; are = rw is (ap (longer_first c) more.are) }

-- behind a line end another line begins; a carriage return and a line feed are one
record Ended (c : ℕ) (cs : List ℕ) : Type 0 where
  first : List ℕ
  others : List (List ℕ)
  are : lines (c ∷ cs) ≡ [] ∷ first ∷ others
  behind : (lines cs ≡ first ∷ others) ⊎ (lines cs ≡ [] ∷ first ∷ others)

ended : (c : ℕ) (cs : List ℕ) → is_line_end c ≡ true → Ended c cs
ended c cs is = by (nat_eq c 13 && begins (nat_eq 10) cs) refl
  where
    feed_first : (cs : List ℕ) → begins (nat_eq 10) cs ≡ true → lines cs ≡ [] ∷ lines (drop 1 cs)
    feed_first [] h = absurd cc
    feed_first (d ∷ ds) h = subst (λ (e : ℕ). lines (e ∷ ds) ≡ [] ∷ lines ds) (eqb-true 10 d h) refl

    by : (both : Bool) → (nat_eq c 13 && begins (nat_eq 10) cs) ≡ both → Ended c cs
    by true joined =
        let has = has_first (drop 1 cs) in
        let next = feed_first cs (and_parts _ _ joined).1 ∙ ap (λ (ls : List (List ℕ)). [] ∷ ls) has.are in
        record { first = has.first; others = has.others; are = rw (is, joined) next; behind = inr next }
    by false joined =
        let has = has_first cs in
        record {
          first = has.first;
          others = has.others;
          are = rw (is, joined) (ap (λ (ls : List (List ℕ)). [] ∷ ls) has.are);
          behind = inl has.are;
        }

in_line : (c : ℕ) (cs : List ℕ) → is_line_end c ≡ false → lines (c ∷ cs) ≡ longer_first c (lines cs)
in_line c cs is = rw is refl

-- ---- whether the first line is blank

longer_blank : (c : ℕ) (line : List ℕ) → is_blank_line (c ∷ line) ≡ (is_white c && is_blank_line line)
longer_blank c line = grind arith

white_in_line : (c : ℕ) → is_white c ≡ true → is_line_end c ≡ false
white_in_line c h = grind (arith, h)

first_in_line : (c : ℕ) (cs : List ℕ) → is_line_end c ≡ false
    → first_is_blank (lines (c ∷ cs)) ≡ (is_white c && first_is_blank (lines cs))
first_in_line c cs is =
    let has = has_first cs in
    ap first_is_blank (in_line c cs is ∙ ap (longer_first c) has.are) ∙ longer_blank c has.first
    ∙ ap (λ (ls : List (List ℕ)). is_white c && first_is_blank ls) (sym has.are)

pub first_behind_white : (c : ℕ) (cs : List ℕ) → is_white c ≡ true
    → first_is_blank (lines (c ∷ cs)) ≡ first_is_blank (lines cs)
first_behind_white c cs h = simp (first_in_line c cs (white_in_line c h), h)

pub first_at_other : (c : ℕ) (cs : List ℕ) → is_white c ≡ false
    → first_is_blank (lines (c ∷ cs)) ≡ is_line_end c
first_at_other c cs h = elim (cases_Bool _) [
  | inl is ↦ ap first_is_blank (ended c cs is).are ∙ sym is
  | inr is ↦ first_in_line c cs is ∙ ap (λ (w : Bool). w && first_is_blank (lines cs)) h ∙ sym is
]

-- ---- whether the last line is blank, where this says whether the first one has more in front

abbrev pub last_left : Bool → List (List ℕ) → Bool
last_left so_far [] = true
last_left so_far (line ∷ []) = not so_far && is_blank_line line
last_left so_far (line ∷ next ∷ more) = last_is_blank (next ∷ more)

pub none_so_far : (ls : List (List ℕ)) → last_left false ls ≡ last_is_blank ls
none_so_far [] = refl
none_so_far (line ∷ []) = refl
none_so_far (line ∷ next ∷ more) = refl

pub last_further : (so_far : Bool) (c : ℕ) (cs : List ℕ)
    → last_left so_far (lines (c ∷ cs)) ≡ last_left (not (is_line_end c) && (so_far || not (is_white c)))
    (lines cs)
last_further so_far c cs =
    elim (cases_Bool _) [ inl is ↦ at_end is (ended c cs is) | inr is ↦ within is (has_first cs) ]
  where
    at_end : is_line_end c ≡ true → Ended c cs
        → last_left so_far (lines (c ∷ cs)) ≡ last_left (not (is_line_end c) && (so_far || not (is_white c)))
        (lines cs)
    at_end is end = ap (last_left so_far) end.are
        ∙ elim end.behind as (λ _. last_is_blank (end.first ∷ end.others) ≡ last_left false (lines cs)) [
          | inl same ↦ sym (ap (last_left false) same ∙ none_so_far (end.first ∷ end.others))
          | inr more ↦ sym (ap (last_left false) more)
        ]
        ∙ ap (λ (e : Bool). last_left (not e && (so_far || not (is_white c))) (lines cs)) (sym is)

    step : (s w b : Bool) → (not s && (w && b)) ≡ (not (s || not w) && b)
    step true w b = refl
    step false true b = refl
    step false false b = refl

    one : (first : List ℕ) (others : List (List ℕ))
        → last_left so_far ((c ∷ first) ∷ others) ≡ last_left (so_far || not (is_white c)) (first ∷ others)
    one first [] = simp (longer_blank, step)
    one first (next ∷ more) = refl

    within : is_line_end c ≡ false → HasFirst cs
        → last_left so_far (lines (c ∷ cs)) ≡ last_left (not (is_line_end c) && (so_far || not (is_white c)))
        (lines cs)
    within is has = simp (in_line, has.are, one, is)

-- a white byte at the end changes nothing
pub white_behind : (so_far : Bool) (s : List ℕ) → 1 ≤ length s → is_white (get_or s (length s - 1) 0) ≡ true
    → last_left so_far (lines (take (length s - 1) s)) ≡ last_left so_far (lines s)
white_behind so_far [] some white = absurd (omega (arith, some))
white_behind so_far (c ∷ []) some white = simp (last_further, step)
  where
    still : (b : Bool) → (not false && (b || not true)) ≡ b
    still true = refl
    still false = refl

    step : (not (is_line_end c) && (so_far || not (is_white c))) ≡ so_far
    step = rw (white_in_line c white, white) (still so_far)
white_behind so_far (c ∷ d ∷ ds) some white =
    let place : suc (length (d ∷ ds) - 1) ≡ length (c ∷ d ∷ ds) - 1 = omega arith in
    ap (λ (i : ℕ). last_left so_far (lines (take i (c ∷ d ∷ ds)))) (sym place)
    ∙ last_further so_far c (take (length (d ∷ ds) - 1) (d ∷ ds)) ∙ white_behind (not (is_line_end c)
    && (so_far || not (is_white c))) (d ∷ ds) (omega arith)
    (ap (λ (i : ℕ). is_white (get_or (c ∷ d ∷ ds) i 0)) place ∙ white)
    ∙ sym (last_further so_far c (d ∷ ds))

-- behind any other byte at the end the last line is blank where that ends a line
pub other_behind : (so_far : Bool) (s : List ℕ) → 1 ≤ length s → is_white (get_or s (length s - 1) 0) ≡ false
    → last_left so_far (lines s) ≡ is_line_end (get_or s (length s - 1) 0)
other_behind so_far [] some other = absurd (omega (arith, some))
other_behind so_far (c ∷ []) some other = last_further so_far c [] ∙ step
  where
    by : (e b : Bool) → last_left (not e && (b || not false)) (lines []) ≡ e
    by true b = refl
    by false true = refl
    by false false = refl

    step : last_left (not (is_line_end c) && (so_far || not (is_white c))) (lines []) ≡ is_line_end c
    step = rw other (by (is_line_end c) so_far)
other_behind so_far (c ∷ d ∷ ds) some other =
    let place : suc (length (d ∷ ds) - 1) ≡ length (c ∷ d ∷ ds) - 1 = omega arith in
    last_further so_far c (d ∷ ds) ∙ other_behind (not (is_line_end c) && (so_far || not (is_white c)))
    (d ∷ ds) (omega arith) (ap (λ (i : ℕ). is_white (get_or (c ∷ d ∷ ds) i 0)) place ∙ other)
    ∙ ap (λ (i : ℕ). is_line_end (get_or (c ∷ d ∷ ds) i 0)) place

-- ---- whether a line has no indent, where this says whether the first one begins here

abbrev pub outer_left : Bool → List (List ℕ) → Bool
outer_left here [] = false
outer_left here (line ∷ more) = (here && is_outer line) || list_any is_outer more

pub outer_further : (here : Bool) (c : ℕ) (cs : List ℕ) → (here && not (is_white c || is_line_end c)) ≡ false
    → outer_left here (lines (c ∷ cs)) ≡ outer_left (is_line_end c) (lines cs)
outer_further here c cs other =
    elim (cases_Bool _) [ inl is ↦ at_end is (ended c cs is) | inr is ↦ within is (has_first cs) ]
  where
    at_end : is_line_end c ≡ true → Ended c cs
        → outer_left here (lines (c ∷ cs)) ≡ outer_left (is_line_end c) (lines cs)
    at_end is end = ap (outer_left here) end.are
        ∙ ap (λ (b : Bool). b || list_any is_outer (end.first ∷ end.others)) (and_right here false refl)
        ∙ elim end.behind as (λ _. list_any is_outer (end.first ∷ end.others) ≡ outer_left true (lines cs)) [
          | inl same ↦ sym (ap (outer_left true) same)
          | inr more ↦ sym (ap (outer_left true) more)
        ]
        ∙ ap (λ (e : Bool). outer_left e (lines cs)) (sym is)

    inner : (h w : Bool) → (h && not (w || false)) ≡ false → (h && not w) ≡ false
    inner true true other = refl
    inner true false other = other
    inner false w other = refl

    within : is_line_end c ≡ false → HasFirst cs
        → outer_left here (lines (c ∷ cs)) ≡ outer_left (is_line_end c) (lines cs)
    within is has = simp (in_line c cs is, has.are, inner here _ (rw is at other), is)

pub outer_found : (here : Bool) (c : ℕ) (cs : List ℕ) → (here && not (is_white c || is_line_end c)) ≡ true
    → outer_left here (lines (c ∷ cs)) ≡ true
outer_found here c cs h =
    let parts = and_parts here _ h in
    let neither = or_parts _ _ (not-true _ parts.1) in
    let has = has_first cs in
    ap (outer_left here) (in_line c cs neither.1 ∙ ap (longer_first c) has.are)
    ∙ ap (λ (b : Bool). (b && not (is_white c)) || list_any is_outer has.others) parts.0
    ∙ ap (λ (w : Bool). not w || list_any is_outer has.others) neither.0

-- ---- the last byte

pub ends_last : (p : ℕ → Bool) (text : List ℕ) → 1 ≤ length text
    → ends p text ≡ p (get_or text (length text - 1) 0)
ends_last p [] some = absurd (omega (arith, some))
ends_last p (c ∷ []) some = refl
ends_last p (c ∷ d ∷ ds) some =
    let place : suc (length (d ∷ ds) - 1) ≡ length (c ∷ d ∷ ds) - 1 = omega arith in
    ends_last p (d ∷ ds) (omega arith) ∙ ap (λ (i : ℕ). p (get_or (c ∷ d ∷ ds) i 0)) place
