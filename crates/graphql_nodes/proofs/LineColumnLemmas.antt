-- How a line and a column go on by one byte.
use Rattle.std.proofs.Common.{◌≡◌, ◌≤◌, ◌<◌, ◌+◌, ℕ, zero, suc, Bool, true, false, ◌&&◌, cond, nat_eq}
use Rattle.std.proofs.Common.{List, slice_index, refl, ap, ◌∙◌, arith, add-one, add-zero}
use Rattle.std.proofs.lemmas.Bool.{eq-eqb, ne_eqb}
use Rattle.std.proofs.Math.Bool.{and-true}
use Rattle.graphql_nodes.specs.LineColumns.{count_before, ends_line, begins_char, line_of, column_of}

-- no more places pass than there are
count-le : (p : ℕ → Bool) (n : ℕ) → count_before p n ≤ n
count-le p zero = omega arith
count-le p (suc n) = grind (arith, count-le p n)

-- the further, the more places pass
grows : (p : ℕ → Bool) (i n : ℕ) → i ≤ n → count_before p i ≤ count_before p n
grows p i zero le = grind arith
grows p i (suc n) le = grind (arith, grows p i n, λ (e : i ≡ suc n). ap (count_before p) e)

count-none : (p : ℕ → Bool) (n : ℕ) → ((i : ℕ) → i < n → p i ≡ false) → count_before p n ≡ 0
count-none p zero fails = refl
count-none p (suc n) fails = grind (arith, count-none p n)

and-no : (b c : Bool) → c ≡ false → b && c ≡ false
and-no b c h = grind arith

swap : (b k : ℕ) → 1 + (b + k) ≡ (1 + k) + b
swap b k = omega arith

-- the characters on a line that begin before a place
abbrev on_line : List ℕ → ℕ → ℕ → ℕ
on_line text line n = count_before (λ i. begins_char (slice_index text i) && nat_eq (line_of text i) line) n

next-line : (text : List ℕ) (n : ℕ) (b : Bool) → ends_line text n ≡ b
    → line_of text (suc n) ≡ line_of text n + cond b 1 0
next-line text n b e = rw e (omega arith)

same-line : (text : List ℕ) (n : ℕ) → ends_line text n ≡ false → line_of text (suc n) ≡ line_of text n
same-line text n e = rw e (omega arith)

next-column : (text : List ℕ) (n : ℕ) (b : Bool) → ends_line text n ≡ false
    → begins_char (slice_index text n) ≡ b → column_of text (suc n) ≡ column_of text n + cond b 1 0
next-column text n b e begins =
    ap (λ l. 1 + (cond (begins_char (slice_index text n) && nat_eq (line_of text n) l) 1 0
    + on_line text l n)) (same-line text n e) ∙ rw (eq-eqb (line_of text n) _ refl, and-true, begins)
    (swap (cond b 1 0) _)

earlier_line : (text : List ℕ) (n i : ℕ) → ends_line text n ≡ true → i < suc n
    → nat_eq (line_of text i) (line_of text (suc n)) ≡ false
earlier_line text n i e lt = ne_eqb _ _ (λ same. omega (
  arith,
  same,
  next-line text n true e,
  grows (ends_line text) i n (omega arith),
))

first-column : (text : List ℕ) (n : ℕ) → ends_line text n ≡ true → column_of text (suc n) ≡ 1
first-column text n e =
    ap (λ (k : ℕ). 1 + k) (count-none _ (suc n) (λ i lt. and-no (begins_char (slice_index text i)) _
    (earlier_line text n i e lt)))

-- at a byte that ends a line
pub line-ends : (text : List ℕ) (n : ℕ) → ends_line text n ≡ true → line_of text (n + 1) ≡ line_of text n + 1
line-ends text n e = rw add-one (next-line text n true e)

pub column-ends : (text : List ℕ) (n : ℕ) → ends_line text n ≡ true → column_of text (n + 1) ≡ 1
column-ends text n e = rw add-one (first-column text n e)

-- and at any other
pub line-stays : (text : List ℕ) (n : ℕ) → ends_line text n ≡ false → line_of text (n + 1) ≡ line_of text n
line-stays text n e = rw add-one (same-line text n e)

pub column-goes_on : (text : List ℕ) (n : ℕ) → ends_line text n ≡ false
    → begins_char (slice_index text n) ≡ true → column_of text (n + 1) ≡ column_of text n + 1
column-goes_on text n e begins = rw add-one (next-column text n true e begins)

pub column-stays : (text : List ℕ) (n : ℕ) → ends_line text n ≡ false
    → begins_char (slice_index text n) ≡ false → column_of text (n + 1) ≡ column_of text n
column-stays text n e begins = rw add-one (next-column text n false e begins ∙ add-zero _)

-- both are at most one more than the offset
pub line-le : (text : List ℕ) (n : ℕ) → line_of text n ≤ n + 1
line-le text n = omega (arith, count-le (ends_line text) n)

pub column-le : (text : List ℕ) (n : ℕ) → column_of text n ≤ n + 1
column-le text n = omega (
  arith,
  count-le (λ i. begins_char (slice_index text i) && nat_eq (line_of text i) (line_of text n)) n,
)
