-- The bytes of a number are its token again: GraphQL specification of October 2021, sections 2.9.1 and 2.9.2.
use Rattle.std.proofs.Common.{◌≡◌, ◌+◌, ◌-◌, ◌<◌, ◌≤◌, ℕ, Bool, true, false, ◌||◌, not, cond, List, [], ◌∷◌}
use Rattle.std.proofs.Common.{◌++◌, length, drop, Option, Ok, Err, refl, sym, ap, ◌∙◌, arith}
use Rattle.std.specs.Prelude.{nat_eq, nat_lt}
use Rattle.std.specs.List.{prefix_len}
use Rattle.std.specs.Char.{is_ascii_digit}
use Rattle.std.proofs.lemmas.Bool.{or_parts}
use Rattle.std.proofs.lemmas.List.{drop-append-le, length-drop, length-take-le, take-append-drop}
use Rattle.std.proofs.lemmas.List.Sums.{prefix_len-le-length}
use Rattle.std.proofs.Math.Seq.{drop-append_seam}
use Rattle.graphql_tokens.specs.Bytes.{begins, is_blank, is_name_byte, is_name_start}
use Rattle.graphql_tokens.specs.Lexemes.{Reading, block_string_token, first_sign, is_number_start, is_spread}
use Rattle.graphql_tokens.specs.Lexemes.{lexeme, number_token, sign_kind, sign_token, string_fault}
use Rattle.graphql_tokens.specs.Lexemes.{string_token, token, wrong}
use Rattle.graphql_tokens.specs.Numbers.{decimal, exponent, fraction, goes_on, integer, no_part, number}
use Rattle.graphql_tokens.specs.Numbers.{scientific, sign, then_part, with_digits, minus}
use Rattle.graphql_tokens.specs.Strings.{begins_with_quotes, block_characters, characters}
use Rattle.graphql_tokens.specs.declared.token.TokenErrorKind.TheVariants as e
use Rattle.graphql_tokens.specs.declared.token.TokenKind.{TokenKind}
use Rattle.graphql_tokens.specs.declared.token.TokenKind.TheVariants as t
use Rattle.graphql_grammar.specs.TextsOfWords.{IsTextOf}
use Rattle.graphql_grammar.proofs.ReadingLemmas.{either}
use Rattle.graphql_round_trip.specs.Printed.{IsToken, ends_token}
use Rattle.graphql_round_trip.proofs.TokenTexts.{is_solid, token_first}

-- it begins with no digit, no `.`, no zero and no letter of an exponent
no_digit : (rest : List ℕ) → goes_on rest ≡ false → begins is_ascii_digit rest ≡ false
no_digit [] stops = refl
no_digit (c ∷ cs) stops = (or_parts _ _ (or_parts _ _ stops).0).1

no_point : (rest : List ℕ) → goes_on rest ≡ false → begins (nat_eq 46) rest ≡ false
no_point [] stops = refl
no_point (c ∷ cs) stops = (or_parts _ _ stops).1

no_zero : (rest : List ℕ) → goes_on rest ≡ false → begins (nat_eq 48) rest ≡ false
no_zero [] stops = refl
no_zero (c ∷ cs) stops = let none = no_digit (c ∷ cs) stops in grind (arith, none)

-- whether an exponent begins so
abbrev marks_exponent : List ℕ → Bool
marks_exponent text = begins (nat_eq 101) text || begins (nat_eq 69) text

no_letter : (c : ℕ) → is_name_start c ≡ false → (nat_eq 101 c || nat_eq 69 c) ≡ false
no_letter c none = grind (arith, none)

no_exponent : (rest : List ℕ) → goes_on rest ≡ false → marks_exponent rest ≡ false
no_exponent [] stops = refl
no_exponent (c ∷ cs) stops = no_letter c (or_parts _ _ (or_parts _ _ stops).0).0

-- what ends a token goes on with no number
ended : (rest : List ℕ) → ends_token rest ≡ true → goes_on rest ≡ false
ended [] end = refl
ended (c ∷ cs) end = by (is_name_byte c) (nat_eq c 46) (nat_eq c 34) refl end
  where
    other_way : nat_eq c 46 ≡ false → nat_eq 46 c ≡ false
    other_way none = grind (arith, none)

    by : (a b d : Bool) → nat_eq c 46 ≡ b → not (a || (b || d)) ≡ true → (a || nat_eq 46 c) ≡ false
    by false false d is end = other_way is
    by a b d is end = absurd cc

-- a test of the first byte, where none of what may follow passes it
test_same : (p : List ℕ → Bool) → ((c : ℕ) (cs ds : List ℕ) → p (c ∷ cs) ≡ p (c ∷ ds))
    → (front tail rest : List ℕ) → p rest ≡ false → (p (front ++ tail) ≡ true → 0 < length front)
    → p (front ++ rest) ≡ p (front ++ tail)
test_same p first [] tail rest fails some = fails ∙ sym (by (p tail) some)
  where
    by : (b : Bool) → (b ≡ true → 0 < 0) → b ≡ false
    by true some = let none = some refl in absurd (omega (arith, none))
    by false some = refl
test_same p first (c ∷ cs) tail rest fails some = first c (cs ++ rest) (cs ++ tail)

-- how many pass a test, where they all stand in front
run_same : (p : ℕ → Bool) (front tail rest : List ℕ) → begins p rest ≡ false
    → prefix_len p (front ++ tail) ≤ length front
    → prefix_len p (front ++ rest) ≡ prefix_len p (front ++ tail)
run_same p [] tail rest stops short = none rest stops ∙ omega (arith, short)
  where
    none : (rest : List ℕ) → begins p rest ≡ false → prefix_len p rest ≡ 0
    none [] stops = refl
    none (c ∷ cs) stops = rw stops refl
run_same p (c ∷ cs) tail rest stops short = by (p c) short (run_same p cs tail rest stops)
  where
    by : (b : Bool) → cond b (1 + prefix_len p (cs ++ tail)) 0 ≤ length (c ∷ cs)
        → (prefix_len p (cs ++ tail) ≤ length cs → prefix_len p (cs ++ rest) ≡ prefix_len p (cs ++ tail))
        → cond b (1 + prefix_len p (cs ++ rest)) 0 ≡ cond b (1 + prefix_len p (cs ++ tail)) 0
    by true short more = ap (λ (n : ℕ). 1 + n) (more (omega (arith, short)))
    by false short more = refl

-- the type of a part of a number, which another crate names by a part alone
abbrev type_of : {A : Type 0} → A → Type 0
type_of {A} x = A

abbrev Part : Type 0
Part = type_of no_part

-- a whole part of a number lies within its text, and is the same before other bytes that don't go on with it
record IsLocal (part : List ℕ → Part) : Type 0 where
  within : (text : List ℕ) → (part text).is_whole ≡ true → (part text).size ≤ length text
  same : (front tail rest : List ℕ) → (part (front ++ tail)).is_whole ≡ true → (part (front ++ tail)).size
      ≤ length front → goes_on rest ≡ false → part (front ++ rest) ≡ part (front ++ tail)

some_there : (n : ℕ) → nat_lt 0 n ≡ true → 0 < n
some_there n is = grind (arith, is)

digits_within : (n : ℕ) (text : List ℕ) → (with_digits n text).is_whole ≡ true
    → (with_digits n text).size ≤ length text
digits_within n text whole =
    let some = some_there _ whole in
    let run = prefix_len-le-length is_ascii_digit (drop n text) in
    let left = length-drop n text in
    omega (arith, some, run, left)

-- digits behind so many bytes, which all stand in front
digits_same : (n : ℕ) (front tail rest : List ℕ) → (with_digits n (front ++ tail)).size ≤ length front
    → goes_on rest ≡ false → with_digits n (front ++ rest) ≡ with_digits n (front ++ tail)
digits_same n front tail rest short stops =
    let count : List ℕ → ℕ = λ text. prefix_len is_ascii_digit text in
    let there = ap count (drop-append-le n front tail (omega (arith, short))) in
    let here = ap count (drop-append-le n front rest (omega (arith, short))) in
    let left = length-drop n front in
    let same = run_same is_ascii_digit (drop n front) tail rest (no_digit rest stops)
    (omega (arith, short, there, left)) in
    ap (λ (k : ℕ). let part : Part = record { size = n + k; is_whole = nat_lt 0 k; is_float = false } in part)
    (here ∙ same ∙ sym there)

-- a zero alone, behind so many bytes
abbrev zero_behind : ℕ → Part
zero_behind n = record { size = n + 1; is_whole = true; is_float = false }

-- that, or digits
abbrev zero_or_digits : Bool → ℕ → List ℕ → Part
zero_or_digits is_zero n text = cond is_zero (zero_behind n) (with_digits n text)

-- an integer behind so many bytes, which are its `-` or nothing
abbrev integer_behind : ℕ → List ℕ → Part
integer_behind n text = zero_or_digits (begins (nat_eq 48) (drop n text)) n text

-- an integer that is whole has a byte, and lies within its text
integer_within : (n : ℕ) (text : List ℕ) → (integer_behind n text).is_whole ≡ true
    → (0 < (integer_behind n text).size) × ((integer_behind n text).size ≤ length text)
integer_within n text = by (begins (nat_eq 48) (drop n text)) refl
  where
    left : (xs : List ℕ) → begins (nat_eq 48) xs ≡ true → 0 < length xs
    left [] is = absurd cc
    left (c ∷ cs) is = omega arith

    by : (b : Bool) → begins (nat_eq 48) (drop n text) ≡ b → (zero_or_digits b n text).is_whole ≡ true
        → (0 < (zero_or_digits b n text).size) × ((zero_or_digits b n text).size ≤ length text)
    by true is whole = let some = left (drop n text) is in let rest =
        length-drop n text in (omega arith, omega (arith, some, rest))
    by false is whole = let some = some_there _ whole in (omega (arith, some), digits_within n text whole)

-- whether a zero stands there is seen in front: else the integer would end beyond it
behind_same : (n : ℕ) (front tail rest : List ℕ) → (integer_behind n (front ++ tail)).size ≤ length front
    → goes_on rest ≡ false → integer_behind n (front ++ rest) ≡ integer_behind n (front ++ tail)
behind_same n front tail rest short stops = ap (λ (b : Bool). zero_or_digits b n (front ++ rest)) zeros
    ∙ digits (is_zero (drop n (front ++ tail))) short
  where
    is_zero : List ℕ → Bool
    is_zero = begins (nat_eq 48)

    left : length (drop n front) ≡ length front - n
    left = length-drop n front

    inside : (b : Bool) → (zero_or_digits b n (front ++ tail)).size ≤ length front → n ≤ length front
    inside true short = omega (arith, short)
    inside false short = omega (arith, short)

    some : (b : Bool) → (zero_or_digits b n (front ++ tail)).size ≤ length front → b ≡ true
        → 0 < length (drop n front)
    some true short is = omega (arith, short, left)
    some false short is = absurd cc

    here : drop n (front ++ rest) ≡ drop n front ++ rest
    here = drop-append-le n front rest (inside (is_zero (drop n (front ++ tail))) short)

    there : drop n (front ++ tail) ≡ drop n front ++ tail
    there = drop-append-le n front tail (inside (is_zero (drop n (front ++ tail))) short)

    zeros : is_zero (drop n (front ++ rest)) ≡ is_zero (drop n (front ++ tail))
    zeros = ap is_zero here ∙ test_same is_zero (λ c cs ds. refl) (drop n front) tail rest
        (no_zero rest stops) (λ is. some (is_zero (drop n (front ++ tail))) short (ap is_zero there ∙ is))
        ∙ sym (ap is_zero there)

    digits : (b : Bool) → (zero_or_digits b n (front ++ tail)).size ≤ length front
        → zero_or_digits b n (front ++ rest) ≡ zero_or_digits b n (front ++ tail)
    digits true short = refl
    digits false short = digits_same n front tail rest short stops

integer_same : (front tail rest : List ℕ) → (integer (front ++ tail)).is_whole ≡ true
    → (integer (front ++ tail)).size ≤ length front → goes_on rest ≡ false
    → integer (front ++ rest) ≡ integer (front ++ tail)
integer_same [] tail rest whole short stops = let some =
    (integer_within _ tail whole).0 in absurd (omega (arith, some, short))
integer_same (c ∷ cs) tail rest whole short stops = behind_same _ (c ∷ cs) tail rest short stops

integer_local : IsLocal integer
integer_local = record { within = λ text whole. (integer_within _ text whole).1; same = integer_same }

-- digits behind so many bytes, if they should be there
abbrev digits_if : Bool → ℕ → List ℕ → Part
digits_if there n text = cond there (with_digits n text) no_part

digits_if_within : (b : Bool) (n : ℕ) (text : List ℕ) → (digits_if b n text).is_whole ≡ true
    → (digits_if b n text).size ≤ length text
digits_if_within true n text whole = digits_within n text whole
digits_if_within false n text whole = omega arith

-- there is a byte, where they stand behind one at least
digits_if_some : (b : Bool) (n : ℕ) (front text : List ℕ) → (digits_if b (1 + n) text).size ≤ length front
    → b ≡ true → 0 < length front
digits_if_some true n front text short is = omega (arith, short)
digits_if_some false n front text short is = absurd cc

fraction_same : (front tail rest : List ℕ) → (fraction (front ++ tail)).size ≤ length front
    → goes_on rest ≡ false → fraction (front ++ rest) ≡ fraction (front ++ tail)
fraction_same front tail rest short stops =
    let begun = test_same (begins (nat_eq 46)) (λ c cs ds. refl) front tail rest (no_point rest stops)
    (digits_if_some (begins (nat_eq 46) (front ++ tail)) 0 front (front ++ tail) short) in
    ap (λ (b : Bool). digits_if b 1 (front ++ rest)) begun ∙ by (begins (nat_eq 46) (front ++ tail)) short
  where
    by : (b : Bool) → (digits_if b 1 (front ++ tail)).size ≤ length front
        → digits_if b 1 (front ++ rest) ≡ digits_if b 1 (front ++ tail)
    by true short = digits_same 1 front tail rest short stops
    by false short = refl

fraction_local : IsLocal fraction
fraction_local = record {
  within = λ text. digits_if_within _ 1 text;
  same = λ front tail rest whole. fraction_same front tail rest;
}

-- the letter of an exponent, and its sign, if any
abbrev before_digits : List ℕ → ℕ
before_digits text = 1 + sign (drop 1 text)

-- a whole exponent has a byte behind its letter, so what may follow is no sign of it
signs_same : (front tail rest : List ℕ)
    → (with_digits (before_digits (front ++ tail)) (front ++ tail)).is_whole ≡ true
    → (with_digits (before_digits (front ++ tail)) (front ++ tail)).size ≤ length front
    → before_digits (front ++ rest) ≡ before_digits (front ++ tail)
signs_same [] tail rest whole short = absurd (omega (arith, short))
signs_same (c ∷ []) tail rest whole short = let some =
    some_there _ whole in absurd (omega (arith, some, short))
signs_same (c ∷ d ∷ ds) tail rest whole short = refl

exponent_same : (front tail rest : List ℕ) → (exponent (front ++ tail)).is_whole ≡ true
    → (exponent (front ++ tail)).size ≤ length front → goes_on rest ≡ false
    → exponent (front ++ rest) ≡ exponent (front ++ tail)
exponent_same front tail rest whole short stops =
    let n : ℕ = sign (drop 1 (front ++ tail)) in
    let begun = test_same marks_exponent (λ c cs ds. refl) front tail rest (no_exponent rest stops)
    (digits_if_some (marks_exponent (front ++ tail)) n front (front ++ tail) short) in
    ap (λ (b : Bool). digits_if b (before_digits (front ++ rest)) (front ++ rest)) begun
    ∙ by (marks_exponent (front ++ tail)) whole short
  where
    by : (b : Bool) → (digits_if b (before_digits (front ++ tail)) (front ++ tail)).is_whole ≡ true
        → (digits_if b (before_digits (front ++ tail)) (front ++ tail)).size ≤ length front
        → digits_if b (before_digits (front ++ rest)) (front ++ rest) ≡ digits_if b
        (before_digits (front ++ tail)) (front ++ tail)
    by true whole short = ap (λ (n : ℕ). with_digits n (front ++ rest)) (signs_same front tail rest whole
        short) ∙ digits_same (before_digits (front ++ tail)) front tail rest short stops
    by false whole short = refl

exponent_local : IsLocal exponent
exponent_local = record { within = λ text. digits_if_within _ _ text; same = exponent_same }

-- both are whole where they are together
both_whole : (a b : Part) → (then_part a b).is_whole ≡ true
    → (a.is_whole ≡ true) × (b.is_whole ≡ true) × ((then_part a b).size ≡ a.size + b.size)
both_whole a b = by a.is_whole refl
  where
    both : Part
    both = record { size = a.size + b.size; is_whole = b.is_whole; is_float = a.is_float || nat_lt 0 b.size }

    by : (w : Bool) → a.is_whole ≡ w → (cond w both a).is_whole ≡ true
        → (a.is_whole ≡ true) × (b.is_whole ≡ true) × ((cond w both a).size ≡ a.size + b.size)
    by true is whole = (is, whole, refl)
    by false is whole = absurd cc

then_local : (a b : List ℕ → Part) → IsLocal a → IsLocal b
    → IsLocal (λ text. then_part (a text) (b (drop (a text).size text)))
then_local a b front_local next_local = record {
  within = λ text whole.
      let w = both_whole (a text) (b (drop (a text).size text)) whole in
      let first = front_local.within text w.0 in
      let next = next_local.within (drop (a text).size text) w.1 in
      let left = length-drop (a text).size text in
      let sum = w.2 in
      omega (arith, first, next, left, sum);
  same = λ front tail rest whole short stops.
      let n : ℕ = (a (front ++ tail)).size in
      let w = both_whole _ (b (drop n (front ++ tail))) whole in
      let sum = w.2 in
      let inside : n ≤ length front = omega (arith, short, sum) in
      let here = drop-append-le n front rest inside in
      let there = drop-append-le n front tail inside in
      let left = length-drop n front in
      let first = front_local.same front tail rest w.0 inside stops in
      let long = ap (λ (xs : List ℕ). (b xs).size) there in
      let next = next_local.same (drop n front) tail rest (sym (ap (λ (xs : List ℕ). (b xs).is_whole) there)
      ∙ w.1) (omega (arith, short, sum, left, long)) stops in
      ap (λ (x : Part). then_part x (b (drop x.size (front ++ rest)))) first
      ∙ ap (then_part (a (front ++ tail))) (ap b here ∙ next ∙ sym (ap b there));
}

scientific_local : IsLocal scientific
scientific_local = then_local decimal exponent (then_local integer fraction integer_local fraction_local)
    exponent_local

-- a number that is whole is so because nothing goes on with it
unspoilt : (b : Bool) (n : Part) → (cond b (record n { is_whole = false }) n).is_whole ≡ true
    → cond b (record n { is_whole = false }) n ≡ n
unspoilt true n whole = absurd cc
unspoilt false n whole = refl

-- a number is the same before whatever doesn't go on with it
number_same : (front tail rest : List ℕ) → (number (front ++ tail)).is_whole ≡ true
    → (number (front ++ tail)).size ≡ length front → goes_on rest ≡ false
    → number (front ++ rest) ≡ number (front ++ tail)
number_same front tail rest whole long stops =
    let n : Part = scientific (front ++ tail) in
    let is = unspoilt _ n whole in
    let size : n.size ≡ length front = sym (ap (λ (x : Part). x.size) is) ∙ long in
    let same : scientific (front ++ rest) ≡ n = scientific_local.same front tail rest
    (sym (ap (λ (x : Part). x.is_whole) is) ∙ whole) (omega (arith, size)) stops in
    let end : goes_on (drop n.size (front ++ rest)) ≡ false = ap (λ (k : ℕ). goes_on (drop k (front ++ rest)))
    size ∙ ap goes_on (drop-append_seam front rest) ∙ stops in
    ap (λ (x : Part). cond (goes_on (drop x.size (front ++ rest))) (record x { is_whole = false }) x) same
    ∙ ap (λ (b : Bool). cond b (record n { is_whole = false }) n) end ∙ sym is

-- a whole number has a byte, and lies within its text
number_within : (text : List ℕ) → (number text).is_whole ≡ true
    → (0 < (number text).size) × ((number text).size ≤ length text)
number_within text whole =
    let n : Part = scientific text in
    let is = unspoilt (goes_on (drop n.size text)) n whole in
    let size = ap (λ (x : Part). x.size) is in
    let all : n.is_whole ≡ true = sym (ap (λ (x : Part). x.is_whole) is) ∙ whole in
    let inside = scientific_local.within text all in
    let outer = both_whole (decimal text) (exponent (drop (decimal text).size text)) all in
    let inner = both_whole (integer text) (fraction (drop (integer text).size text)) outer.0 in
    let some = (integer_within (minus text) text inner.0).0 in
    let first = outer.2 in
    let second = inner.2 in
    (omega (arith, size, first, second, some), omega (arith, size, inside))

abbrev is_number : TokenKind → Bool
is_number t.Int = true
is_number t.Float = true
is_number _ = false

abbrev reads_number : Reading → Bool
reads_number (Ok l) = is_number l.kind
reads_number (Err e) = false

abbrev IsOther : Reading → Type 0
IsOther r = reads_number r ≡ false

other_block_string : (text : List ℕ) → IsOther (block_string_token text)
other_block_string text =
    let n : ℕ = block_characters text in
    either IsOther (begins_with_quotes (drop n text)) (token t.BlockString (n + 6))
    (wrong (string_fault (drop n text)) (n + 3)) refl refl

other_string : (text : List ℕ) → IsOther (string_token text)
other_string text =
    let n : ℕ = characters text in
    either IsOther (begins (nat_eq 34) (drop n text)) (token t.String (n + 2))
    (wrong (string_fault (drop n text)) (n + 1)) refl refl

abbrev IsOtherSign : Option TokenKind → Type 0
IsOtherSign found = IsOther (sign_token found)

other_kind : (c : ℕ) → IsOtherSign (sign_kind c)
other_kind c = grind arith

other_sign : (text : List ℕ) → IsOtherSign (first_sign text)
other_sign [] = refl
other_sign (c ∷ cs) = other_kind c

-- what stands there where neither a name nor a number begins
abbrev others : List ℕ → Reading
others text = cond (begins_with_quotes text) (block_string_token (drop 3 text)) (
    cond (begins (nat_eq 34) text) (string_token (drop 1 text)) (
    cond (is_spread text) (token t.Spread 3) (sign_token (first_sign text))))

no_other : (text : List ℕ) → IsOther (others text)
no_other text = either IsOther _ _ _ (other_block_string (drop 3 text))
    (either IsOther (begins (nat_eq 34) text) (string_token (drop 1 text)) _ (other_string (drop 1 text))
    (either IsOther (is_spread text) (token t.Spread 3) (sign_token (first_sign text)) refl
    (other_sign text)))

-- a number of this kind and size begins at the front
record NumberAhead (kind : TokenKind) (size : ℕ) (text : List ℕ) : Type 0 where
  no_name : begins is_name_start text ≡ false
  begun : begins is_number_start text ≡ true
  read : number_token (number text) ≡ token kind size
  whole : (number text).is_whole ≡ true
  size_is : (number text).size ≡ size

-- what is read as a number begins as one
found : (a b : Bool) (n : ℕ) (read other : Reading) (kind : TokenKind) (size : ℕ) → is_number kind ≡ true
    → IsOther other → cond a (token t.Name n) (cond b read other) ≡ token kind size
    → (a ≡ false) × (b ≡ true) × (read ≡ token kind size)
found true b n read other kind size is differs e = let none : false ≡ is_number kind =
    ap reads_number e in absurd cc
found false true n read other kind size is differs e = (refl, refl, e)
found false false n read other kind size is differs e = let none : reads_number other ≡ is_number kind =
    ap reads_number e in absurd cc

whole_number : (n : Part) (kind : TokenKind) (size : ℕ) → number_token n ≡ token kind size
    → (n.is_whole ≡ true) × (n.size ≡ size)
whole_number n kind size = by n.is_whole refl
  where
    size_read : Reading → ℕ
    size_read (Ok l) = l.size
    size_read (Err e) = 0

    by : (w : Bool) → n.is_whole ≡ w
        → cond w (token (cond n.is_float t.Float t.Int) n.size) (wrong e.InvalidNumber n.size)
        ≡ token kind size → (n.is_whole ≡ true) × (n.size ≡ size)
    by true is read = (is, ap size_read read)
    by false is read = absurd cc

read_number : (text : List ℕ) (kind : TokenKind) (size : ℕ) → is_number kind ≡ true
    → lexeme text ≡ token kind size → NumberAhead kind size text
read_number text kind size is read =
    let there = found _ _ _ (number_token (number text)) (others text) kind size is (no_other text) read in
    let whole = whole_number (number text) kind size there.2 in
    record { no_name = there.0; begun = there.1; read = there.2; whole = whole.0; size_is = whole.1 }

number_solid : (c : ℕ) → is_number_start c ≡ true → is_solid c ≡ true
number_solid c start = grind (arith, start)

-- what is read where a number begins
number_first : (kind : TokenKind) (size : ℕ) (front tail rest : List ℕ)
    → begins is_name_start (front ++ tail) ≡ false → begins is_number_start (front ++ tail) ≡ true
    → 0 < length front → number_token (number (front ++ rest)) ≡ token kind size
    → (begins is_solid front ≡ true) × (lexeme (front ++ rest) ≡ token kind size)
number_first kind size [] tail rest name begun some read = absurd (omega (arith, some))
number_first kind size (c ∷ cs) tail rest name begun some read =
    (number_solid c begun, rw name (rw begun read))

-- so what was cut off is read again
cut_reads : (kind : TokenKind) (size : ℕ) → is_number kind ≡ true → (front tail rest : List ℕ)
    → lexeme (front ++ tail) ≡ token kind size → length front ≡ size → goes_on rest ≡ false
    → (begins is_solid front ≡ true) × (lexeme (front ++ rest) ≡ token kind size)
cut_reads kind size is front tail rest read long stops =
    let there = read_number (front ++ tail) kind size is read in
    let some = (number_within (front ++ tail) there.whole).0 in
    let size_is = there.size_is in
    let same = number_same front tail rest there.whole (there.size_is ∙ sym long) stops in
    number_first kind size front tail rest there.no_name there.begun (omega (arith, some, size_is, long))
    (ap number_token same ∙ there.read)

number_reads : (kind : TokenKind) → is_number kind ≡ true → (text : List ℕ) → IsTextOf kind text
    → (rest : List ℕ) → goes_on rest ≡ false
    → (begins is_solid text ≡ true) × (lexeme (text ++ rest) ≡ token kind (length text))
number_reads kind number text is rest stops =
    let there = read_number is.bytes kind is.size number is.token in
    let inside = (number_within is.bytes there.whole).1 in
    let size_is = there.size_is in
    let long : length text ≡ is.size = ap length is.taken ∙ length-take-le is.size is.bytes
    (omega (arith, inside, size_is)) in
    let whole : is.bytes ≡ text ++ drop is.size is.bytes = sym (take-append-drop is.size is.bytes)
    ∙ ap (λ (front : List ℕ). front ++ drop is.size is.bytes) (sym is.taken) in
    let cut = cut_reads kind is.size number text (drop is.size is.bytes) rest (ap lexeme (sym whole)
    ∙ is.token) long stops in
    (cut.0, cut.1 ∙ ap (token kind) (sym long))

number_is_token : (kind : TokenKind) → is_number kind ≡ true → (text : List ℕ) → IsTextOf kind text
    → IsToken kind text ends_token
number_is_token kind number text is = λ rest end. let read =
    number_reads kind number text is rest (ended rest end) in token_first kind text rest read.0 read.1

-- the bytes of an integer are an integer, before what ends it
pub int_is_token : (text : List ℕ) → IsTextOf t.Int text → IsToken t.Int text ends_token
int_is_token = number_is_token t.Int refl

-- the bytes of a number with a fraction or an exponent are one too
pub float_is_token : (text : List ℕ) → IsTextOf t.Float text → IsToken t.Float text ends_token
float_is_token = number_is_token t.Float refl

unblank : (text : List ℕ) → begins is_solid text ≡ true → begins (λ c. not (is_blank c)) text ≡ true
unblank [] solid = absurd cc
unblank (c ∷ cs) solid = by (is_blank c) (nat_eq c 35 || nat_eq c 239) solid
  where
    by : (a b : Bool) → not (a || b) ≡ true → not a ≡ true
    by true b e = absurd cc
    by false b e = refl

-- they begin with no blank
pub int_unblank : (text : List ℕ) → IsTextOf t.Int text → begins (λ c. not (is_blank c)) text ≡ true
int_unblank text is = unblank text (number_reads t.Int refl text is [] refl).0

pub float_unblank : (text : List ℕ) → IsTextOf t.Float text → begins (λ c. not (is_blank c)) text ≡ true
float_unblank text is = unblank text (number_reads t.Float refl text is [] refl).0
