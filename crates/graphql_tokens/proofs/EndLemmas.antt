-- A token begins with an ASCII byte and ends behind one.
use Rattle.std.proofs.Common.{◌≡◌, ◌+◌, ◌-◌, ◌<◌, ◌≤◌, ◌||◌, ℕ, Bool, true, false, List, [], ◌∷◌, length}
use Rattle.std.proofs.Common.{get_or, drop, cond, refl, ap, subst, ◌∙◌, arith, Ok}
use Rattle.std.specs.Prelude.{nat_eq, nat_lt, Option, None, Some}
use Rattle.std.specs.Char.{is_ascii_digit}
use Rattle.std.specs.List.{prefix_len}
use Rattle.std.proofs.lemmas.List.{get_or-drop}
use Rattle.std.proofs.lemmas.List.Sums.{prefix_len_passes}
use Rattle.std.proofs.Math.ListN.{get_or-eq_default}
use Rattle.graphql_tokens.specs.Bytes.{begins, is_name_byte, is_name_start}
use Rattle.graphql_tokens.specs.Lexemes.{Reading, block_string_token, first_sign, is_number_start, is_spread}
use Rattle.graphql_tokens.specs.Lexemes.{lexeme, number_token, sign_kind, sign_token, string_fault}
use Rattle.graphql_tokens.specs.Lexemes.{string_token, token, wrong}
use Rattle.graphql_tokens.specs.Numbers.{decimal, exponent, fraction, goes_on, integer, minus, no_part}
use Rattle.graphql_tokens.specs.Numbers.{number, scientific, sign, then_part, with_digits}
use Rattle.graphql_tokens.specs.Strings.{begins_with_quotes, block_characters, characters}
use Rattle.graphql_tokens.specs.declared.numbers.Part.{Part}
use Rattle.graphql_tokens.specs.declared.lexemes.Lexeme.{Lexeme}
use Rattle.graphql_tokens.specs.declared.token.TokenKind.{TokenKind}
use Rattle.graphql_tokens.specs.declared.token.TokenKind.TheVariants as k
use Rattle.graphql_tokens.specs.declared.token.TokenErrorKind.TheVariants as e

-- a byte stands before this place, and it is ASCII; beyond the end there is none
pub record EndsAt (xs : List ℕ) (n : ℕ) : Type 0 where
  pub some : 0 < n
  pub ascii : get_or xs (n - 1) 255 < 128

-- what holds either way
pub choose : {A : Type 0} (P : A → Type 0) (b : Bool) (x y : A) → (b ≡ true → P x) → (b ≡ false → P y)
    → P (cond b x y)
choose P true x y holds fails = holds refl
choose P false x y holds fails = fails refl

pub behind : (xs : List ℕ) (n m : ℕ) → get_or xs n 255 < 128 → m ≡ n + 1 → EndsAt xs m
behind xs n m ascii is =
    let same : m - 1 ≡ n = omega arith in record { some = omega arith; ascii = rw same ascii }

-- the same, in a text of which this is the rest
pub further : (n : ℕ) (xs : List ℕ) (k : ℕ) → EndsAt (drop n xs) k → EndsAt xs (n + k)
further n xs k ends =
    let same : n + k - 1 ≡ n + (k - 1) = omega (arith, ends.some) in
    record { some = omega (arith, ends.some); ascii = rw (same, ← get_or-drop n xs (k - 1) 255) ends.ascii }

pub first_passes : (p : ℕ → Bool) (xs : List ℕ) → begins p xs ≡ true → p (get_or xs 0 255) ≡ true
first_passes p [] h = absurd cc
first_passes p (c ∷ cs) h = h

pub at_passes : (p : ℕ → Bool) (n : ℕ) (xs : List ℕ) → begins p (drop n xs) ≡ true
    → p (get_or xs n 255) ≡ true
at_passes p n xs h =
    let place : n + 0 ≡ n = omega arith in
    rw (← get_or-drop n xs 0 255 ∙ ap (λ (i : ℕ). get_or xs i 255) place) (first_passes p (drop n xs) h)

-- bytes of one sort, where all of this sort are ASCII
ends_run : (p : ℕ → Bool) → ((c : ℕ) → p c ≡ true → c < 128) → (xs : List ℕ) → 0 < prefix_len p xs
    → EndsAt xs (prefix_len p xs)
ends_run p small xs some =
    let last : prefix_len p xs - 1 < prefix_len p xs = omega (arith, some) in
    record {
      some = some;
      ascii = small (get_or xs (prefix_len p xs - 1) 255)
          (prefix_len_passes p xs (prefix_len p xs - 1) 255 last);
    }

digit_is_ascii : (c : ℕ) → is_ascii_digit c ≡ true → c < 128
digit_is_ascii c h = grind arith

name_is_ascii : (c : ℕ) → is_name_byte c ≡ true → c < 128
name_is_ascii c h = grind arith

start_is_ascii : (c : ℕ) → is_name_start c ≡ true → c < 128
start_is_ascii c h = grind arith

start_is_byte : (c : ℕ) → is_name_start c ≡ true → is_name_byte c ≡ true
start_is_byte c h = grind arith

number_start_is_ascii : (c : ℕ) → is_number_start c ≡ true → c < 128
number_start_is_ascii c h = grind arith

pub is_is_ascii : (n c : ℕ) → n < 128 → nat_eq n c ≡ true → c < 128
is_is_ascii n c small h = grind arith

-- where such bytes begin, there is one
run_begins : (p : ℕ → Bool) (xs : List ℕ) → begins p xs ≡ true → 0 < prefix_len p xs
run_begins p [] h = absurd cc
run_begins p (c ∷ cs) h = rw h (omega arith)

-- whether there is one
some_or_none : (n : ℕ) → (b : Bool) → nat_lt 0 n ≡ b → cond b (0 < n) (n ≡ 0)
some_or_none n true is = grind arith
some_or_none n false is = grind arith

ends_digits : (n : ℕ) (xs : List ℕ) → (with_digits n xs).is_whole ≡ true → EndsAt xs (with_digits n xs).size
ends_digits n xs whole = further n xs (prefix_len is_ascii_digit (drop n xs)) (ends_run is_ascii_digit
    digit_is_ascii (drop n xs) (some_or_none (prefix_len is_ascii_digit (drop n xs)) true whole))

ends_integer : (xs : List ℕ) → (integer xs).is_whole ≡ true → EndsAt xs (integer xs).size
ends_integer xs = choose (λ (n : Part). n.is_whole ≡ true → EndsAt xs n.size)
    (begins (nat_eq 48) (drop (minus xs) xs))
    (record { size = minus xs + 1; is_whole = true; is_float = false }) (with_digits (minus xs) xs)
    (λ zero_there. λ _. behind xs (minus xs) (minus xs + 1) (is_is_ascii 48 (get_or xs (minus xs) 255)
    (omega arith) (at_passes (nat_eq 48) (minus xs) xs zero_there)) refl) (λ _. ends_digits (minus xs) xs)

-- no part ends nowhere
ends_digits_if : (p : Bool) (n : ℕ) (xs : List ℕ) → (cond p (with_digits n xs) no_part).is_whole ≡ true
    → 0 < (cond p (with_digits n xs) no_part).size → EndsAt xs (cond p (with_digits n xs) no_part).size
ends_digits_if true n xs whole some = ends_digits n xs whole
ends_digits_if false n xs whole some = absurd (omega (arith, some))

ends_then : (xs : List ℕ) (a b : Part) → (a.is_whole ≡ true → EndsAt xs a.size)
    → (b.is_whole ≡ true → 0 < b.size → EndsAt (drop a.size xs) b.size) → (then_part a b).is_whole ≡ true
    → EndsAt xs (then_part a b).size
ends_then xs a b front next = choose (λ (n : Part). n.is_whole ≡ true → EndsAt xs n.size) a.is_whole
    (record { size = a.size + b.size; is_whole = b.is_whole; is_float = a.is_float || nat_lt 0 b.size }) a
    (λ first. λ second. by (nat_lt 0 b.size) refl (front first) (next second)) (λ _. front)
  where
    by : (t : Bool) → nat_lt 0 b.size ≡ t → EndsAt xs a.size → (0 < b.size → EndsAt (drop a.size xs) b.size)
        → EndsAt xs (a.size + b.size)
    by true some ends more = further a.size xs b.size (more (some_or_none b.size true some))
    by false none ends more =
        let is : b.size ≡ 0 = some_or_none b.size false none in
        let same : a.size ≡ a.size + b.size = omega arith in
        subst (EndsAt xs) same ends

ends_decimal : (xs : List ℕ) → (decimal xs).is_whole ≡ true → EndsAt xs (decimal xs).size
ends_decimal xs =
    let rest = drop (integer xs).size xs in
    ends_then xs (integer xs) (fraction rest) (ends_integer xs) (ends_digits_if (begins (nat_eq 46) rest) 1
    rest)

ends_scientific : (xs : List ℕ) → (scientific xs).is_whole ≡ true → EndsAt xs (scientific xs).size
ends_scientific xs =
    let rest = drop (decimal xs).size xs in
    ends_then xs (decimal xs) (exponent rest) (ends_decimal xs)
    (ends_digits_if (begins (nat_eq 101) rest || begins (nat_eq 69) rest) (1 + sign (drop 1 rest)) rest)

ends_number : (xs : List ℕ) → (number xs).is_whole ≡ true → EndsAt xs (number xs).size
ends_number xs = choose (λ (n : Part). n.is_whole ≡ true → EndsAt xs n.size)
    (goes_on (drop (scientific xs).size xs)) (record (scientific xs) { is_whole = false }) (scientific xs)
    (λ _. λ whole. absurd cc) (λ _. ends_scientific xs)

-- a token of these bytes begins with an ASCII byte and ends behind one
pub record Ascii (xs : List ℕ) (l : Lexeme) : Type 0 where
  pub first : get_or xs 0 255 < 128
  pub last : EndsAt xs l.size

abbrev pub IfToken : List ℕ → Reading → Type 0
IfToken xs r = (l : Lexeme) → r ≡ Ok l → Ascii xs l

of_token : (xs : List ℕ) (kind : TokenKind) (size : ℕ) → get_or xs 0 255 < 128 → EndsAt xs size
    → IfToken xs (token kind size)
of_token xs kind size first last l is =
    let made : Lexeme = record { kind = kind; size = size } in
    let same : made ≡ l = cc is in
    record { first = first; last = rw (← same) last }

number_ascii : (xs : List ℕ) → begins is_number_start xs ≡ true → IfToken xs (number_token (number xs))
number_ascii xs h = choose (IfToken xs) (number xs).is_whole (token (cond (number xs).is_float k.Float k.Int)
    (number xs).size) (wrong e.InvalidNumber (number xs).size)
    (λ whole. of_token xs (cond (number xs).is_float k.Float k.Int) (number xs).size
    (number_start_is_ascii (get_or xs 0 255) (first_passes is_number_start xs h)) (ends_number xs whole))
    (λ _. λ l. λ is. absurd cc)

name_ascii : (xs : List ℕ) → begins is_name_start xs ≡ true
    → IfToken xs (token k.Name (prefix_len is_name_byte xs))
name_ascii xs h =
    let passes = first_passes is_name_start xs h in
    of_token xs k.Name (prefix_len is_name_byte xs) (start_is_ascii (get_or xs 0 255) passes)
    (ends_run is_name_byte name_is_ascii xs (run_begins is_name_byte xs (also_byte xs h)))
  where
    also_byte : (xs : List ℕ) → begins is_name_start xs ≡ true → begins is_name_byte xs ≡ true
    also_byte [] h = absurd cc
    also_byte (c ∷ cs) h = start_is_byte c h

quote_first : (xs : List ℕ) → begins_with_quotes xs ≡ true → get_or xs 0 255 < 128
quote_first (a ∷ b ∷ c ∷ rest) h = grind arith
quote_first _ h = absurd cc

pub quote_last : (xs : List ℕ) → begins_with_quotes xs ≡ true → EndsAt xs 3
quote_last (a ∷ b ∷ c ∷ rest) h = record { some = omega arith; ascii = grind arith }
quote_last _ h = absurd cc

dots_last : (xs : List ℕ) → is_spread xs ≡ true → EndsAt xs 3
dots_last (a ∷ b ∷ c ∷ rest) h = record { some = omega arith; ascii = grind arith }
dots_last _ h = absurd cc

dots_first : (xs : List ℕ) → is_spread xs ≡ true → get_or xs 0 255 < 128
dots_first (a ∷ b ∷ c ∷ rest) h = grind arith
dots_first _ h = absurd cc

string_ascii : (xs : List ℕ) → begins (nat_eq 34) xs ≡ true → IfToken xs (string_token (drop 1 xs))
string_ascii xs h =
    let text = drop 1 xs in
    let n = characters text in
    choose (IfToken xs) (begins (nat_eq 34) (drop n text)) (token k.String (n + 2))
    (wrong (string_fault (drop n text)) (n + 1)) (λ closed.
    let last : get_or text n 255 < 128 = is_is_ascii 34 (get_or text n 255) (omega arith)
    (at_passes (nat_eq 34) n text closed) in
    let ends : EndsAt xs (1 + (n + 1)) = further 1 xs (n + 1) (behind text n (n + 1) last refl) in
    let same : 1 + (n + 1) ≡ n + 2 = omega arith in
    of_token xs k.String (n + 2) (is_is_ascii 34 (get_or xs 0 255) (omega arith) (first_passes (nat_eq 34) xs
    h)) (subst (EndsAt xs) same ends)) (λ _. λ l. λ is. absurd cc)

block_string_ascii : (xs : List ℕ) → begins_with_quotes xs ≡ true
    → IfToken xs (block_string_token (drop 3 xs))
block_string_ascii xs h =
    let text = drop 3 xs in
    let n = block_characters text in
    choose (IfToken xs) (begins_with_quotes (drop n text)) (token k.BlockString (n + 6))
    (wrong (string_fault (drop n text)) (n + 3)) (λ closed.
    let ends : EndsAt xs (3 + (n + 3)) =
    further 3 xs (n + 3) (further n text 3 (quote_last (drop n text) closed)) in
    let same : 3 + (n + 3) ≡ n + 6 = omega arith in
    of_token xs k.BlockString (n + 6) (quote_first xs h) (subst (EndsAt xs) same ends))
    (λ _. λ l. λ is. absurd cc)

sign_is_ascii : (c : ℕ) (kind : TokenKind) → sign_kind c ≡ Some kind → c < 128
sign_is_ascii c kind h = grind arith

sign_ascii : (xs : List ℕ) → IfToken xs (sign_token (first_sign xs))
sign_ascii [] = λ l. λ is. absurd cc
sign_ascii (c ∷ cs) = by (sign_kind c) refl
  where
    by : (found : Option TokenKind) → sign_kind c ≡ found → IfToken (c ∷ cs) (sign_token found)
    by None is = λ l. λ read. absurd cc
    by (Some kind) is =
        let small = sign_is_ascii c kind is in
        of_token (c ∷ cs) kind 1 small (record { some = omega arith; ascii = small })

-- a token begins with an ASCII byte and ends behind one
pub lexeme_ascii : (xs : List ℕ) → IfToken xs (lexeme xs)
lexeme_ascii xs = choose (IfToken xs) (begins is_name_start xs) _ _ (name_ascii xs)
    (λ _. choose (IfToken xs) (begins is_number_start xs) _ _ (number_ascii xs)
    (λ _. choose (IfToken xs) (begins_with_quotes xs) _ _ (block_string_ascii xs)
    (λ _. choose (IfToken xs) (begins (nat_eq 34) xs) _ _ (string_ascii xs)
    (λ _. choose (IfToken xs) (is_spread xs) (token k.Spread 3) (sign_token (first_sign xs))
    (λ h. of_token xs k.Spread 3 (dots_first xs h) (dots_last xs h)) (λ _. sign_ascii xs)))))

-- what is ASCII is a byte of the text
pub inside : (xs : List ℕ) (i : ℕ) → get_or xs i 255 < 128 → i < length xs
inside xs i ascii = grind (arith, λ (over : length xs ≤ i). get_or-eq_default xs 255 over)

-- so a token lies within the text
pub ends_within : (xs : List ℕ) (n : ℕ) → EndsAt xs n → n ≤ length xs
ends_within xs n ends = omega (arith, inside xs (n - 1) ends.ascii, ends.some)
