-- Characters of strings: which say themselves, and where escapes end.
use Rattle.std.proofs.Common.{◌≡◌, ◌+◌, ◌<◌, ◌≤◌, ◌||◌, ◌&&◌, ℕ, zero, suc, Bool, true, false, List, [], ◌∷◌}
use Rattle.std.proofs.Common.{◌++◌, length, get_or, take, drop, cond, refl, sym, ap, subst, ◌∙◌, append-nil, arith}
use Rattle.std.specs.Prelude.{nat_eq, not, Option, None, Some}
use Rattle.std.specs.List.{prefix_len}
use Rattle.std.specs.Option.{option_map_or}
use Rattle.std.specs.Str.{IsCharBoundary, IsUtf8}
use Rattle.std.proofs.lemmas.Bool.{ne_eqb}
use Rattle.graphql_tokens.specs.Pieces.{pieces}
use Rattle.graphql_tokens.specs.Bytes.{begins, is_control, is_hex, is_line_end}
use Rattle.graphql_tokens.specs.BlockStringValues.{block_character_says, block_characters_say, block_says}
use Rattle.graphql_tokens.specs.BlockStringValues.{is_plain_in_block}
use Rattle.graphql_tokens.specs.StringValues.{bytes_of, character_says, characters_say, escaped, is_plain}
use Rattle.graphql_tokens.specs.Strings.{begins_with_quotes, block_character_size, braced_size}
use Rattle.graphql_tokens.specs.Strings.{character_size, escape_size, hex_number, in_braces, is_escaped}
use Rattle.graphql_tokens.specs.Strings.{is_leading, is_scalar, is_trailing, names_scalar, number_size}
use Rattle.graphql_tokens.specs.Strings.{trailing_size, unit_at, unit_size, with_head}
use Rattle.graphql_tokens.proofs.CutLemmas.{cut_at_run, cut_behind}
use Rattle.graphql_tokens.proofs.EndLemmas.{EndsAt, at_passes, behind, choose, further, is_is_ascii}
use Rattle.graphql_tokens.proofs.EndLemmas.{quote_last}
use Rattle.graphql_tokens.proofs.PieceLemmas.{pieces_alone}
use Rattle.graphql_tokens.proofs.SaidLemmas.{none_first, none_said, one_said, plain_said}

-- a plain byte of a string is a character that says itself
one_of : (q b l x : Bool) (n : ℕ) → not (q || (b || (l || x))) ≡ true
    → cond (q || (l || x)) 0 (cond b n 1) ≡ 1
one_of q b l x n h = grind arith

says_of : (q b l x : Bool) (a e : List ℕ) → not (q || (b || (l || x))) ≡ true → cond b e a ≡ a
says_of q b l x a e h = grind arith

plain_size : (c : ℕ) (cs : List ℕ) → is_plain c ≡ true → character_size (c ∷ cs) ≡ 1
plain_size c cs h = one_of (nat_eq c 34) (nat_eq c 92) (is_line_end c) (is_control c) (escape_size (c ∷ cs)) h

plain_says : (c : ℕ) (cs : List ℕ) → is_plain c ≡ true → character_says (c ∷ cs) ≡ c ∷ []
plain_says c cs h = says_of (nat_eq c 34) (nat_eq c 92) (is_line_end c) (is_control c)
    (c ∷ []) (bytes_of (escaped (c ∷ cs))) h

-- what is not plain is ASCII
not_plain : (c : ℕ) → is_plain c ≡ false → c < 128
not_plain c h = grind arith

-- another character of a string is an escape
backslash_of : (q b l x : Bool) (n : ℕ) → not (q || (b || (l || x))) ≡ false
    → 0 < cond (q || (l || x)) 0 (cond b n 1) → b ≡ true
backslash_of q b l x n h some = grind arith

size_of : (q l x : Bool) (n : ℕ) → 0 < cond (q || (l || x)) 0 n → cond (q || (l || x)) 0 n ≡ n
size_of q l x n some = grind arith

-- the escape of a code unit ends with a digit
last_of : (a b c d e f : Bool) → (a && (b && (c && (d && (e && f))))) ≡ true → f ≡ true
last_of a b c d e f h = grind arith

test_of : (b : Bool) (x n : ℕ) → cond b (Some x) None ≡ Some n → b ≡ true
test_of b x n h = grind arith

hex_is_ascii : (c : ℕ) → is_hex c ≡ true → c < 128
hex_is_ascii c h = grind arith

escaped_is_ascii : (c : ℕ) → is_escaped c ≡ true → c < 128
escaped_is_ascii c h = grind arith

unit_ends : (xs : List ℕ) (n : ℕ) → unit_at xs ≡ Some n → EndsAt xs 6
unit_ends (s ∷ u ∷ a ∷ b ∷ c ∷ d ∷ rest) n h =
    let all = test_of (nat_eq s 92 && (nat_eq u 117 && (is_hex a && (is_hex b && (is_hex c && is_hex d)))))
    (hex_number 0 (a ∷ b ∷ c ∷ d ∷ [])) n h in
    record {
      some = omega arith;
      ascii = hex_is_ascii d (last_of (nat_eq s 92) (nat_eq u 117) (is_hex a)
          (is_hex b) (is_hex c) (is_hex d) all);
    }
unit_ends _ n h = absurd cc

IfSome : List ℕ → ℕ → Type 0
IfSome xs n = 0 < n → EndsAt xs n

trailing_ends : (xs : List ℕ) (u : Option ℕ) → unit_at (drop 6 xs) ≡ u → IfSome xs (trailing_size u)
unfolding IfSome
trailing_ends xs None is = λ some. absurd (omega arith)
trailing_ends xs (Some n) is = choose (IfSome xs) (is_trailing n) 12 0 (λ _. λ some. further 6 xs 6
    (unit_ends (drop 6 xs) n is)) (λ _. λ some. absurd (omega arith))

unit_size_ends : (xs : List ℕ) (n : ℕ) → unit_at xs ≡ Some n → IfSome xs (unit_size n (drop 6 xs))
unfolding IfSome
unit_size_ends xs n is = choose (IfSome xs) (is_scalar n) 6 _ (λ _. λ some. unit_ends xs n is)
    (λ _. choose (IfSome xs) (is_leading n) (trailing_size (unit_at (drop 6 xs))) 0
    (λ _. trailing_ends xs (unit_at (drop 6 xs)) refl) (λ _. λ some. absurd (omega arith)))

in_braces_ends : (xs : List ℕ) → IfSome xs (in_braces xs)
unfolding IfSome
in_braces_ends xs =
    let n = prefix_len is_hex xs in
    choose (IfSome xs) (nat_eq n 0 || not (begins (nat_eq 125) (drop n xs))) 0
    (cond (names_scalar (take n xs)) (n + 1) 0) (λ _. λ some. absurd (omega arith))
    (λ no. choose (IfSome xs) (names_scalar (take n xs)) (n + 1) 0
    (λ _. λ some. behind xs n (n + 1) (is_is_ascii 125 (get_or xs n 255) (omega arith)
    (at_passes (nat_eq 125) n xs (closed (nat_eq n 0) (begins (nat_eq 125) (drop n xs)) no))) refl)
    (λ _. λ some. absurd (omega arith)))
  where
    closed : (a b : Bool) → (a || not b) ≡ false → b ≡ true
    closed true b h = absurd cc
    closed false true h = refl
    closed false false h = absurd cc

head_ends : (s u l : ℕ) (rest : List ℕ) (n : ℕ) → IfSome rest n → IfSome (s ∷ u ∷ l ∷ rest) (with_head 3 n)
unfolding IfSome
head_ends s u l rest zero ends some = absurd (omega arith)
head_ends s u l rest (suc n) ends some =
    let place : 3 + suc n ≡ suc n + 3 = omega arith in
    let is : with_head 3 (suc n) ≡ suc n + 3 = rw (ne_eqb (suc n) 0 (λ e. omega arith)) refl in
    subst (EndsAt (s ∷ u ∷ l ∷ rest)) (place ∙ sym is) (further 3 (s ∷ u ∷ l ∷ rest) (suc n)
    (ends (omega arith)))

braced_ends : (xs : List ℕ) → IfSome xs (braced_size xs)
unfolding IfSome
braced_ends (s ∷ u ∷ l ∷ rest) =
    choose (IfSome (s ∷ u ∷ l ∷ rest)) (nat_eq s 92 && (nat_eq u 117 && nat_eq l 123))
    (with_head 3 (in_braces rest)) 0 (λ _. head_ends s u l rest (in_braces rest) (in_braces_ends rest))
    (λ _. λ some. absurd (omega arith))
braced_ends _ = λ some. absurd (omega arith)

number_ends : (xs : List ℕ) (u : Option ℕ) → unit_at xs ≡ u
    → IfSome xs (option_map_or (λ n. unit_size n (drop 6 xs)) u (braced_size xs))
number_ends xs None is = braced_ends xs
number_ends xs (Some n) is = unit_size_ends xs n is

escape_ends : (xs : List ℕ) → IfSome xs (escape_size xs)
unfolding IfSome
escape_ends xs = choose (IfSome xs) (begins is_escaped (drop 1 xs)) 2 (number_size xs)
    (λ h. λ some. behind xs 1 2 (escaped_is_ascii (get_or xs 1 255) (at_passes is_escaped 1 xs h)) refl)
    (λ _. number_ends xs (unit_at xs) refl)

-- an escape, where no plain byte and some character stands
record Escape (xs : List ℕ) : Type 0 where
  says : character_says xs ≡ bytes_of (escaped xs)
  ends : EndsAt xs (character_size xs)

is_escape : (xs : List ℕ) → prefix_len is_plain xs ≡ 0 → 0 < character_size xs → Escape xs
unfolding IfSome
is_escape [] none some = absurd (omega arith)
is_escape (c ∷ cs) none some =
    let other = none_first is_plain c cs none in
    let backslash = backslash_of (nat_eq c 34) (nat_eq c 92) (is_line_end c) (is_control c)
    (escape_size (c ∷ cs)) other some in
    let size : character_size (c ∷ cs) ≡ escape_size (c ∷ cs) =
    size_of (nat_eq c 34) (is_line_end c) (is_control c) (cond (nat_eq c 92) (escape_size (c ∷ cs)) 1) some
    ∙ ap (λ (b : Bool). cond b (escape_size (c ∷ cs)) 1) backslash in
    record {
      says = ap (λ (b : Bool). cond b (bytes_of (escaped (c ∷ cs))) (c ∷ [])) backslash;
      ends = subst (EndsAt (c ∷ cs)) (sym size) (escape_ends (c ∷ cs) (rw (← size) some));
    }

-- a plain byte of a block string is a character that says itself
no_quotes : (c : ℕ) (cs : List ℕ) → nat_eq c 34 ≡ false → begins_with_quotes (c ∷ cs) ≡ false
no_quotes c (d ∷ e ∷ rest) h = ap (λ (b : Bool). b && (nat_eq d 34 && nat_eq e 34)) h
no_quotes c _ h = refl

one_of_block : (q b x t u : Bool) → not (q || (b || x)) ≡ true → (q ≡ false → u ≡ false)
    → ◌≡◌ {A = ℕ} (cond x 0 (cond (b && t) 4 (cond u 0 1))) 1
one_of_block q b x t u h quotes = grind arith

block_plain_size : (c : ℕ) (cs : List ℕ) → is_plain_in_block c ≡ true → block_character_size (c ∷ cs) ≡ 1
block_plain_size c cs h = one_of_block (nat_eq c 34) (nat_eq c 92) (is_control c) (begins_with_quotes cs)
    (begins_with_quotes (c ∷ cs)) h (no_quotes c cs)

block_plain_says : (c : ℕ) (cs : List ℕ) → is_plain_in_block c ≡ true → block_character_says (c ∷ cs) ≡ c ∷ []
block_plain_says c cs h = ap (λ (n : ℕ). block_says (take n (c ∷ cs))) (block_plain_size c cs h)

-- what is not plain is ASCII
not_plain_in_block : (c : ℕ) → is_plain_in_block c ≡ false → c < 128
not_plain_in_block c h = grind arith

right_of : (a b : Bool) → (a && b) ≡ true → b ≡ true
right_of true b h = h
right_of false b h = absurd cc

-- another character of a block string ends behind an ASCII byte
block_ends : (xs : List ℕ) → prefix_len is_plain_in_block xs ≡ 0 → 0 < block_character_size xs
    → EndsAt xs (block_character_size xs)
unfolding IfSome
block_ends [] none = λ some. absurd (omega arith)
block_ends (c ∷ cs) none = choose (IfSome (c ∷ cs)) (is_control c) 0 _ (λ _. λ some. absurd (omega arith))
    (λ _. choose (IfSome (c ∷ cs)) (nat_eq c 92 && begins_with_quotes cs) 4 _
    (λ h. λ some. further 1 (c ∷ cs) 3 (quote_last cs (right_of (nat_eq c 92) (begins_with_quotes cs) h)))
    (λ _. choose (IfSome (c ∷ cs)) (begins_with_quotes (c ∷ cs)) 0 1 (λ _. λ some. absurd (omega arith))
    (λ _. λ some. behind (c ∷ cs) 0 1 (not_plain_in_block c (none_first is_plain_in_block c cs none)) refl)))

-- what plain bytes say, and then the rest
pub plain_run : (text : List ℕ)
    → characters_say text ≡ take (prefix_len is_plain text) text
    ++ characters_say (drop (prefix_len is_plain text) text)
plain_run text = plain_said character_size character_says is_plain plain_size plain_says text

pub plain_block_run : (text : List ℕ)
    → block_characters_say text ≡ take (prefix_len is_plain_in_block text) text
    ++ block_characters_say (drop (prefix_len is_plain_in_block text) text)
plain_block_run text = plain_said block_character_size block_character_says is_plain_in_block block_plain_size
    block_plain_says text

-- where nothing else stands behind these, they say all
pub plain_block_whole : (text : List ℕ) (n : ℕ) → n ≡ prefix_len is_plain_in_block text
    → block_character_size (drop n text) ≡ 0 → take n text ≡ block_characters_say text
plain_block_whole text n is none =
    let ends = none_said block_character_size block_character_says (drop n text) none in
    sym (plain_block_run text ∙ ap (λ (k : ℕ). take k text ++ block_characters_say (drop k text)) (sym is)
    ∙ ap (λ (r : List ℕ). take n text ++ r) ends ∙ append-nil (take n text))

-- plain bytes are a character each
pub plain_alone : (text : List ℕ) (n : ℕ) → n ≡ prefix_len is_plain text
    → pieces character_size 0 text ≡ n + pieces character_size 0 (drop n text)
plain_alone text n is = rw is (pieces_alone character_size is_plain plain_size text)

pub plain_block_alone : (text : List ℕ) (n : ℕ) → n ≡ prefix_len is_plain_in_block text
    → pieces block_character_size 0 text ≡ n + pieces block_character_size 0 (drop n text)
plain_block_alone text n is =
    rw is (pieces_alone block_character_size is_plain_in_block block_plain_size text)

-- what an escape says, and then the rest
pub escape_said : (text rest : List ℕ) (size : ℕ) → prefix_len is_plain text ≡ 0 → size ≡ character_size text
    → 0 < size → size ≤ length text → rest ≡ drop size text
    → characters_say text ≡ bytes_of (escaped text) ++ characters_say rest
escape_said text rest size none is some within behind =
    let there : 0 < character_size text = omega arith in
    let whole : size ≤ length text → character_size text ≤ length text = λ _. omega arith in
    let said = one_said character_size character_says text there (whole within) in
    cc (said, (is_escape text none there).says)

-- what a character of a block string says, and then the rest
pub block_character_said : (text character rest : List ℕ) (size : ℕ) → size ≡ block_character_size text
    → 0 < size → size ≤ length text → character ≡ take size text → rest ≡ drop size text
    → block_characters_say text ≡ block_says character ++ block_characters_say rest
block_character_said text character rest size is some within here behind =
    let said = one_said block_character_size block_character_says text (omega arith) (omega arith) in
    cc said

-- a text may be cut behind these
pub escape_cut : (text : List ℕ) (size : ℕ) → IsUtf8 text → prefix_len is_plain text ≡ 0
    → size ≡ character_size text → 0 < size → IsCharBoundary text size
escape_cut text size utf8 none is some =
    rw is (cut_behind text _ utf8 (is_escape text none (omega arith)).ends)

pub block_character_cut : (text : List ℕ) (size : ℕ) → IsUtf8 text → prefix_len is_plain_in_block text ≡ 0
    → size ≡ block_character_size text → 0 < size → IsCharBoundary text size
block_character_cut text size utf8 none is some =
    rw is (cut_behind text _ utf8 (block_ends text none (omega arith)))

-- and behind plain bytes
pub plain_cut : (text : List ℕ) (n : ℕ) → n ≡ prefix_len is_plain text → IsCharBoundary text n
plain_cut text n is = rw is (cut_at_run is_plain not_plain text)

pub plain_block_cut : (text : List ℕ) (n : ℕ) → n ≡ prefix_len is_plain_in_block text → IsCharBoundary text n
plain_block_cut text n is = rw is (cut_at_run is_plain_in_block not_plain_in_block text)
