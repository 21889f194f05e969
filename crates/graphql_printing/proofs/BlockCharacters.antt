-- What the characters of a block string say: the text that was written with `\` before each `"""`.
use Rattle.std.proofs.Common.{◌≡◌, ◌+◌, ◌&&◌, ℕ, Bool, true, false, List, [], ◌∷◌, ◌++◌, length, take, cond}
use Rattle.std.proofs.Common.{nat_eq, refl, sym, ap, subst, ◌∙◌, arith}
use Rattle.std.specs.List.{AllByRecursion}
use Rattle.std.proofs.lemmas.Bool.{and_left, and_parts, and_right, eqb-true, or_parts}
use Rattle.graphql_tokens.specs.Bytes.{begins, is_control}
use Rattle.graphql_tokens.specs.BlockStringValues.{block_character_says, block_characters_say, block_says}
use Rattle.graphql_tokens.specs.Pieces.{pieces}
use Rattle.graphql_tokens.specs.StringValues.{said}
use Rattle.graphql_tokens.specs.Strings.{begins_with_quotes, block_character_size, block_characters}
use Rattle.graphql_printing.specs.Descriptions.{ends, is_mark, with_marks}

-- no byte of a text is a control character that stands nowhere
abbrev pub IsAllowed : List ℕ → Type 0
IsAllowed text = AllByRecursion (λ c. is_control c ≡ false) text

-- ---- three quotes, byte by byte

abbrev pub begins_quote : List ℕ → Bool
begins_quote text = begins (λ c. nat_eq c 34) text

pub other_first : (xs : List ℕ) → begins_quote xs ≡ false → begins_with_quotes xs ≡ false
other_first [] h = refl
other_first (a ∷ []) h = refl
other_first (a ∷ b ∷ []) h = refl
other_first (a ∷ b ∷ c ∷ rest) h = ap (λ (t : Bool). t && (nat_eq b 34 && nat_eq c 34)) h

pub other_second : (xs : List ℕ) → begins_quote xs ≡ false → begins_with_quotes (34 ∷ xs) ≡ false
other_second [] h = refl
other_second (a ∷ []) h = refl
other_second (a ∷ b ∷ rest) h = ap (λ (t : Bool). t && nat_eq b 34) h

pub other_third : (xs : List ℕ) → begins_quote xs ≡ false → begins_with_quotes (34 ∷ 34 ∷ xs) ≡ false
other_third [] h = refl
other_third (a ∷ rest) h = h

-- ---- the text between the quotes

ends_behind : (p : ℕ → Bool) (c : ℕ) (cs : List ℕ) → ends p (c ∷ cs) ≡ false → ends p cs ≡ false
ends_behind p c [] h = refl
ends_behind p c (d ∷ ds) h = h

-- a byte that is no quote stays first, or `\` does
marked_first : (c : ℕ) (cs tail : List ℕ) → nat_eq c 34 ≡ false
    → begins_quote (with_marks 0 (c ∷ cs) ++ tail) ≡ false
marked_first c cs tail h = rw (other_first (c ∷ cs) h) h

-- a byte is a quote, or isn't
pub quote_or_other : (P : ℕ → Type 0) (c : ℕ) → P 34 → (nat_eq c 34 ≡ false → P c) → P c
quote_or_other P c yes_quote other = grind arith

-- a text that ends in no mark has no `"""` in front any more
third_ahead : (c : ℕ) (cs tail : List ℕ) → begins_with_quotes (34 ∷ 34 ∷ c ∷ cs) ≡ false
    → begins_with_quotes (34 ∷ 34 ∷ with_marks 0 (c ∷ cs) ++ tail) ≡ false
third_ahead c cs tail h = other_third (with_marks 0 (c ∷ cs) ++ tail) (marked_first c cs tail h)

second_quote : (cs tail : List ℕ) → ends is_mark (34 ∷ cs) ≡ false → begins_with_quotes (34 ∷ 34 ∷ cs) ≡ false
    → begins_with_quotes (34 ∷ with_marks 0 (34 ∷ cs) ++ tail) ≡ false
second_quote [] tail last h = absurd cc
second_quote (d ∷ ds) tail last h = rw (other_second (d ∷ ds) h) (third_ahead d ds tail h)

first_quote : (cs tail : List ℕ) → ends is_mark (34 ∷ cs) ≡ false → begins_with_quotes (34 ∷ cs) ≡ false
    → begins_with_quotes (with_marks 0 (34 ∷ cs) ++ tail) ≡ false
first_quote [] tail last h = absurd cc
first_quote (d ∷ ds) tail last h =
    rw h (quote_or_other (λ (e : ℕ). ends is_mark (e ∷ ds) ≡ false → begins_with_quotes (34 ∷ e ∷ ds) ≡ false
    → begins_with_quotes (34 ∷ with_marks 0 (e ∷ ds) ++ tail) ≡ false) d (second_quote ds tail)
    (λ other _ _. other_second (with_marks 0 (d ∷ ds) ++ tail) (marked_first d ds tail other)) last h)

no_quotes_ahead : (c : ℕ) (cs tail : List ℕ) → ends is_mark (c ∷ cs) ≡ false
    → begins_with_quotes (c ∷ cs) ≡ false → begins_with_quotes (with_marks 0 (c ∷ cs) ++ tail) ≡ false
no_quotes_ahead c cs tail = quote_or_other (λ (e : ℕ). ends is_mark (e ∷ cs) ≡ false
    → begins_with_quotes (e ∷ cs) ≡ false → begins_with_quotes (with_marks 0 (e ∷ cs) ++ tail) ≡ false) c
    (first_quote cs tail) (λ other _ _. other_first (with_marks 0 (c ∷ cs) ++ tail) (marked_first c cs tail
    other))

-- also where there were such quotes
none_ahead : (c : ℕ) (cs tail : List ℕ) → ends is_mark (c ∷ cs) ≡ false
    → begins_with_quotes (with_marks 0 (c ∷ cs) ++ tail) ≡ false
none_ahead c cs tail last = grind arith

-- `\` before what follows begins no `\"""`
not_escaped : (c : ℕ) (cs tail : List ℕ) → ends is_mark (c ∷ cs) ≡ false
    → (nat_eq c 92 && begins_with_quotes (with_marks 0 cs ++ tail)) ≡ false
not_escaped c [] tail last = and_left _ (begins_with_quotes tail) (or_parts (nat_eq c 34) (nat_eq c 92)
    last).1
not_escaped c (d ∷ ds) tail last =
    and_right (nat_eq c 92) (begins_with_quotes (with_marks 0 (d ∷ ds) ++ tail)) (none_ahead d ds tail last)

-- so the characters of a text with marks say the text, up to what follows, and are as many bytes as there are
pub record Spelled (text tail : List ℕ) : Type 0 where
  pub says : block_characters_say (with_marks 0 text ++ tail) ≡ text ++ block_characters_say tail
  pub counts : block_characters (with_marks 0 text ++ tail) ≡ length (with_marks 0 text)
      + block_characters tail

size_of : (x t u : Bool) → x ≡ false → t ≡ false → u ≡ false
    → ◌≡◌ {A = ℕ} (cond x 0 (cond t 4 (cond u 0 1))) 1
size_of x t u none other plain = rw (none, other, plain) refl

one_byte : (c : ℕ) (cs tail : List ℕ) → is_control c ≡ false → begins_with_quotes (c ∷ cs) ≡ false
    → ends is_mark (c ∷ cs) ≡ false → block_character_size (c ∷ with_marks 0 cs ++ tail) ≡ 1
one_byte c cs tail allowed plain last =
    size_of (is_control c) (nat_eq c 92 && begins_with_quotes (with_marks 0 cs ++ tail)) (begins_with_quotes
    (c ∷ with_marks 0 cs ++ tail)) allowed (not_escaped c cs tail last)
    (rw plain at (none_ahead c cs tail last))

byte_said : (size : List ℕ → ℕ) (says : List ℕ → List ℕ) (c : ℕ) (cs : List ℕ) → size (c ∷ cs) ≡ 1
    → said size says 0 (c ∷ cs) ≡ says (c ∷ cs) ++ said size says 0 cs
byte_said size says c cs one = rw one refl

byte_counted : (size : List ℕ → ℕ) (c : ℕ) (cs : List ℕ) → size (c ∷ cs) ≡ 1
    → pieces size 0 (c ∷ cs) ≡ pieces size 0 cs + 1
byte_counted size c cs one = rw one refl

plain_spelled : (c : ℕ) (cs tail : List ℕ) → is_control c ≡ false → begins_with_quotes (c ∷ cs) ≡ false
    → ends is_mark (c ∷ cs) ≡ false → Spelled cs tail → Spelled (c ∷ cs) tail
plain_spelled c cs tail allowed plain last more =
    let one = one_byte c cs tail allowed plain last in
    let rest = with_marks 0 cs ++ tail in
    let itself : block_character_says (c ∷ rest) ≡ c ∷ [] =
    ap (λ (n : ℕ). block_says (take n (c ∷ rest))) one in
    let marks : with_marks 0 (c ∷ cs) ≡ c ∷ with_marks 0 cs = rw plain refl in
    record {
      says = ap (λ (t : List ℕ). block_characters_say (t ++ tail)) marks
          ∙ byte_said block_character_size block_character_says c rest one
          ∙ ap (λ (t : List ℕ). t ++ block_characters_say rest) itself ∙ ap (λ (t : List ℕ). c ∷ t) more.says;
      counts =
          let here = ap (λ (t : List ℕ). block_characters (t ++ tail)) marks
          ∙ byte_counted block_character_size c rest one in
          let long = ap (λ (t : List ℕ). length t) marks in
          let counted = more.counts in
          omega (arith, here, long, counted);
    }

quotes_spelled : (cs tail : List ℕ) → Spelled cs tail → Spelled (34 ∷ 34 ∷ 34 ∷ cs) tail
quotes_spelled cs tail more = record {
  says = ap (λ (t : List ℕ). 34 ∷ 34 ∷ 34 ∷ t) more.says;
  counts = let counted = more.counts in omega (arith, counted);
}

pub three_quotes : (a b c : ℕ) → begins_with_quotes (a ∷ b ∷ c ∷ []) ≡ true → (P : ℕ → ℕ → ℕ → Type 0)
    → P 34 34 34 → P a b c
three_quotes a b c h P held =
    let first = and_parts _ _ h in
    let others = and_parts _ _ first.1 in
    let at_a : P a 34 34 = subst (λ (x : ℕ). P x 34 34) (sym (eqb-true a 34 first.0)) held in
    let at_b : P a b 34 = subst (λ (x : ℕ). P a x 34) (sym (eqb-true b 34 others.0)) at_a in
    subst (λ (x : ℕ). P a b x) (sym (eqb-true c 34 others.1)) at_b

pub spelled : (text tail : List ℕ) → IsAllowed text → ends is_mark text ≡ false → Spelled text tail
spelled [] tail allowed last = record { says = refl; counts = omega arith }
spelled (a ∷ []) tail allowed last = plain_spelled a [] tail allowed.0 refl last (spelled [] tail tt refl)
spelled (a ∷ b ∷ []) tail allowed last = plain_spelled a (b ∷ []) tail allowed.0 refl last
    (spelled (b ∷ []) tail allowed.1 last)
spelled (a ∷ b ∷ c ∷ rest) tail allowed last = by (begins_with_quotes (a ∷ b ∷ c ∷ [])) refl
    (spelled (b ∷ c ∷ rest) tail allowed.1 last) (spelled rest tail allowed.1.1.1
    (ends_behind is_mark c rest last))
  where
    by : (t : Bool) → begins_with_quotes (a ∷ b ∷ c ∷ []) ≡ t → Spelled (b ∷ c ∷ rest) tail
        → Spelled rest tail → Spelled (a ∷ b ∷ c ∷ rest) tail
    by true is _ behind = three_quotes a b c is (λ x y z. Spelled (x ∷ y ∷ z ∷ rest) tail)
        (quotes_spelled rest tail behind)
    by false is next _ = plain_spelled a (b ∷ c ∷ rest) tail allowed.0 is last next
