-- Where a text may be cut.
use Rattle.std.proofs.Common.{◌≡◌, ◌+◌, ◌-◌, ◌<◌, ◌≤◌, ℕ, zero, suc, Bool, true, false, List, length, get_or}
use Rattle.std.proofs.Common.{refl, subst, arith}
use Rattle.std.specs.Prelude.{nat_eq, nat_lt}
use Rattle.std.specs.List.{prefix_len}
use Rattle.std.specs.Str.{IsCharBoundary, IsUtf8}
use Rattle.std.proofs.lemmas.List.{get_or_default}
use Rattle.std.proofs.lemmas.List.Sums.{prefix_len-le-length, prefix_len_passes, prefix_len_stops}
use Rattle.std.proofs.lemmas.Str.{IsCharBoundary-after_ascii, IsCharBoundary-before_ascii, IsCharBoundary-end}
use Rattle.std.proofs.lemmas.Str.{IsCharBoundary-start}
use Rattle.graphql_tokens.specs.Bytes.{begins}
use Rattle.graphql_tokens.specs.Strings.{begins_with_quotes}
use Rattle.graphql_tokens.proofs.EndLemmas.{EndsAt, behind, first_passes, inside, is_is_ascii, quote_last}

-- behind an ASCII byte
pub cut_behind : (text : List ℕ) (n : ℕ) → IsUtf8 text → EndsAt text n → IsCharBoundary text n
cut_behind text n utf8 ends =
    let there = inside text (n - 1) ends.ascii in
    let place : n - 1 + 1 ≡ n = omega arith in
    let ascii : get_or text (n - 1) 0 < 128 = rw (← get_or_default text (n - 1) 255 0 there) ends.ascii in
    subst (IsCharBoundary text) place (IsCharBoundary-after_ascii text (n - 1) utf8 there ascii)

-- within bytes of one sort, where all of this sort are ASCII
pub cut_in_run : (p : ℕ → Bool) → ((c : ℕ) → p c ≡ true → c < 128) → (text : List ℕ) (n : ℕ) → IsUtf8 text
    → n ≤ prefix_len p text → IsCharBoundary text n
cut_in_run p small text zero utf8 within = IsCharBoundary-start text utf8
cut_in_run p small text (suc n) utf8 within =
    let last : suc n - 1 ≡ n = omega arith in
    let less : n < prefix_len p text = omega arith in
    cut_behind text (suc n) utf8 (record {
      some = omega arith;
      ascii = subst (λ (i : ℕ). get_or text i 255 < 128) (omega arith)
          (small (get_or text n 255) (prefix_len_passes p text n 255 less));
    })

-- before the first byte that is of another sort, where all of other sorts are ASCII
pub cut_at_run : (p : ℕ → Bool) → ((c : ℕ) → p c ≡ false → c < 128) → (text : List ℕ)
    → IsCharBoundary text (prefix_len p text)
cut_at_run p small text = by (nat_lt (prefix_len p text) (length text)) refl (prefix_len-le-length p text)
  where
    by : (b : Bool) → nat_lt (prefix_len p text) (length text) ≡ b → prefix_len p text ≤ length text
        → IsCharBoundary text (prefix_len p text)
    by true is within =
        let less : prefix_len p text < length text = grind arith in
        IsCharBoundary-before_ascii text (prefix_len p text) less (small (get_or text (prefix_len p text) 0)
        (prefix_len_stops p text 0 less))
    by false is within =
        let over : length text ≤ prefix_len p text = grind arith in
        let end : length text ≡ prefix_len p text = omega arith in
        subst (IsCharBoundary text) end (IsCharBoundary-end text)

-- behind a quote, and behind three
pub cut_behind_quote : (text : List ℕ) → IsUtf8 text → begins (nat_eq 34) text ≡ true → IsCharBoundary text 1
cut_behind_quote text utf8 h =
    cut_behind text 1 utf8 (behind text 0 1 (is_is_ascii 34 (get_or text 0 255) (omega arith)
    (first_passes (nat_eq 34) text h)) refl)

pub cut_behind_quotes : (text : List ℕ) → IsUtf8 text → begins_with_quotes text ≡ true → IsCharBoundary text 3
cut_behind_quotes text utf8 h = cut_behind text 3 utf8 (quote_last text h)
