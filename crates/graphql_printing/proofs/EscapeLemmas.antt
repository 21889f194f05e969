-- What a quoted string has of its text, byte by byte.
use Rattle.std.proofs.Common.{◌≡◌, ◌∙◌, ℕ, ◌+◌, ◌-◌, ◌<◌, ◌≤◌, Bool, true, false, List, [], ◌∷◌, ◌++◌, length}
use Rattle.std.proofs.Common.{get_or, drop, cond, nat_eq, refl, sym, ap, subst, append-nil, arith, IsUtf8}
use Rattle.std.proofs.Common.{get_or-drop, codes}
use Rattle.std.specs.Prelude.{nat_lt}
use Rattle.std.specs.Char.{encode_utf8, len_utf8}
use Rattle.std.specs.Str.{IsCharBoundary}
use Rattle.std.proofs.lemmas.Bool.{false≢true, lt-ltb, ltb-true}
use Rattle.std.proofs.lemmas.Bool.Decides.{nat_tests}
use Rattle.std.proofs.lemmas.List.{drop-drop, drop_more}
use Rattle.std.proofs.lemmas.Str.{IsCharBoundary-after_ascii, IsCharBoundary-from_rest}
use Rattle.std.proofs.lemmas.Str.{IsCharBoundary-past_char, IsUtf8-drop, encode_ascii}
use Rattle.graphql_tokens.specs.Bytes.{begins}
use Rattle.graphql_printing.specs.Escapes.{escape, escaped_size, wants_escape}
use Rattle.graphql_printing.specs.Strings.{are_control, escape_letter, is_control, number_escape, quoted_byte}
use Rattle.graphql_printing.specs.Strings.{quoted_bytes, quoted_character}
use Rattle.graphql_printing.proofs.QuotedCharacters.{control_bytes}

-- ---- a byte that stands for itself

same_byte : (c : ℕ) → wants_escape c ≡ false → quoted_byte c ≡ c ∷ []
same_byte c h = by (nat_lt c 128) refl
  where
    by : (small : Bool) → nat_lt c 128 ≡ small → cond small (quoted_character c) (c ∷ []) ≡ c ∷ []
    by false is = refl
    by true is =
        let none : nat_lt 0 (escape_letter c) ≡ false = grind (arith, nat_tests, h) in
        let other : is_control c ≡ false = grind (arith, nat_tests, h, is) in
        rw (none, other) (encode_ascii c (ltb-true c 128 is))

no_pair : (c : ℕ) (cs : List ℕ) → wants_escape c ≡ false → begins (are_control c) cs ≡ false
    → quoted_bytes (c ∷ cs) ≡ c ∷ quoted_bytes cs
no_pair c [] h pair = same_byte c h
no_pair c (b ∷ rest) h pair = rw pair (ap (λ (l : List ℕ). l ++ quoted_bytes (b ∷ rest)) (same_byte c h))

plain_first : (c : ℕ) (cs : List ℕ) → escaped_size (c ∷ cs) ≡ 0 → quoted_bytes (c ∷ cs) ≡ c ∷ quoted_bytes cs
plain_first c cs = by (wants_escape c) (begins (are_control c) cs) refl refl
  where
    by : (e p : Bool) → wants_escape c ≡ e → begins (are_control c) cs ≡ p
        → ◌≡◌ {A = ℕ} (cond e 1 (cond p 2 0)) 0 → quoted_bytes (c ∷ cs) ≡ c ∷ quoted_bytes cs
    by true p h g none = absurd (omega (arith, none))
    by false true h g none = absurd (omega (arith, none))
    by false false h g none = no_pair c cs h g

pub plain_at : (s : List ℕ) (i : ℕ) → i < length s → escaped_size (drop i s) ≡ 0
    → quoted_bytes (drop i s) ≡ get_or s i 0 ∷ quoted_bytes (drop (i + 1) s)
plain_at s i within none = rw (drop_more s i 0 within) (plain_first _ _ (rw (drop_more s i 0 within) at none))

-- ---- a character that is escaped

-- a byte with which no control character begins
alone : (a : ℕ) (rest : List ℕ) → nat_eq a 194 ≡ false
    → quoted_bytes (a ∷ rest) ≡ quoted_byte a ++ quoted_bytes rest
alone a [] other = sym (append-nil _)
alone a (b ∷ rest) other = rw other refl

-- a byte of ASCII that is escaped
by_byte : (c : ℕ) → c < 128 → wants_escape c ≡ true → quoted_byte c ≡ escape c
by_byte c small h = rw (lt-ltb c 128 small) (by (nat_lt 0 (escape_letter c)) refl)
  where
    by : (letter : Bool) → nat_lt 0 (escape_letter c) ≡ letter
        → cond letter (codes "\\" ++ escape_letter c ∷ []) (cond (is_control c) (number_escape c)
        (encode_utf8 c)) ≡ cond letter (codes "\\" ++ escape_letter c ∷ []) (number_escape c)
    by true is = refl
    by false is =
        let control : is_control c ≡ true = grind (arith, nat_tests, h, is) in
        rw control refl

-- a character beyond ASCII has no letter
by_number : (c : ℕ) → 128 ≤ c → escape c ≡ number_escape c
by_number c beyond = grind (arith, nat_tests, beyond)

-- the character at the front, of so many bytes, of which the last is its number, is escaped
record Escaped (text : List ℕ) (size : ℕ) : Type 0 where
  says : quoted_bytes text ≡ escape (get_or text (size - 1) 0) ++ quoted_bytes (drop size text)
  begins_character : 128 ≤ get_or text 0 0 → 192 ≤ get_or text 0 0
  ends_character : IsUtf8 text → IsCharBoundary text size

one_byte : (c : ℕ) (cs : List ℕ) → wants_escape c ≡ true → Escaped (c ∷ cs) 1
one_byte c cs h =
    let small : c < 128 = grind (arith, nat_tests, h) in
    let other : nat_eq c 194 ≡ false = grind (arith, nat_tests, small) in
    record {
      says = alone c cs other ∙ ap (λ (l : List ℕ). l ++ quoted_bytes cs) (by_byte c small h);
      begins_character = λ big. absurd (omega (arith, big, small));
      ends_character = λ utf8. IsCharBoundary-after_ascii (c ∷ cs) 0 utf8 (omega arith) small;
    }

two_bytes : (a b : ℕ) (rest : List ℕ) → are_control a b ≡ true → Escaped (a ∷ b ∷ rest) 2
two_bytes a b rest h =
    let first : a ≡ 194 = grind (arith, nat_tests, h) in
    let beyond : 128 ≤ b = grind (arith, nat_tests, h) in
    let size : 0 + len_utf8 b ≡ 2 = grind (arith, nat_tests, h) in
    record {
      says = rw h (ap (λ (l : List ℕ). l ++ quoted_bytes rest) (sym (by_number b beyond)));
      begins_character = λ big. omega (arith, first);
      ends_character = λ utf8. subst (IsCharBoundary (a ∷ b ∷ rest)) size (IsCharBoundary-past_char _ rest 0 b
          (omega arith) utf8 (ap (λ (l : List ℕ). l ++ rest) (sym (control_bytes a b h))));
    }

two_first : (c : ℕ) (cs : List ℕ) → begins (are_control c) cs ≡ true → Escaped (c ∷ cs) 2
two_first c [] h = absurd (false≢true h)
two_first c (b ∷ rest) h = two_bytes c b rest h

first : (text : List ℕ) → 0 < escaped_size text → Escaped text (escaped_size text)
first [] some = absurd (omega (arith, some))
first (c ∷ cs) some = by (wants_escape c) (begins (are_control c) cs) refl refl some
  where
    by : (e p : Bool) → wants_escape c ≡ e → begins (are_control c) cs ≡ p → 0 < cond e 1 (cond p 2 0)
        → Escaped (c ∷ cs) (cond e 1 (cond p 2 0))
    by true p h g some = one_byte c cs h
    by false true h g some = two_first c cs g
    by false false h g some = absurd (omega (arith, some))

-- the same at a place in a text
pub record EscapedAt (s : List ℕ) (i next : ℕ) : Type 0 where
  pub says : quoted_bytes (drop i s) ≡ escape (get_or s (next - 1) 0) ++ quoted_bytes (drop next s)
  pub start : IsCharBoundary s i
  pub end : IsCharBoundary s next

pub escaped_at : (s : List ℕ) (i size : ℕ) → IsUtf8 s → i < length s → size ≡ escaped_size (drop i s)
    → 0 < size → EscapedAt s i (i + size)
escaped_at s i size utf8 within is some =
    let here : Escaped _ size =
    subst (Escaped (drop i s)) (sym is) (first _ (subst (λ (n : ℕ). 0 < n) is some)) in
    let place : i + 0 ≡ i = omega arith in
    let byte : get_or (drop i s) 0 0 ≡ get_or s i 0 = get_or-drop i s 0 0
    ∙ ap (λ (n : ℕ). get_or s n 0) place in
    let start : IsCharBoundary s i = (
      omega (arith, within),
      λ _ big. subst (λ (c : ℕ). 192 ≤ c) byte
          (here.begins_character (subst (λ (c : ℕ). 128 ≤ c) (sym byte) big)),
    ) in
    let last : i + (size - 1) ≡ i + size - 1 = omega (arith, some) in
    let number : get_or (drop i s) (size - 1) 0 ≡ get_or s (i + size - 1) 0 = get_or-drop i s _ 0
    ∙ ap (λ (n : ℕ). get_or s n 0) last in
    record {
      says = here.says ∙ ap (λ (c : ℕ). escape c ++ quoted_bytes (drop size (drop i s))) number
          ∙ ap (λ (l : List ℕ). escape (get_or s (i + size - 1) 0) ++ quoted_bytes l) (drop-drop size i s);
      start = start;
      end = IsCharBoundary-from_rest s i size (omega (arith, within))
          (here.ends_character (IsUtf8-drop s i utf8 start));
    }
