-- The words of a text, from the first on.
use Rattle.std.proofs.Common.{◌≡◌, ◌≢◌, ℕ, zero, suc, ◌<◌, ◌-◌, List, [], ◌∷◌, length, None, Some, Ok, Err}
use Rattle.std.proofs.Common.{refl, sym, ap, ◌∙◌, arith}
use Rattle.graphql_tokens.specs.First.{First, FirstReading, first_of}
use Rattle.graphql_tokens.specs.declared.token.TokenError.{TokenError}
use Rattle.graphql_tokens.proofs.FirstLemmas.{shorter}
use Rattle.graphql_grammar.specs.Words.{WordView}
use Rattle.graphql_grammar.specs.WordsOfText.{too_many, word_of, words_at, words_by, words_within, wrong}

step : (n m allowed total : ℕ) (text : List ℕ) (r : FirstReading) → first_of text ≡ r → length text < suc n
    → length text < suc m
    → ((left : ℕ) (rest : List ℕ) → length rest < n → length rest < m → words_within n left total rest
    ≡ words_within m left total rest)
    → words_by allowed total text r (λ left rest. words_within n left total rest)
    ≡ words_by allowed total text r (λ left rest. words_within m left total rest)
step n m allowed total text (Ok None) e ln lm again = refl
step n m allowed total text (Err wrong) e ln lm again = refl
step n m zero total text (Ok (Some f)) e ln lm again = refl
step n m (suc allowed) total text (Ok (Some f)) e ln lm again =
    let less : length f.rest < length text = shorter text f e in
    ap (λ (ws : List WordView). word_of total f ∷ ws) (again allowed f.rest (omega arith) (omega arith))

-- how many tokens a text may have at most makes no difference where it is enough
enough : (n m allowed total : ℕ) (text : List ℕ) → length text < n → length text < m
    → words_within n allowed total text ≡ words_within m allowed total text
enough zero m allowed total text ln lm = absurd (omega arith)
enough (suc n) zero allowed total text ln lm = absurd (omega arith)
enough (suc n) (suc m) allowed total text ln lm = step n m allowed total text (first_of text) refl ln lm
    (λ left rest a b. enough n m left total rest a b)

by_first : (allowed total : ℕ) (text : List ℕ) (r : FirstReading) → first_of text ≡ r
    → words_by allowed total text r (λ left rest. words_within (length text) left total rest)
    ≡ words_by allowed total text r (λ left rest. words_at left total rest)
unfolding words_at
by_first allowed total text (Ok None) e = refl
by_first allowed total text (Err wrong) e = refl
by_first zero total text (Ok (Some f)) e = refl
by_first (suc allowed) total text (Ok (Some f)) e =
    let less : length f.rest < length text = shorter text f e in
    ap (λ (ws : List WordView). word_of total f ∷ ws) (enough (length text) (suc (length f.rest)) allowed
    total f.rest less (omega arith))

from_first : (allowed total : ℕ) (text : List ℕ) (r : FirstReading) → r ≡ first_of text
    → words_at allowed total text ≡ words_by allowed total text r (λ left rest. words_at left total rest)
unfolding words_at
from_first allowed total text r e = grind (arith, e, by_first allowed total text r (sym e))

-- no word is left of no text
pub none_of_nothing : (allowed total : ℕ) → words_at allowed total [] ≡ []
unfolding words_at
none_of_nothing allowed total = refl

pub none_left : (allowed total : ℕ) (text : List ℕ) → Ok None ≡ first_of text
    → words_at allowed total text ≡ []
none_left allowed total text e = from_first allowed total text (Ok None) e

pub wrong_left : (allowed total : ℕ) (text : List ℕ) (error : TokenError) → Err error ≡ first_of text
    → words_at allowed total text ≡ wrong total text error ∷ []
wrong_left allowed total text error e = from_first allowed total text (Err error) e

pub too_many_left : (allowed total : ℕ) (text : List ℕ) (f : First) → allowed ≡ 0
    → Ok (Some f) ≡ first_of text → words_at allowed total text ≡ too_many total f ∷ []
too_many_left zero total text f none e = from_first zero total text (Ok (Some f)) e
too_many_left (suc allowed) total text f none e = absurd (omega arith)

pub next_left : (allowed total : ℕ) (text : List ℕ) (f : First) → allowed ≢ 0 → Ok (Some f) ≡ first_of text
    → words_at allowed total text ≡ word_of total f ∷ words_at (allowed - 1) total f.rest
next_left zero total text f some e = absurd (some refl)
next_left (suc allowed) total text f some e =
    let same : allowed ≡ suc allowed - 1 = omega arith in
    from_first (suc allowed) total text (Ok (Some f)) e
    ∙ ap (λ (n : ℕ). word_of total f ∷ words_at n total f.rest) same
