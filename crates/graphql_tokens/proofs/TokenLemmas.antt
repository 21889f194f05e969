-- The tokens of a text, from place to place.
use Rattle.std.proofs.Common.{◌≡◌, ◌+◌, ◌-◌, ◌<◌, ◌≤◌, ℕ, zero, suc, Bool, true, false, List, [], ◌∷◌, ◌++◌}
use Rattle.std.proofs.Common.{length, drop, cond, refl, sym, ap, ◌∙◌, arith, Ok, Err}
use Rattle.std.specs.Prelude.{nat_eq}
use Rattle.std.proofs.lemmas.List.{append_assoc, drop-drop, length-drop}
use Rattle.graphql_tokens.specs.Ignored.{ignored, one_ignored}
use Rattle.graphql_tokens.specs.Lexemes.{Reading, lexeme}
use Rattle.graphql_tokens.specs.Pieces.{pieces}
use Rattle.graphql_tokens.specs.Tokens.{Tokens, placed, put_first, read_at, token_at, tokens_from}
use Rattle.graphql_tokens.specs.declared.lexemes.Lexeme.{Lexeme}
use Rattle.graphql_tokens.specs.declared.token.Token.{Token}
use Rattle.graphql_tokens.specs.declared.token.TokenError.{TokenError}

-- these tokens, and then those
abbrev pub put_before : List Token → Tokens → Tokens
put_before ts (Ok more) = Ok (ts ++ more)
put_before ts (Err e) = Err e

pub put-none : (r : Tokens) → put_before [] r ≡ r
put-none (Ok ts) = refl
put-none (Err e) = refl

pub put-one : (ts : List Token) (t : Token) (r : Tokens)
    → put_before ts (put_first t r) ≡ put_before (ts ++ t ∷ []) r
put-one ts t (Ok more) = ap Ok (sym (append_assoc ts (t ∷ []) more))
put-one ts t (Err e) = refl

-- what is of what stands before is passed over
passed : (k at : ℕ) (xs : List ℕ) → k ≤ length xs → tokens_from k at xs ≡ tokens_from 0 (at + k) (drop k xs)
passed zero at xs within = ap (λ (n : ℕ). tokens_from 0 n xs) (omega arith)
passed (suc k) at [] within = absurd (omega arith)
passed (suc k) at (c ∷ cs) within = passed k (at + 1) cs (omega arith)
    ∙ ap (λ (n : ℕ). tokens_from 0 n (drop k cs)) (omega arith)

-- whether a number is 0
zero_or : (n : ℕ) → (b : Bool) → nat_eq n 0 ≡ b → cond b (n ≡ 0) (0 < n)
zero_or n true is = grind arith
zero_or n false is = grind arith

-- what says nothing is passed over
ignored_from : (left at : ℕ) (xs : List ℕ)
    → tokens_from left at xs ≡ tokens_from 0 (at + pieces one_ignored left xs)
    (drop (pieces one_ignored left xs) xs)
ignored_from left at [] = refl
ignored_from (suc left) at (c ∷ cs) =
    let k = pieces one_ignored left cs in
    let some : pieces one_ignored (suc left) (c ∷ cs) ≡ suc k = omega arith in
    ignored_from left (at + 1) cs ∙ ap (λ (n : ℕ). tokens_from 0 n (drop k cs)) (omega arith)
    ∙ ap (λ (n : ℕ). tokens_from 0 (at + pieces one_ignored (suc left) (c ∷ cs)) (drop n (c ∷ cs)))
    (sym some)
ignored_from zero at (c ∷ cs) =
    by (nat_eq (one_ignored (c ∷ cs)) 0) refl (ignored_from (one_ignored (c ∷ cs) - 1) (at + 1) cs)
  where
    by : (b : Bool) → nat_eq (one_ignored (c ∷ cs)) 0 ≡ b
        → tokens_from (one_ignored (c ∷ cs) - 1) (at + 1) cs ≡ tokens_from 0 (at + 1 + pieces one_ignored
        (one_ignored (c ∷ cs) - 1) cs) (drop (pieces one_ignored (one_ignored (c ∷ cs) - 1) cs) cs)
        → tokens_from 0 at (c ∷ cs) ≡ tokens_from 0 (at + pieces one_ignored 0 (c ∷ cs))
        (drop (pieces one_ignored 0 (c ∷ cs)) (c ∷ cs))
    by true is more =
        let none : pieces one_ignored 0 (c ∷ cs) ≡ 0 =
        ap (λ (b : Bool). cond b 0 (pieces one_ignored (one_ignored (c ∷ cs) - 1) cs + 1)) is in
        ap (λ (k : ℕ). tokens_from 0 k (c ∷ cs)) (omega arith)
        ∙ ap (λ (k : ℕ). tokens_from 0 (at + pieces one_ignored 0 (c ∷ cs)) (drop k (c ∷ cs))) (sym none)
    by false is more =
        let k = pieces one_ignored (one_ignored (c ∷ cs) - 1) cs in
        let some : pieces one_ignored 0 (c ∷ cs) ≡ suc k = ap (λ (b : Bool). cond b 0 (k + 1)) is
        ∙ omega arith in
        ap (λ (b : Bool). cond b (read_at (lexeme (c ∷ cs)) at (λ n. tokens_from n (at + 1) cs))
        (tokens_from (one_ignored (c ∷ cs) - 1) (at + 1) cs)) is
        ∙ more ∙ ap (λ (n : ℕ). tokens_from 0 n (drop k cs)) (omega arith)
        ∙ ap (λ (n : ℕ). tokens_from 0 (at + pieces one_ignored 0 (c ∷ cs)) (drop n (c ∷ cs))) (sym some)

pub behind_ignored : (at : ℕ) (xs : List ℕ)
    → tokens_from 0 at xs ≡ tokens_from 0 (at + ignored xs) (drop (ignored xs) xs)
behind_ignored at xs = ignored_from 0 at xs

-- what says nothing ends where nothing of it stands
ends : (left : ℕ) (xs : List ℕ) → one_ignored (drop (pieces one_ignored left xs) xs) ≡ 0
ends left [] = refl
ends (suc left) (c ∷ cs) =
    let some : pieces one_ignored (suc left) (c ∷ cs) ≡ suc (pieces one_ignored left cs) = omega arith in
    ap (λ (n : ℕ). one_ignored (drop n (c ∷ cs))) some ∙ ends left cs
ends zero (c ∷ cs) = by (nat_eq (one_ignored (c ∷ cs)) 0) refl (ends (one_ignored (c ∷ cs) - 1) cs)
  where
    by : (b : Bool) → nat_eq (one_ignored (c ∷ cs)) 0 ≡ b
        → one_ignored (drop (pieces one_ignored (one_ignored (c ∷ cs) - 1) cs) cs) ≡ 0
        → one_ignored (drop (pieces one_ignored 0 (c ∷ cs)) (c ∷ cs)) ≡ 0
    by true is more =
        let none : pieces one_ignored 0 (c ∷ cs) ≡ 0 =
        ap (λ (b : Bool). cond b 0 (pieces one_ignored (one_ignored (c ∷ cs) - 1) cs + 1)) is in
        ap (λ (k : ℕ). one_ignored (drop k (c ∷ cs))) none ∙ zero_or (one_ignored (c ∷ cs)) true is
    by false is more =
        let k = pieces one_ignored (one_ignored (c ∷ cs) - 1) cs in
        let some : pieces one_ignored 0 (c ∷ cs) ≡ suc k = ap (λ (b : Bool). cond b 0 (k + 1)) is
        ∙ omega arith in
        ap (λ (n : ℕ). one_ignored (drop n (c ∷ cs))) some ∙ more

pub nothing_ignored : (xs : List ℕ) → one_ignored (drop (ignored xs) xs) ≡ 0
nothing_ignored xs = ends 0 xs

-- where nothing is to be passed over, the token comes that stands there, and what stands behind it
pub a_token : (at : ℕ) (xs : List ℕ) (l : Lexeme) → one_ignored xs ≡ 0 → lexeme xs ≡ Ok l → 0 < l.size
    → l.size ≤ length xs
    → tokens_from 0 at xs ≡ put_first (token_at at l) (tokens_from 0 (at + l.size) (drop l.size xs))
a_token at [] l none read some within = absurd (omega arith)
a_token at (c ∷ cs) l none read some within =
    let here : nat_eq (one_ignored (c ∷ cs)) 0 ≡ true = ap (λ (n : ℕ). nat_eq n 0) none in
    let last : suc (l.size - 1) ≡ l.size = omega arith in
    ap (λ (b : Bool). cond b (read_at (lexeme (c ∷ cs)) at (λ n. tokens_from n (at + 1) cs))
    (tokens_from (one_ignored (c ∷ cs) - 1) (at + 1) cs)) here
    ∙ ap (λ (r : Reading). read_at r at (λ n. tokens_from n (at + 1) cs)) read
    ∙ ap (put_first (token_at at l)) (passed (l.size - 1) (at + 1) cs (omega arith)
    ∙ ap (λ (n : ℕ). tokens_from 0 n (drop (l.size - 1) cs)) (omega arith)
    ∙ ap (λ (n : ℕ). tokens_from 0 (at + l.size) (drop n (c ∷ cs))) last)

-- or what is wrong there
pub a_fault : (at : ℕ) (xs : List ℕ) (e : TokenError) → one_ignored xs ≡ 0 → lexeme xs ≡ Err e → 0 < length xs
    → tokens_from 0 at xs ≡ Err (record { kind = e.kind; at = at + e.at })
a_fault at [] e none read some = absurd (omega arith)
a_fault at (c ∷ cs) e none read some =
    let here : nat_eq (one_ignored (c ∷ cs)) 0 ≡ true = ap (λ (n : ℕ). nat_eq n 0) none in
    ap (λ (b : Bool). cond b (read_at (lexeme (c ∷ cs)) at (λ n. tokens_from n (at + 1) cs))
    (tokens_from (one_ignored (c ∷ cs) - 1) (at + 1) cs)) here
    ∙ ap (λ (r : Reading). read_at r at (λ n. tokens_from n (at + 1) cs)) read

-- the same, by the token
placed_token : (at : ℕ) (xs : List ℕ) (t : Token) → one_ignored xs ≡ 0 → placed at (lexeme xs) ≡ Ok t
    → at < t.end → t.end ≤ at + length xs
    → tokens_from 0 at xs ≡ put_first t (tokens_from 0 t.end (drop (t.end - at) xs))
placed_token at xs t none stands later within = by (lexeme xs) refl stands
  where
    by : (r : Reading) → lexeme xs ≡ r → placed at r ≡ Ok t
        → tokens_from 0 at xs ≡ put_first t (tokens_from 0 t.end (drop (t.end - at) xs))
    by (Ok l) read stands =
        let is : token_at at l ≡ t = cc stands in
        let end : at + l.size ≡ t.end = ap (λ (x : Token). x.end) is in
        let size : l.size ≡ t.end - at = omega arith in
        a_token at xs l none read (omega arith) (omega arith)
        ∙ ap (λ (x : Token). put_first x (tokens_from 0 (at + l.size) (drop l.size xs))) is
        ∙ ap (λ (n : ℕ). put_first t (tokens_from 0 n (drop l.size xs))) end
        ∙ ap (λ (n : ℕ). put_first t (tokens_from 0 t.end (drop n xs))) size
    by (Err e) read stands = absurd cc

-- so one token more is read, and what says nothing behind it
pub next_token : (text : List ℕ) (list : List Token) (at : ℕ) (t : Token) (n : ℕ)
    → tokens_from 0 0 text ≡ put_before list (tokens_from 0 at (drop at text))
    → one_ignored (drop at text) ≡ 0 → placed at (lexeme (drop at text)) ≡ Ok t → at < t.end
    → t.end ≤ length text → n ≡ ignored (drop t.end text)
    → tokens_from 0 0 text ≡ put_before (list ++ t ∷ []) (tokens_from 0 (t.end + n) (drop (t.end + n) text))
next_token text list at t n whole none stands later within is =
    let rest : drop (t.end - at) (drop at text) ≡ drop t.end text = drop-drop (t.end - at) at text
    ∙ ap (λ (k : ℕ). drop k text) (omega arith) in
    let long = length-drop at text in
    let behind : drop (ignored (drop t.end text)) (drop t.end text) ≡ drop (t.end + n) text =
    drop-drop (ignored (drop t.end text)) t.end text ∙ ap (λ (k : ℕ). drop (t.end + k) text) (sym is) in
    whole ∙ ap (put_before list) (placed_token at (drop at text) t none stands later (omega arith)
    ∙ ap (λ (xs : List ℕ). put_first t (tokens_from 0 t.end xs)) rest
    ∙ ap (put_first t) (behind_ignored t.end (drop t.end text))
    ∙ ap (λ (k : ℕ). put_first t (tokens_from 0 (t.end + k) (drop (ignored (drop t.end text))
    (drop t.end text)))) (sym is) ∙ ap (λ (xs : List ℕ). put_first t (tokens_from 0 (t.end + n) xs))
    behind) ∙ put-one list t (tokens_from 0 (t.end + n) (drop (t.end + n) text))

-- or what is wrong there is what is wrong with the text first
pub placed_fault : (text : List ℕ) (list : List Token) (at : ℕ) (e : TokenError)
    → tokens_from 0 0 text ≡ put_before list (tokens_from 0 at (drop at text))
    → one_ignored (drop at text) ≡ 0 → placed at (lexeme (drop at text)) ≡ Err e → at < length text
    → tokens_from 0 0 text ≡ Err e
placed_fault text list at e whole none stands some =
    whole ∙ ap (put_before list) (by (lexeme (drop at text)) refl stands)
  where
    by : (r : Reading) → lexeme (drop at text) ≡ r → placed at r ≡ Err e
        → tokens_from 0 at (drop at text) ≡ Err e
    by (Ok l) read stands = absurd cc
    by (Err w) read stands =
        let long = length-drop at text in
        let moved : TokenError = record { kind = w.kind; at = at + w.at } in
        let is : moved ≡ e = cc stands in
        a_fault at (drop at text) w none read (omega arith) ∙ ap Err is
