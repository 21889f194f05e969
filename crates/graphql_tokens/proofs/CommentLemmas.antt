-- Comments behind what is passed over.
use Rattle.std.proofs.Common.{◌≡◌, ◌≢◌, ◌<◌, ◌-◌, ℕ, zero, suc, Bool, true, false, List, [], ◌∷◌, Ok, drop, length, refl, sym, ap, ◌∙◌, arith, get_or, if◌then◌else◌, nat_eq}
use Rattle.std.proofs.lemmas.Bool.Decides.{nat_tests}
use Rattle.graphql_tokens.specs.declared.lexemes.Lexeme.{Lexeme}
use Rattle.graphql_tokens.specs.Comments.{behind_token, comment_from}
use Rattle.graphql_tokens.specs.Ignored.{one_ignored}
use Rattle.graphql_tokens.specs.Lexemes.{lexeme}

-- behind so many bytes is where they are dropped
pub comment_behind : (n : ℕ) (cs : List ℕ) → comment_from n cs ≡ comment_from 0 (drop n cs)
comment_behind zero cs = refl
comment_behind (suc n) [] = refl
comment_behind (suc n) (c ∷ cs) = comment_behind n cs

-- of three the last, and the second
last_of : (first second : Bool) (two three : Bool) → first ≡ false → second ≡ false
    → (if first then true else (if second then two else three)) ≡ three
last_of true second two three e f = cc
last_of false true two three e f = cc
last_of false false two three e f = refl

second_of : (first second : Bool) (two three : Bool) → first ≡ false → second ≡ true
    → (if first then true else (if second then two else three)) ≡ two
second_of true second two three e f = cc
second_of false true two three e f = refl
second_of false false two three e f = cc

unequal : (a b : ℕ) → a ≢ b → nat_eq a b ≡ false
unequal a b other = grind (arith, nat_tests)

-- behind the front and so many bytes
comment_behind_front : (c : ℕ) (cs : List ℕ) (size : ℕ) → size ≢ 0
    → comment_from (size - 1) cs ≡ comment_from 0 (drop size (c ∷ cs))
comment_behind_front c cs size some =
    let whole : suc (size - 1) ≡ size = omega arith in
    comment_behind (size - 1) cs ∙ ap (λ n. comment_from 0 (drop n (c ∷ cs))) whole

-- behind a blank or a byte order mark
pub at_ignored : (text : List ℕ) (size : ℕ) → 0 < length text → get_or text 0 0 ≢ 35
    → size ≡ one_ignored text → size ≢ 0 → comment_from 0 text ≡ comment_from 0 (drop size text)
at_ignored [] size some other is sized = absurd (omega arith)
at_ignored (c ∷ cs) size some other is sized =
    last_of (nat_eq c 35) (nat_eq (one_ignored (c ∷ cs)) 0)
    (behind_token (lexeme (c ∷ cs)) (λ n. comment_from n cs)) (comment_from (one_ignored (c ∷ cs) - 1) cs)
    (unequal c 35 other) (ap (λ n. nat_eq n 0) (sym is) ∙ unequal size 0 sized)
    ∙ ap (λ n. comment_from (n - 1) cs) (sym is) ∙ comment_behind_front c cs size sized

-- behind a token
pub at_token : (text : List ℕ) (found : Lexeme) (ignored : ℕ) → 0 < length text → get_or text 0 0 ≢ 35
    → ignored ≡ one_ignored text → ignored ≡ 0 → found.size ≢ 0 → Ok found ≡ lexeme text
    → comment_from 0 text ≡ comment_from 0 (drop found.size text)
at_token [] found ignored some other is none sized reads = absurd (omega arith)
at_token (c ∷ cs) found ignored some other is none sized reads =
    second_of (nat_eq c 35) (nat_eq (one_ignored (c ∷ cs)) 0)
    (behind_token (lexeme (c ∷ cs)) (λ n. comment_from n cs)) (comment_from (one_ignored (c ∷ cs) - 1) cs)
    (unequal c 35 other) (ap (λ n. nat_eq n 0) (sym is ∙ none))
    ∙ ap (λ reading. behind_token reading (λ n. comment_from n cs)) (sym reads)
    ∙ comment_behind_front c cs found.size sized
