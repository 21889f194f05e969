-- What says nothing says nothing alone.
use Rattle.std.proofs.Common.{◌≡◌, ◌+◌, ◌-◌, ◌<◌, ◌≤◌, ℕ, zero, suc, Bool, true, false, List, [], ◌∷◌, length}
use Rattle.std.proofs.Common.{take, cond, refl, sym, ap, subst, ◌∙◌, arith}
use Rattle.std.specs.Prelude.{nat_eq}
use Rattle.std.specs.List.{prefix_len}
use Rattle.std.proofs.lemmas.Bool.{ne_eqb}
use Rattle.std.proofs.lemmas.List.Sums.{prefix_len-le-length}
use Rattle.graphql_tokens.specs.Bytes.{is_blank}
use Rattle.graphql_tokens.specs.Ignored.{begins_with_mark, ignored, is_of_comment, one_ignored}
use Rattle.graphql_tokens.specs.Pieces.{pieces}
use Rattle.graphql_tokens.proofs.EndLemmas.{choose}
use Rattle.graphql_tokens.proofs.PieceLemmas.{pieces_of_before}

-- bytes of one sort are so without what stands behind them
run_alone : (p : ℕ → Bool) (cs : List ℕ) (k : ℕ) → prefix_len p cs ≤ k
    → prefix_len p (take k cs) ≡ prefix_len p cs
run_alone p [] zero within = refl
run_alone p [] (suc k) within = refl
run_alone p (c ∷ cs) zero within = grind arith
run_alone p (c ∷ cs) (suc k) within = grind (arith, run_alone p cs k)

mark_alone : (c : ℕ) (cs : List ℕ) (k : ℕ) → begins_with_mark (c ∷ cs) ≡ true → 2 ≤ k
    → begins_with_mark (c ∷ take k cs) ≡ true
mark_alone c (d ∷ e ∷ rest) (suc (suc k)) h within = h
mark_alone c (d ∷ e ∷ rest) k h within = absurd (omega arith)
mark_alone c _ k h within = absurd cc

-- one piece of it, likewise
one_alone : (c : ℕ) (cs : List ℕ) (k : ℕ) → 0 < one_ignored (c ∷ cs) → one_ignored (c ∷ cs) ≤ suc k
    → one_ignored (c ∷ take k cs) ≡ one_ignored (c ∷ cs)
one_alone c cs k = by (is_blank c) (nat_eq c 35) (begins_with_mark (c ∷ cs)) refl
  where
    by : (b h m : Bool) → begins_with_mark (c ∷ cs) ≡ m
        → 0 < cond b 1 (cond h (prefix_len is_of_comment cs + 1) (cond m 3 0))
        → cond b 1 (cond h (prefix_len is_of_comment cs + 1) (cond m 3 0)) ≤ suc k
        → cond b 1 (cond h (prefix_len is_of_comment (take k cs) + 1) (cond (begins_with_mark (c ∷ take k cs))
        3 0)) ≡ cond b 1 (cond h (prefix_len is_of_comment cs + 1) (cond m 3 0))
    by true h m is some within = refl
    by false true m is some within = ap (λ (n : ℕ). n + 1) (run_alone is_of_comment cs k (omega arith))
    by false false true is some within = ap (λ (b : Bool). cond b 3 0) (mark_alone c cs k is (omega arith))
    by false false false is some within = absurd (omega arith)

mark_within : (c : ℕ) (cs : List ℕ) → begins_with_mark (c ∷ cs) ≡ true → 3 ≤ length (c ∷ cs)
mark_within c (d ∷ e ∷ rest) h = omega arith
mark_within c _ h = absurd cc

one_within : (c : ℕ) (cs : List ℕ) → one_ignored (c ∷ cs) ≤ length (c ∷ cs)
one_within c cs = choose (λ (n : ℕ). n ≤ length (c ∷ cs)) (is_blank c) 1 _ (λ _. omega arith)
    (λ _. choose (λ (n : ℕ). n ≤ length (c ∷ cs)) (nat_eq c 35) (prefix_len is_of_comment cs + 1) _
    (λ _. omega (arith, prefix_len-le-length is_of_comment cs)) (λ _. choose (λ (n : ℕ). n ≤ length (c ∷ cs))
    (begins_with_mark (c ∷ cs)) 3 0 (mark_within c cs) (λ _. omega arith)))

-- what is still of the piece before counts whole, as far as there are bytes
alone : (left : ℕ) (xs : List ℕ)
    → pieces one_ignored left (take (pieces one_ignored left xs) xs) ≡ pieces one_ignored left xs
alone left [] = refl
alone (suc left) (c ∷ cs) =
    let k = pieces one_ignored left cs in
    let some : k + 1 ≡ suc k = omega arith in
    subst (λ (n : ℕ). pieces one_ignored (suc left) (take n (c ∷ cs)) ≡ n) (sym some)
    (ap (λ (n : ℕ). n + 1) (alone left cs) ∙ some)
alone zero (c ∷ cs) = by (one_ignored (c ∷ cs)) refl (alone (one_ignored (c ∷ cs) - 1) cs)
  where
    by : (m : ℕ) → one_ignored (c ∷ cs) ≡ m
        → pieces one_ignored (m - 1) (take (pieces one_ignored (m - 1) cs) cs) ≡ pieces one_ignored (m - 1) cs
        → pieces one_ignored 0 (take (cond (nat_eq m 0) 0 (pieces one_ignored (m - 1) cs + 1)) (c ∷ cs))
        ≡ cond (nat_eq m 0) 0 (pieces one_ignored (m - 1) cs + 1)
    by zero is more = refl
    by (suc m) is more =
        let last : suc m - 1 ≡ m = omega arith in
        let k = pieces one_ignored (suc m - 1) cs in
        let some : suc k ≡ k + 1 = omega arith in
        let fits = one_within c cs in
        let whole : m ≤ k = subst (λ (n : ℕ). m ≤ pieces one_ignored n cs) (sym last)
        (pieces_of_before one_ignored m cs (omega arith)) in
        let here : one_ignored (c ∷ take k cs) ≡ suc m = one_alone c cs k (omega arith) (omega arith) ∙ is in
        let there : pieces one_ignored 0 (c ∷ take k cs) ≡ k + 1 =
        ap (λ (n : ℕ). cond (nat_eq n 0) 0 (pieces one_ignored (n - 1) (take k cs) + 1)) here
        ∙ rw (ne_eqb (suc m) 0 (λ e. omega arith)) (ap (λ (n : ℕ). n + 1) more) in
        rw (ne_eqb (suc m) 0 (λ e. omega arith)) (subst (λ (n : ℕ). pieces one_ignored 0 (take n (c ∷ cs))
        ≡ k + 1) some there)

pub ignored_alone : (xs : List ℕ) → ignored (take (ignored xs) xs) ≡ ignored xs
ignored_alone xs = alone 0 xs
