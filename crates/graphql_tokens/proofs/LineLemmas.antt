-- The lines of a text, the first one and those behind it.
use Rattle.std.proofs.Common.{◌≡◌, ◌+◌, ◌-◌, ◌<◌, ◌≤◌, ◌&&◌, ℕ, zero, suc, Bool, true, false, List, [], ◌∷◌}
use Rattle.std.proofs.Common.{◌++◌, length, get_or, take, drop, cond, refl, sym, ap, subst, ◌∙◌, arith}
use Rattle.std.specs.Prelude.{nat_eq, not}
use Rattle.std.specs.List.{prefix_len}
use Rattle.std.specs.Str.{IsCharBoundary, IsUtf8}
use Rattle.std.specs.Borrow.{Bor}
use Rattle.std.proofs.lemmas.List.{drop-drop, map-append, take_all, take_more}
use Rattle.graphql_tokens.specs.Bytes.{begins, is_line_end}
use Rattle.graphql_tokens.specs.BlockStringValues.{indent, is_blank_line, is_in_line, is_white, line_end}
use Rattle.graphql_tokens.specs.BlockStringValues.{lines, longer_first, unless_blank, without_blank_end}
use Rattle.graphql_tokens.specs.Texts.{texts_of}
use Rattle.graphql_tokens.proofs.CutLemmas.{cut_behind, cut_in_run}
use Rattle.graphql_tokens.proofs.EndLemmas.{EndsAt, behind, choose, first_passes, further, is_is_ascii}
use Rattle.graphql_tokens.proofs.PieceLemmas.{rest-is, rest_at}

-- the lines, where the first one has so many bytes, and its end so many
split : ℕ → List ℕ → ℕ → List (List ℕ)
split k xs zero = xs ∷ []
split k xs (suc n) = take k xs ∷ lines (drop (suc n) (drop k xs))

-- a line feed ends an empty line
behind_return : (cs : List ℕ) → begins (nat_eq 10) cs ≡ true → lines cs ≡ [] ∷ lines (drop 1 cs)
behind_return [] h = absurd cc
behind_return (d ∷ ds) h = let is : d ≡ 10 = grind arith in rw is

right_of : (a b : Bool) → (a && b) ≡ true → b ≡ true
right_of true b h = h
right_of false b h = absurd cc

-- a byte more in the first line
longer : (c : ℕ) (cs : List ℕ) (k n : ℕ) → longer_first c (split k cs n) ≡ split (suc k) (c ∷ cs) n
unfolding split
longer c cs k zero = refl
longer c cs k (suc n) = refl

-- an end of the first line, or of an empty one
at_front : (c : ℕ) (cs : List ℕ) (b : Bool) → (nat_eq c 13 && begins (nat_eq 10) cs) ≡ b
    → cond b (lines cs) ([] ∷ lines cs) ≡ split 0 (c ∷ cs) (cond b 2 1)
unfolding split
at_front c cs false is = refl
at_front c cs true is = behind_return cs (right_of (nat_eq c 13) (begins (nat_eq 10) cs) is)

split_lines : (xs : List ℕ)
    → lines xs ≡ split (prefix_len is_in_line xs) xs (line_end (drop (prefix_len is_in_line xs) xs))
unfolding split
split_lines [] = refl
split_lines (c ∷ cs) = by (is_line_end c) refl (split_lines cs)
  where
    by : (b : Bool) → is_line_end c ≡ b
        → lines cs ≡ split (prefix_len is_in_line cs) cs (line_end (drop (prefix_len is_in_line cs) cs))
        → lines (c ∷ cs) ≡ split (prefix_len is_in_line (c ∷ cs)) (c
        ∷ cs) (line_end (drop (prefix_len is_in_line (c ∷ cs)) (c ∷ cs)))
    by true h more =
        let both = nat_eq c 13 && begins (nat_eq 10) cs in
        let none : 0 ≡ prefix_len is_in_line (c ∷ cs) =
        sym (ap (λ (b : Bool). cond (not b) (1 + prefix_len is_in_line cs) 0) h) in
        rw (← none) (ap (λ (b : Bool). cond b (cond both (lines cs) ([] ∷ lines cs))
        (longer_first c (lines cs))) h ∙ at_front c cs both refl
        ∙ sym (ap (λ (b : Bool). split 0 (c ∷ cs) (cond b (cond both 2 1) 0)) h))
    by false h more =
        let k = prefix_len is_in_line cs in
        let one : 1 + k ≡ suc k = omega arith in
        let some : suc k ≡ prefix_len is_in_line (c ∷ cs) = sym (ap (λ (b : Bool). cond (not b) (1 + k) 0) h
        ∙ one) in
        rw (← some) (ap (λ (b : Bool). cond b (cond (nat_eq c 13 && begins (nat_eq 10) cs) (lines cs)
        ([] ∷ lines cs)) (longer_first c (lines cs))) h ∙ ap (longer_first c) more
        ∙ longer c cs k (line_end (drop k cs)))

-- how many bytes of a line end were found behind the first line
pub found_end : (bytes text : List ℕ) (size end : ℕ) → bytes ≡ text → size ≡ prefix_len is_in_line bytes
    → end ≡ line_end (rest_at size bytes) → end ≡ line_end (drop (prefix_len is_in_line text) text)
found_end bytes text size end same is found = rw (← same, ← is) (found ∙ ap line_end (rest-is size bytes))

-- a text of one line
pub one_line : (text : List ℕ) (end : ℕ) → end ≡ line_end (drop (prefix_len is_in_line text) text) → end ≡ 0
    → lines text ≡ text ∷ []
unfolding split
one_line text end is none = split_lines text ∙ ap (split (prefix_len is_in_line text) text) (sym is ∙ none)

-- the first line, and the lines behind its end
pub line_and_more : (text line rest : List ℕ) (size end : ℕ) → size ≡ prefix_len is_in_line text
    → end ≡ line_end (drop (prefix_len is_in_line text) text) → 0 < end → line ≡ take (size - 0) text
    → rest ≡ drop (size + end) text → lines text ≡ line ∷ lines rest
unfolding split
line_and_more text line rest size end is found some here behind = split_lines text
    ∙ ap (split (prefix_len is_in_line text) text) (sym found) ∙ ap (λ (k : ℕ). split k text end) (sym is)
    ∙ by end some behind
  where
    by : (n : ℕ) → 0 < n → rest ≡ drop (size + n) text → split size text n ≡ line ∷ lines rest
    by zero some behind = absurd (omega arith)
    by (suc n) some behind =
        let place : size ≡ size - 0 = omega arith in
        ap (λ (k : ℕ). take k text ∷ lines (drop (suc n) (drop size text))) place
        ∙ ap (λ (l : List ℕ). l ∷ lines (drop (suc n) (drop size text))) (sym here)
        ∙ ap (λ (r : List ℕ). line ∷ lines r) (drop-drop (suc n) size text ∙ sym behind)

end_is_ascii : (c : ℕ) → is_line_end c ≡ true → c < 128
end_is_ascii c h = grind arith

line_ends : (xs : List ℕ) → 0 < line_end xs → EndsAt xs (line_end xs)
line_ends [] = λ some. absurd (omega arith)
line_ends (c ∷ cs) = choose (λ (n : ℕ). 0 < n → EndsAt (c ∷ cs) n) (is_line_end c)
    (cond (nat_eq c 13 && begins (nat_eq 10) cs) 2 1) 0 (λ h. choose (λ (n : ℕ). 0 < n → EndsAt (c ∷ cs) n)
    (nat_eq c 13 && begins (nat_eq 10) cs) 2 1 (λ both. λ some. further 1 (c ∷ cs) 1
    (behind cs 0 1 (is_is_ascii 10 (get_or cs 0 255) (omega arith) (first_passes (nat_eq 10) cs
    (right_of (nat_eq c 13) (begins (nat_eq 10) cs) both))) refl)) (λ _. λ some. behind (c ∷ cs) 0 1
    (end_is_ascii c h) refl)) (λ _. λ some. absurd (omega arith))

-- a text may be cut behind a line end
pub line_cut : (text : List ℕ) (size end : ℕ) → IsUtf8 text → size ≡ prefix_len is_in_line text
    → end ≡ line_end (drop (prefix_len is_in_line text) text) → 0 < end → IsCharBoundary text (size + end)
line_cut text size end utf8 is found some =
    let here : end ≡ line_end (drop size text) = found ∙ ap (λ (k : ℕ). line_end (drop k text)) (sym is) in
    let ends = line_ends (drop size text) (rw (← here) some) in
    cut_behind text (size + end) utf8 (further size text end (subst (EndsAt (drop size text)) (sym here)
    ends))

white_is_ascii : (c : ℕ) → is_white c ≡ true → c < 128
white_is_ascii c h = grind arith

-- and within its indent
pub indent_cut : (line : List ℕ) (n : ℕ) → IsUtf8 line → n ≤ indent line → IsCharBoundary line n
indent_cut line n utf8 within = cut_in_run is_white white_is_ascii line n utf8 within

-- the last line counts where it is not blank
last_line : (xs : List (List ℕ)) (line : List ℕ)
    → without_blank_end (xs ++ line ∷ []) ≡ cond (is_blank_line line) (without_blank_end xs) (xs ++ line ∷ [])
last_line [] line = refl
last_line (x ∷ xs) line = ap (unless_blank x) (last_line xs line) ∙ by (is_blank_line line)
  where
    goes_on : (ys : List (List ℕ)) → unless_blank x (ys ++ line ∷ []) ≡ x ∷ (ys ++ line ∷ [])
    goes_on [] = refl
    goes_on (y ∷ ys) = refl

    by : (b : Bool)
        → unless_blank x (cond b (without_blank_end xs) (xs ++ line ∷ []))
        ≡ cond b (unless_blank x (without_blank_end xs)) (x ∷ (xs ++ line ∷ []))
    by true = refl
    by false = goes_on xs

-- the same of borrowed lines, where this says whether the last is blank
pub last_of_lines : (rest : List (Bor (List ℕ))) (d : Bor (List ℕ)) (b : Bool)
    → b ≡ is_blank_line (get_or rest (length rest - 1) d).now → 1 ≤ length rest
    → without_blank_end (texts_of rest) ≡ cond b (without_blank_end (texts_of (take (length rest - 1) rest)))
    (texts_of rest)
last_of_lines rest d b is some =
    let n = length rest - 1 in
    let line = (get_or rest n d).now in
    let one : length rest ≡ n + 1 = omega arith in
    let less : n < length rest = omega arith in
    let whole : texts_of rest ≡ texts_of (take n rest) ++ line ∷ [] =
    ap texts_of (sym (take_all (length rest) rest (omega arith)) ∙ ap (λ (k : ℕ). take k rest) one
    ∙ take_more rest n d less) ∙ map-append (λ (text : Bor (List ℕ)). text.now) (take n rest)
    (get_or rest n d ∷ []) in
    ap without_blank_end whole ∙ last_line (texts_of (take n rest)) line
    ∙ ap (λ (t : Bool). cond t (without_blank_end (texts_of (take n rest))) (texts_of (take n rest)
    ++ line ∷ [])) (sym is) ∙ ap (cond b (without_blank_end (texts_of (take n rest)))) (sym whole)
