-- Which lines stay as they are without their common indent, and without the blank ones at both ends.
use Rattle.std.proofs.Common.{◌≡◌, ◌+◌, ◌-◌, ◌<◌, ◌≤◌, ◌&&◌, ◌⊎◌, ℕ, suc, Bool, true, false, List, [], ◌∷◌}
use Rattle.std.proofs.Common.{Option, None, Some, length, drop, map, min, cond, inl, inr, refl, sym, ap, ◌∙◌}
use Rattle.std.proofs.Common.{arith, length-append, length-drop}
use Rattle.std.specs.Prelude.{not}
use Rattle.std.specs.Bool.{Decides}
use Rattle.std.specs.List.{list_any}
use Rattle.std.specs.Option.{option_map_or, unwrap_or}
use Rattle.std.proofs.lemmas.Bool.{and_from, and_parts, false_from_ne_true, false≢true, ne_eqb, not-true}
use Rattle.std.proofs.lemmas.Bool.{not_from_false, or_cases, or_left, or_right}
use Rattle.std.proofs.lemmas.List.Sums.{prefix_len-le-length}
use Rattle.graphql_tokens.specs.BlockStringValues.{behind_feeds, common_indent, indent, is_blank_line}
use Rattle.graphql_tokens.specs.BlockStringValues.{is_white, joined, least_indent, unindented, unless_blank}
use Rattle.graphql_tokens.specs.BlockStringValues.{without_blank_end, without_blank_start}
use Rattle.graphql_printing.specs.BlockTest.{first_is_blank, is_outer, last_is_blank}
use Rattle.graphql_printing.proofs.BlockLines.{kept, none_left}

-- whether neither the last line nor the first is blank, and one has no indent
abbrev pub stay : List (List ℕ) → Bool
stay ls = not (last_is_blank ls) && (not (first_is_blank ls) && list_any is_outer ls)

-- how many bytes lines are, each behind a line feed
size : List (List ℕ) → ℕ
size ls = length (behind_feeds ls)

size_more : (line : List ℕ) (ls : List (List ℕ)) → size (line ∷ ls) ≡ 1 + length line + size ls
unfolding size
size_more line ls = let parts = length-append line (behind_feeds ls) in omega (arith, parts)

size_of_joined : (ls : List (List ℕ)) → 0 < length (joined ls) → size ls ≡ suc (length (joined ls))
unfolding size
size_of_joined [] some = absurd (omega (arith, some))
size_of_joined (line ∷ ls) some = refl

-- ---- blank lines in front

start_le : (ls : List (List ℕ)) → size (without_blank_start ls) ≤ size ls
start_le [] = omega arith
start_le (line ∷ ls) = grind (arith, (start_le ls), (size_more line ls))

start_lt : (ls : List (List ℕ)) → first_is_blank ls ≡ true → 0 < size ls
    → size (without_blank_start ls) < size ls
unfolding size
start_lt [] h some = absurd (omega (arith, some))
start_lt (line ∷ ls) h some =
    rw h (let less = start_le ls in let whole = size_more line ls in omega (arith, less, whole))

start_same : (ls : List (List ℕ)) → first_is_blank ls ≡ false → without_blank_start ls ≡ ls
start_same [] h = absurd (false≢true (sym h))
start_same (line ∷ ls) h = rw h refl

-- ---- blank lines at the end

unless_le : (line : List ℕ) (ls : List (List ℕ)) → size (unless_blank line ls) ≤ 1 + length line + size ls
unless_le line [] = by (is_blank_line line) (size_more line [])
  where
    by : (b : Bool) → size (line ∷ []) ≡ 1 + length line + size []
        → size (cond b [] (line ∷ [])) ≤ 1 + length line + size []
    by true whole = omega arith
    by false whole = omega (arith, whole)
unless_le line (next ∷ ls) = let whole = size_more line (next ∷ ls) in omega (arith, whole)

end_le : (ls : List (List ℕ)) → size (without_blank_end ls) ≤ size ls
end_le [] = omega arith
end_le (line ∷ ls) =
    let more = end_le ls in
    let one = unless_le line (without_blank_end ls) in
    let whole = size_more line ls in
    omega (arith, more, one, whole)

end_lt : (ls : List (List ℕ)) → last_is_blank ls ≡ true → 0 < size ls → size (without_blank_end ls) < size ls
unfolding size
end_lt [] h some = some
end_lt (line ∷ []) h some = rw h some
end_lt (line ∷ next ∷ ls) h some =
    let here = size_more next ls in
    let more = end_lt (next ∷ ls) h (omega (arith, here)) in
    let one = unless_le line (without_blank_end (next ∷ ls)) in
    let whole = size_more line (next ∷ ls) in
    omega (arith, more, one, whole)

end_same : (ls : List (List ℕ)) → last_is_blank ls ≡ false → without_blank_end ls ≡ ls
end_same [] h = absurd (false≢true (sym h))
end_same (line ∷ []) h = rw h refl
end_same (line ∷ next ∷ ls) h = ap (unless_blank line) (end_same (next ∷ ls) h)

-- ---- the common indent

unindented_length : (m : ℕ) (line : List ℕ) → length (unindented m line) ≡ length line - min m (indent line)
unindented_length m line = length-drop _ line

map_le : (m : ℕ) (ls : List (List ℕ)) → size (map (unindented m) ls) ≤ size ls
map_le m [] = omega arith
map_le m (line ∷ ls) =
    let more = map_le m ls in
    let here = unindented_length m line in
    let before = size_more line ls in
    let after = size_more (unindented m line) (map (unindented m) ls) in
    omega (arith, more, here, before, after)

-- no indent is taken from such lines
map_none : (ls : List (List ℕ)) → map (unindented 0) ls ≡ ls
map_none [] = refl
map_none (line ∷ ls) =
    let none : min 0 (indent line) ≡ 0 = omega arith in
    ap (λ (n : ℕ). drop n line ∷ map (unindented 0) ls) none
    ∙ ap (λ (ts : List (List ℕ)). line ∷ ts) (map_none ls)

-- a line that is not blank, and has no indent
outer_line : (line : List ℕ) → is_blank_line line ≡ false → indent line ≡ 0 → is_outer line ≡ true
outer_line [] h none = absurd (false≢true (sym h))
outer_line (c ∷ cs) h none = grind (arith, none)

-- and the other way round
outer_indent : (line : List ℕ) → is_outer line ≡ true → indent line ≡ 0
outer_indent [] h = refl
outer_indent (c ∷ cs) h = rw (not-true _ h) refl

pub outer_not_blank : (line : List ℕ) → is_outer line ≡ true → is_blank_line line ≡ false
outer_not_blank [] h = absurd (false≢true h)
outer_not_blank (c ∷ cs) h = rw (not-true _ h) (ne_eqb 0 (suc (length cs)) (λ e. omega (arith, e)))

-- a common indent is that of one line, which loses it
record Least (m : ℕ) (ls : List (List ℕ)) : Type 0 where
  loses : size (map (unindented m) ls) + m ≤ size ls
  outer : m ≡ 0 → list_any is_outer ls ≡ true

least_here : (m : ℕ) (line : List ℕ) (ls : List (List ℕ)) → is_blank_line line ≡ false → indent line ≡ m
    → Least m (line ∷ ls)
least_here m line ls other is = record {
  loses =
      let more = map_le m ls in
      let here = unindented_length m line in
      let within = prefix_len-le-length is_white line in
      let before = size_more line ls in
      let after = size_more (unindented m line) (map (unindented m) ls) in
      omega (arith, more, here, within, before, after, is);
  outer = λ none. or_left _ _ (outer_line line other (is ∙ none));
}

least_behind : (m : ℕ) (line : List ℕ) (ls : List (List ℕ)) → Least m ls → Least m (line ∷ ls)
least_behind m line ls least = record {
  loses =
      let more = least.loses in
      let here = unindented_length m line in
      let before = size_more line ls in
      let after = size_more (unindented m line) (map (unindented m) ls) in
      omega (arith, more, here, before, after);
  outer = λ none. or_right _ _ (least.outer none);
}

some_is : (a b : ℕ) → Some a ≡ Some b → a ≡ b
some_is a b h = cc

least_of : (found : Option ℕ) (line : List ℕ) (ls : List (List ℕ)) (m : ℕ) → least_indent found line ≡ Some m
    → (found ≡ Some m) ⊎ Least m (line ∷ ls)
least_of found line ls m = by (is_blank_line line) refl found
  where
    one_of : (a b m : ℕ) → min a b ≡ m → (b ≡ m) ⊎ (a ≡ m)
    one_of a b m h = grind (arith, h)

    by : (b : Bool) → is_blank_line line ≡ b → (found : Option ℕ)
        → cond b found (Some (option_map_or (min (indent line)) found (indent line))) ≡ Some m
        → (found ≡ Some m) ⊎ Least m (line ∷ ls)
    by true is found h = inl h
    by false is None h = inr (least_here m line ls is (some_is _ m h))
    by false is (Some k) h = elim (one_of _ k m (some_is _ m h)) [
      | inl old ↦ inl (ap (λ (n : ℕ). Some n) old)
      | inr new ↦ inr (least_here m line ls is new)
    ]

least_found : (found : Option ℕ) (ls : List (List ℕ)) (m : ℕ) → common_indent found ls ≡ Some m
    → (found ≡ Some m) ⊎ Least m ls
least_found found [] m h = inl h
least_found found (line ∷ ls) m h = elim (least_found (least_indent found line) ls m h) [
  | inl here ↦ least_of found line ls m here
  | inr behind ↦ inr (least_behind m line ls behind)
]

-- where a line has no indent, there is none that all have
none_stays : (ls : List (List ℕ)) → common_indent (Some 0) ls ≡ Some 0
none_stays [] = refl
none_stays (line ∷ ls) = by (is_blank_line line) ∙ none_stays ls
  where
    by : (b : Bool)
        → common_indent (cond b (Some 0) (Some (min (indent line) 0))) ls ≡ common_indent (Some 0) ls
    by true = refl
    by false = let none : min _ 0 ≡ 0 = omega arith in ap (λ (n : ℕ). common_indent (Some n) ls) none

none_at : (found : Option ℕ) (line : List ℕ) → is_outer line ≡ true → least_indent found line ≡ Some 0
none_at found line outer = rw (outer_not_blank line outer) (by found (outer_indent line outer))
  where
    by : (found : Option ℕ) → indent line ≡ 0
        → Some (option_map_or (min (indent line)) found (indent line)) ≡ Some 0
    by None none = ap (λ (n : ℕ). Some n) none
    by (Some k) none = let least : min _ k ≡ 0 = omega (arith, none) in ap (λ (n : ℕ). Some n) least

none_common : (found : Option ℕ) (ls : List (List ℕ)) → list_any is_outer ls ≡ true
    → common_indent found ls ≡ Some 0
none_common found [] h = absurd (false≢true h)
none_common found (line ∷ ls) h = elim (or_cases _ _ h) [
  | inl here ↦ ap (λ (f : Option ℕ). common_indent f ls) (none_at found line here) ∙ none_stays ls
  | inr behind ↦ none_common (least_indent found line) ls behind
]

-- ---- both ways

stays_same : (ls : List (List ℕ)) → stay ls ≡ true → kept ls ≡ joined ls
stays_same ls h =
    let parts = and_parts _ _ h in
    let others = and_parts _ _ parts.1 in
    ap (λ (f : Option ℕ). joined
    (without_blank_end (without_blank_start (map (unindented (unwrap_or f 0)) ls))))
    (none_common None ls others.1)
    ∙ ap (λ (ts : List (List ℕ)). joined (without_blank_end (without_blank_start ts))) (map_none ls)
    ∙ ap (λ (ts : List (List ℕ)). joined (without_blank_end ts)) (start_same ls (not-true _ others.0))
    ∙ ap joined (end_same ls (not-true _ parts.0))

-- without an indent, as many bytes are left only where the first line and the last one are
ends_left : (ls : List (List ℕ)) → 0 < size ls → size (without_blank_end (without_blank_start ls)) ≡ size ls
    → (first_is_blank ls ≡ false) × (last_is_blank ls ≡ false)
ends_left ls some same =
    let first : first_is_blank ls ≡ false = false_from_ne_true _ (λ blank.
    let less = start_lt ls blank some in
    let more = end_le (without_blank_start ls) in
    omega (arith, less, more, same)) in
    let start = start_same ls first in (
      first,
      false_from_ne_true _ (λ blank.
          let less = end_lt ls blank some in
          let whole = ap (λ (ts : List (List ℕ)). size (without_blank_end ts)) start in
          omega (arith, less, whole, same)),
    )

same_stays : (ls : List (List ℕ)) → 0 < length (joined ls) → kept ls ≡ joined ls → stay ls ≡ true
same_stays ls some same = by (common_indent None ls) refl same
  where
    by : (f : Option ℕ) → common_indent None ls ≡ f
        → joined (without_blank_end (without_blank_start (map (unindented (unwrap_or f 0)) ls))) ≡ joined ls
        → stay ls ≡ true
    by None is same =
        let nothing = ap (λ (ts : List (List ℕ)). length (joined (without_blank_end ts)))
        (none_left 0 ls is) in
        let long = ap (λ (t : List ℕ). length t) same in
        absurd (omega (arith, some, nothing, long))
    by (Some m) is same =
        let left = without_blank_end (without_blank_start (map (unindented m) ls)) in
        let long = ap (λ (t : List ℕ). length t) same in
        let whole = size_of_joined ls some in
        let part = size_of_joined left (omega (arith, some, long)) in
        let least = elim (least_found None ls m is) as (λ _. Least m ls)
        [ inl never ↦ absurd (no_indent m never) | inr found ↦ found ] in
        let loses = least.loses in
        let end = end_le (without_blank_start (map (unindented m) ls)) in
        let start = start_le (map (unindented m) ls) in
        let none : m ≡ 0 = omega (arith, long, whole, part, loses, end, start) in
        let lines : map (unindented m) ls ≡ ls = ap (λ (n : ℕ). map (unindented n) ls) none ∙ map_none ls in
        let counted : size (without_blank_end (without_blank_start ls)) ≡ size ls =
        let here = ap (λ (ts : List (List ℕ)). size (without_blank_end (without_blank_start ts))) lines in
        omega (arith, here, long, whole, part) in
        let both = ends_left ls (omega (arith, whole)) counted in
        and_from (not (last_is_blank ls)) (not (first_is_blank ls) && list_any is_outer ls)
        (not_from_false (last_is_blank ls) both.1) (and_from (not (first_is_blank ls))
        (list_any is_outer ls) (not_from_false (first_is_blank ls) both.0) (least.outer none))
      where
        no_indent : (m : ℕ) → None ≡ Some m → ⊥
        no_indent m h = cc

-- lines that are not nothing stay exactly where the test says so
pub stay_decides : (ls : List (List ℕ)) → 0 < length (joined ls) → Decides (stay ls) (kept ls ≡ joined ls)
stay_decides ls some = (stays_same ls, same_stays ls some)
