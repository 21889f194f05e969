-- The lines of a block string's body, and what they are without their common indent.
use Rattle.std.proofs.Common.{◌≡◌, ◌+◌, ℕ, zero, suc, Bool, true, false, List, [], ◌∷◌, ◌++◌, Option, None}
use Rattle.std.proofs.Common.{Some, length, drop, map, min, cond, nat_eq, replicate, refl, sym, ap, subst}
use Rattle.std.proofs.Common.{◌∙◌, arith, append_assoc}
use Rattle.std.specs.List.{AllByRecursion}
use Rattle.std.specs.Option.{option_map, option_map_or, unwrap_or}
use Rattle.std.proofs.lemmas.Bool.{eqb-true, or_parts}
use Rattle.std.proofs.lemmas.Bool.Decides.{nat_tests}
use Rattle.std.proofs.lemmas.List.{append-nil, drop-drop, drop_at, length-replicate}
use Rattle.graphql_tokens.specs.Bytes.{is_line_end}
use Rattle.graphql_tokens.specs.BlockStringValues.{behind_feeds, common_indent, indent, is_blank_line, joined}
use Rattle.graphql_tokens.specs.BlockStringValues.{least_indent, lines, longer_first, unindented}
use Rattle.graphql_tokens.specs.BlockStringValues.{without_blank_end, without_blank_start}
use Rattle.graphql_printing.specs.Descriptions.{further_in, has_line_feed, has_unprintable, is_unprintable}

-- no byte ends a line
abbrev pub IsOneLine : List ℕ → Type 0
IsOneLine line = AllByRecursion (λ c. is_line_end c ≡ false) line

-- ---- lines that are joined are the lines again

one_line_first : (line rest first : List ℕ) (others : List (List ℕ)) → IsOneLine line
    → lines rest ≡ first ∷ others → lines (line ++ rest) ≡ (line ++ first) ∷ others
one_line_first [] rest first others plain is = is
one_line_first (c ∷ cs) rest first others plain is =
    rw plain.0 (ap (longer_first c) (one_line_first cs rest first others plain.1 is))

pub lines_of : (line : List ℕ) (others : List (List ℕ)) → IsOneLine line → AllByRecursion IsOneLine others
    → lines (line ++ behind_feeds others) ≡ line ∷ others
lines_of line [] plain more = rw (one_line_first line [] [] [] plain refl, append-nil line)
lines_of line (next ∷ others) plain more = rw (
  one_line_first line _ [] (next ∷ others) plain
      (ap (λ (ls : List (List ℕ)). [] ∷ ls) (lines_of next others more.0 more.1)),
  append-nil line,
)

-- ---- a text without carriage returns is its lines, joined

pub record HasLines (text : List ℕ) : Type 0 where
  pub first : List ℕ
  pub others : List (List ℕ)
  pub lines_are : lines text ≡ first ∷ others
  pub text_is : text ≡ first ++ behind_feeds others
  pub first_plain : IsOneLine first
  pub others_plain : AllByRecursion IsOneLine others

-- a byte that no line end and no control character is
plain_byte : (c : ℕ) (cs : List ℕ) → has_unprintable (c ∷ cs) ≡ false → nat_eq c 10 ≡ false
    → is_line_end c ≡ false
plain_byte c cs h other =
    let parts = or_parts _ _ h in
    let first = or_parts _ _ parts.0 in
    by c first.0 other
  where
    by : (c : ℕ) → is_unprintable c ≡ false → nat_eq c 10 ≡ false → is_line_end c ≡ false
    by c h other = grind (arith, other, h)

pub has_lines : (text : List ℕ) → has_unprintable text ≡ false → HasLines text
has_lines [] h = record {
  first = [];
  others = [];
  lines_are = refl;
  text_is = refl;
  first_plain = tt;
  others_plain = tt;
}
has_lines (c ∷ cs) h =
    let parts = or_parts _ _ h in
    by _ refl (has_lines cs parts.1)
  where
    by : (b : Bool) → nat_eq c 10 ≡ b → HasLines cs → HasLines (c ∷ cs)
    by true is more = subst (λ (d : ℕ). HasLines (d ∷ cs)) (sym (eqb-true c 10 is)) (record {
      first = [];
      others = more.first ∷ more.others;
      lines_are = ap (λ (ls : List (List ℕ)). [] ∷ ls) more.lines_are;
      text_is = ap (λ (t : List ℕ). 10 ∷ t) more.text_is;
      first_plain = tt;
      others_plain = (more.first_plain, more.others_plain);
    })
    by false is more = record {
      first = c ∷ more.first;
      others = more.others;
      lines_are = rw (plain_byte c cs h is) (ap (longer_first c) more.lines_are);
      text_is = ap (λ (t : List ℕ). c ∷ t) more.text_is;
      first_plain = (plain_byte c cs h is, more.first_plain);
      others_plain = more.others_plain;
    }

-- ---- a text further in is its lines, all but the first with blanks in front

pub one_line_further_in : (n : ℕ) (line rest : List ℕ) → IsOneLine line
    → further_in n (line ++ rest) ≡ line ++ further_in n rest
one_line_further_in n [] rest plain = refl
one_line_further_in n (c ∷ cs) rest plain = rw (or_parts _ (nat_eq c 13) plain.0).0
    (ap (λ (t : List ℕ). c ∷ t) (one_line_further_in n cs rest plain.1))

pub is_one_line : (text : List ℕ) → has_unprintable text ≡ false → has_line_feed text ≡ false → IsOneLine text
is_one_line [] h none = tt
is_one_line (c ∷ cs) h none =
    let parts = or_parts _ _ h in
    let bytes = or_parts _ _ none in
    (plain_byte c cs h (other c bytes.0), is_one_line cs parts.1 bytes.1)
  where
    other : (c : ℕ) → nat_eq 10 c ≡ false → nat_eq c 10 ≡ false
    other c h = grind (arith, h)

pub same_further_in : (n : ℕ) (text : List ℕ) → has_unprintable text ≡ false → has_line_feed text ≡ false
    → further_in n text ≡ text
same_further_in n text h none =
    grind (arith, append-nil text, one_line_further_in n text [] (is_one_line text h none))

-- a line with so many blanks in front
abbrev pub indented : ℕ → List ℕ → List ℕ
indented n line = replicate n 32 ++ line

pub lines_further_in : (n : ℕ) (ls : List (List ℕ)) → AllByRecursion IsOneLine ls
    → further_in n (behind_feeds ls) ≡ behind_feeds (map (indented n) ls)
lines_further_in n [] plain = refl
lines_further_in n (line ∷ ls) plain =
    rw (one_line_further_in n line _ plain.0, lines_further_in n ls plain.1, append_assoc _ line _)

indented_plain : (n : ℕ) (line : List ℕ) → IsOneLine line → IsOneLine (indented n line)
indented_plain zero line plain = plain
indented_plain (suc n) line plain = (refl, indented_plain n line plain)

pub lines_plain : (n : ℕ) (ls : List (List ℕ)) → AllByRecursion IsOneLine ls
    → AllByRecursion IsOneLine (map (indented n) ls)
lines_plain n [] plain = tt
lines_plain n (line ∷ ls) plain = (indented_plain n line plain.0, lines_plain n ls plain.1)

-- ---- blanks in front of all lines make no difference

-- what lines are without their common indent, and without the blank ones at both ends
abbrev pub kept : List (List ℕ) → List ℕ
kept ls = joined (without_blank_end
    (without_blank_start (map (unindented (unwrap_or (common_indent None ls) 0)) ls)))

indent_more : (n : ℕ) (line : List ℕ) → indent (indented n line) ≡ n + indent line
indent_more zero line = omega arith
indent_more (suc n) line = let more = indent_more n line in omega (arith, more)

length_more : (n : ℕ) (line : List ℕ) → length (indented n line) ≡ n + length line
length_more zero line = omega arith
length_more (suc n) line = let more = length_more n line in omega (arith, more)

same_more : (n a b : ℕ) → nat_eq (n + a) (n + b) ≡ nat_eq a b
same_more n a b = grind (arith, nat_tests)

pub blank_more : (n : ℕ) (line : List ℕ) → is_blank_line (indented n line) ≡ is_blank_line line
blank_more n line = simp (indent_more, length_more, same_more)

unindented_more : (n m : ℕ) (line : List ℕ) → unindented (n + m) (indented n line) ≡ unindented m line
unindented_more n m line = ap (λ (i : ℕ). drop (min (n + m) i) (indented n line)) (indent_more n line)
    ∙ ap (λ (i : ℕ). drop i (indented n line)) (least n m _) ∙ sym (drop-drop _ n _)
    ∙ ap (drop (min m (indent line))) (drop_at _ line n (length-replicate n 32))
  where
    least : (n a b : ℕ) → min (n + a) (n + b) ≡ n + min a b
    least n a b = omega arith

least_more : (n : ℕ) (found : Option ℕ) (line : List ℕ)
    → least_indent (option_map (λ i. n + i) found) (indented n line)
    ≡ option_map (λ i. n + i) (least_indent found line)
least_more n found line = simp (blank_more, by)
  where
    here : Option ℕ
    here = Some (option_map_or (min (indent (indented n line))) (option_map (λ i. n + i) found)
        (indent (indented n line)))

    by : (b : Bool) (found : Option ℕ)
        → cond b (option_map (λ i. n + i) found)
        (Some (option_map_or (min (indent (indented n line))) (option_map (λ i. n + i) found)
        (indent (indented n line)))) ≡ option_map (λ i. n
        + i) (cond b found (Some (option_map_or (min (indent line)) found (indent line))))
    by true found = refl
    by false None = ap (λ (i : ℕ). Some i) (indent_more n line)
    by false (Some k) =
        let more = indent_more n line in
        let least : min _ (n + k) ≡ n + min _ k = omega (arith, more) in
        ap (λ (i : ℕ). Some i) least

common_more : (n : ℕ) (found : Option ℕ) (ls : List (List ℕ))
    → common_indent (option_map (λ i. n + i) found) (map (indented n) ls)
    ≡ option_map (λ i. n + i) (common_indent found ls)
common_more n found [] = refl
common_more n found (line ∷ ls) =
    grind (arith, least_more n found line, common_more n (least_indent found line) ls)

-- a blank line stays blank with less in front
blank_behind : (c : ℕ) (cs : List ℕ) → is_blank_line (c ∷ cs) ≡ true → is_blank_line cs ≡ true
blank_behind c cs h = grind (arith, h)

pub blank_drop : (n : ℕ) (line : List ℕ) → is_blank_line line ≡ true → is_blank_line (drop n line) ≡ true
blank_drop zero line h = h
blank_drop (suc n) [] h = refl
blank_drop (suc n) (c ∷ cs) h = blank_drop n cs (blank_behind c cs h)

-- once a line was found that is not blank, there is a common indent
found_stays : (k : ℕ) (ls : List (List ℕ)) → common_indent (Some k) ls ≡ None → ⊥
found_stays k [] h = absurd cc
found_stays k (line ∷ ls) h = by (is_blank_line line) (λ n. found_stays n ls) h
  where
    by : (b : Bool) → ((n : ℕ) → common_indent (Some n) ls ≡ None → ⊥)
        → common_indent (cond b (Some k) (Some (min (indent line) k))) ls ≡ None → ⊥
    by true more h = more k h
    by false more h = more (min (indent line) k) h

-- or else all are blank
pub none_left : (n : ℕ) (ls : List (List ℕ)) → common_indent None ls ≡ None
    → without_blank_start (map (unindented n) ls) ≡ []
none_left n [] h = refl
none_left n (line ∷ ls) h = by (is_blank_line line) refl (none_left n ls) h
  where
    by : (b : Bool) → is_blank_line line ≡ b
        → (common_indent None ls ≡ None → without_blank_start (map (unindented n) ls) ≡ [])
        → common_indent (cond b None (Some (indent line))) ls ≡ None
        → without_blank_start (map (unindented n) (line ∷ ls)) ≡ []
    by true is more h = rw (blank_drop _ line is) (more h)
    by false is more h = absurd (found_stays _ ls h)

unindented_lines : (n m : ℕ) (ls : List (List ℕ))
    → map (unindented (n + m)) (map (indented n) ls) ≡ map (unindented m) ls
unindented_lines n m [] = refl
unindented_lines n m (line ∷ ls) = simp (unindented_more n m line, unindented_lines n m ls)

pub kept_further_in : (n : ℕ) (ls : List (List ℕ)) → kept (map (indented n) ls) ≡ kept ls
kept_further_in n ls = by (common_indent None ls) refl (common_more n None ls)
  where
    by : (found : Option ℕ) → common_indent None ls ≡ found
        → common_indent None (map (indented n) ls) ≡ option_map (λ i. n + i) (common_indent None ls)
        → kept (map (indented n) ls) ≡ kept ls
    by None is more =
        let none = more ∙ ap (option_map (λ i. n + i)) is in
        ap (λ (ts : List (List ℕ)). joined (without_blank_end ts)) (none_left _ (map (indented n) ls) none
        ∙ sym (none_left _ ls is))
    by (Some m) is more =
        let some : common_indent None (map (indented n) ls) ≡ Some (n + m) =
        more ∙ ap (option_map (λ i. n + i)) is in
        rw (some, is) (ap (λ (ts : List (List ℕ)). joined (without_blank_end (without_blank_start ts)))
        (unindented_lines n m ls))
