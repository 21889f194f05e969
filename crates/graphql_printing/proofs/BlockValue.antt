-- What a description's block string says: the same however far in it stands.
use Rattle.std.proofs.Common.{◌≡◌, ◌&&◌, ◌||◌, ℕ, Bool, true, false, List, [], ◌∷◌, ◌++◌, Option, None, map}
use Rattle.std.proofs.Common.{cond, refl, sym, ap, ◌∙◌, append_assoc}
use Rattle.std.specs.Prelude.{nat_le, not, if◌then◌else◌}
use Rattle.std.specs.List.{AllByRecursion}
use Rattle.std.specs.Option.{unwrap_or}
use Rattle.std.proofs.lemmas.Bool.{and_parts, not-true}
use Rattle.std.proofs.lemmas.List.{append-nil, map-append}
use Rattle.graphql_tokens.specs.Bytes.{begins}
use Rattle.graphql_tokens.specs.BlockStringValues.{behind_feeds, block_string_value, common_indent, dedented}
use Rattle.graphql_tokens.specs.BlockStringValues.{is_blank_line, is_white, joined, least_indent, lines}
use Rattle.graphql_tokens.specs.BlockStringValues.{unindented, unless_blank, without_blank_end}
use Rattle.graphql_tokens.specs.BlockStringValues.{without_blank_start, without_indent}
use Rattle.graphql_printing.specs.Descriptions.{begins_at_once, block, ends, fits_one_line, further_in}
use Rattle.graphql_printing.specs.Descriptions.{has_line_feed, has_unprintable, is_mark}
use Rattle.graphql_printing.specs.Layout.{line_end}
use Rattle.graphql_printing.specs.Widths.{width}
use Rattle.graphql_printing.proofs.BlockBody.{body, framed, value_is}
use Rattle.graphql_printing.proofs.BlockLines.{HasLines, IsOneLine, blank_drop, blank_more, has_lines}
use Rattle.graphql_printing.proofs.BlockLines.{indented, is_one_line, kept, kept_further_in, lines_further_in}
use Rattle.graphql_printing.proofs.BlockLines.{lines_of, lines_plain, same_further_in}

-- ---- a blank line at the end makes no difference

module _ (blank : List ℕ) (is : is_blank_line blank ≡ true) where
  common_blank : (found : Option ℕ) (ls : List (List ℕ))
      → common_indent found (ls ++ blank ∷ []) ≡ common_indent found ls
  common_blank found [] = rw is refl
  common_blank found (line ∷ ls) = common_blank (least_indent found line) ls

  blank_last : (ls : List (List ℕ)) → without_blank_end (ls ++ blank ∷ []) ≡ without_blank_end ls
  blank_last [] = rw is refl
  blank_last (line ∷ ls) = ap (unless_blank line) (blank_last ls)

  blank_goes : (ls : List (List ℕ))
      → without_blank_end (without_blank_start (ls ++ blank ∷ [])) ≡ without_blank_end (without_blank_start
      ls)
  blank_goes [] = rw is refl
  blank_goes (line ∷ ls) = by (is_blank_line line) (blank_goes ls)
    where
      by : (b : Bool)
          → without_blank_end (without_blank_start (ls ++ blank ∷ []))
          ≡ without_blank_end (without_blank_start ls)
          → without_blank_end (cond b (without_blank_start (ls ++ blank ∷ [])) (line ∷ ls ++ blank ∷ []))
          ≡ without_blank_end (cond b (without_blank_start ls) (line ∷ ls))
      by true more = more
      by false more = blank_last (line ∷ ls)

kept_blank : (ls : List (List ℕ)) → kept (ls ++ [] ∷ []) ≡ kept ls
kept_blank ls = rw (
  common_blank [] refl None ls,
  map-append _ ls ([] ∷ []),
  blank_goes _ (blank_drop _ [] refl) (map (unindented n) ls),
)
  where
    n : ℕ
    n = unwrap_or (common_indent None ls) 0

-- ---- of several lines, and of one

behind_feeds_append : (xs ys : List (List ℕ)) → behind_feeds (xs ++ ys) ≡ behind_feeds xs ++ behind_feeds ys
behind_feeds_append [] ys = refl
behind_feeds_append (x ∷ xs) ys = rw (behind_feeds_append xs ys, append_assoc x _ _)

dedented_lines : (ls : List (List ℕ)) → AllByRecursion IsOneLine ls → dedented (behind_feeds ls) ≡ kept ls
dedented_lines ls plain =
    ap (λ (ts : List (List ℕ)). joined (without_blank_end (without_blank_start (without_indent ts))))
    (lines_of [] ls tt plain)

line_end_is : (n : ℕ) → line_end n ≡ behind_feeds (map (indented n) ([] ∷ []))
line_end_is n = sym (append-nil _) ∙ lines_further_in n ([] ∷ []) (tt, tt)

-- what a text of one line says: nothing where it is blank
abbrev pub alone : List ℕ → List ℕ
alone line = if is_blank_line line then [] else line

one_line_said : (line : List ℕ) (others : List (List ℕ)) → IsOneLine line → AllByRecursion IsOneLine others
    → ((n : ℕ) → without_blank_end (without_blank_start (line ∷ map (unindented n) others))
    ≡ without_blank_end (without_blank_start (line ∷ [])))
    → dedented (line ++ behind_feeds others) ≡ alone line
one_line_said line others plain more gone = simp (lines_of, gone, by)
  where
    by : (b : Bool) → is_blank_line line ≡ b
        → joined (without_blank_end (cond b [] (line ∷ []))) ≡ (if b then [] else line)
    by true is = refl
    by false is = rw is (append-nil line)

-- ---- the body of a description's block string

-- what a description's block string says
abbrev pub said_by_block : List ℕ → List ℕ
said_by_block text = if fits_one_line text || begins_at_once text then alone text else kept (lines text)

module _ (n : ℕ) (text : List ℕ) (printable : has_unprintable text ≡ false) where
  alone_said : has_line_feed text ≡ false → dedented (further_in n text) ≡ alone text
  alone_said none = ap dedented (same_further_in n text printable none ∙ sym (append-nil text))
      ∙ one_line_said text [] (is_one_line text printable none) tt (λ _. refl)

  blanks_gone : (k : ℕ)
      → without_blank_end (without_blank_start (text ∷ unindented k (indented n []) ∷ []))
      ≡ without_blank_end (without_blank_start (text ∷ []))
  blanks_gone k = blank_goes (unindented k (indented n [])) (blank_drop _ (indented n []) (blank_more n []))
      (text ∷ [])

  first_said : has_line_feed text ≡ false → dedented (further_in n text ++ line_end n) ≡ alone text
  first_said none = ap (λ (t : List ℕ). dedented (t ++ line_end n)) (same_further_in n text printable none)
      ∙ ap (λ (t : List ℕ). dedented (text ++ t)) (line_end_is n)
      ∙ one_line_said text (map (indented n) ([] ∷ [])) (is_one_line text printable none)
      (lines_plain n ([] ∷ []) (tt, tt)) blanks_gone

  lines_said : HasLines text → dedented (line_end n ++ further_in n text ++ line_end n) ≡ kept (lines text)
  lines_said has =
      let ls = has.first ∷ has.others in
      let plain : AllByRecursion IsOneLine ls = (has.first_plain, has.others_plain) in
      let front : line_end n ++ further_in n text ≡ behind_feeds (map (indented n) ls) =
      ap (λ (t : List ℕ). line_end n ++ further_in n t) has.text_is ∙ lines_further_in n ls plain in
      let whole : line_end n ++ further_in n text ++ line_end n
      ≡ behind_feeds (map (indented n) (ls ++ [] ∷ [])) = ap (λ (t : List ℕ). t ++ line_end n) front
      ∙ ap (λ (t : List ℕ). behind_feeds (map (indented n) ls) ++ t) (line_end_is n)
      ∙ sym (behind_feeds_append (map (indented n) ls) _)
      ∙ ap behind_feeds (sym (map-append (indented n) ls ([] ∷ []))) in
      ap dedented whole ∙ dedented_lines (map (indented n) (ls ++ [] ∷ [])) (lines_plain n
      (ls ++ [] ∷ []) (plain_more ls plain)) ∙ kept_further_in n (ls ++ [] ∷ []) ∙ kept_blank ls
      ∙ ap kept (sym has.lines_are)
    where
      plain_more : (ls : List (List ℕ)) → AllByRecursion IsOneLine ls
          → AllByRecursion IsOneLine (ls ++ [] ∷ [])
      plain_more [] h = (tt, tt)
      plain_more (line ∷ ls) h = (h.0, plain_more ls h.1)

  pub body_says : dedented (body n text) ≡ said_by_block text
  body_says = by (fits_one_line text) (begins_at_once text) refl refl
    where
      by : (f b : Bool) → fits_one_line text ≡ f → begins_at_once text ≡ b
          → dedented (framed f b n (further_in n text)) ≡ (if f || b then alone text else kept (lines text))
      by true b fits at_once =
          alone_said (not-true (has_line_feed text) (and_parts (not (has_line_feed text))
          (nat_le (width text) 70 && not (ends is_mark text)) fits).0)
      by false true fits at_once =
          first_said (not-true (has_line_feed text) (and_parts (not (has_line_feed text))
          (begins is_white text) at_once).0)
      by false false fits at_once = lines_said (has_lines text printable)

  pub block_says : block_string_value (block n text) ≡ said_by_block text
  block_says = value_is n text printable ∙ body_says
