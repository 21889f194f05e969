-- A sign or a part of a pattern more.
use Rattle.std.proofs.Common.{◌≡◌, ℕ, suc, ◌+◌, ◌-◌, ◌==◌, ◌<◌, ◌≤◌, Bool, true, false, List, [], ◌∷◌}
use Rattle.std.proofs.Common.{length, map, refl, get_or, ap, sym, ◌∙◌, drop, drop-cons, add-one}
use Rattle.std.proofs.Common.{if◌then◌else◌, Vec}
use Rattle.std.proofs.Math.ListN.{drop_of_length-le}
use Rattle.std.specs.declared.alloc.Global.{Global}
use Rattle.named_files.specs.Patterns.{is_any_parts, nothing, one_and_others, part_matches, parts_match}
use Rattle.named_files.specs.Patterns.{sign_matches, some_end, texts}
use Rattle.named_files.specs.Rows.{any_more, one_more, row_behind_part, row_behind_sign, unbegun}
use Rattle.named_files.proofs.RowLemmas.{IsFor, for-any_more, for-one_more, reaches, reaches-any_more}
use Rattle.named_files.proofs.RowLemmas.{reaches-nothing, reaches-one_more}

-- behind so many the next one stands
cut_at : {X : Type 0} (xs : List X) (i : ℕ) (x : X) → i < length xs → x ≡ get_or xs i x
    → drop i xs ≡ x ∷ drop (i + 1) xs
cut_at xs i x within is = rw add-one (drop-cons xs i x within ∙ ap (λ y. y ∷ drop (suc i) xs) (sym is))

-- the row behind a sign is one for the list
for-behind : {X : Type 0} (any : Bool) (one : X → Bool) (row : List Bool) (xs : List X) → IsFor xs row
    → IsFor xs (if any then any_more false row else one_more (map one xs) row)
for-behind true one row xs long = for-any_more xs row long
for-behind false one row xs long = for-one_more one row xs long

-- what the others pass that the row behind a sign reaches
reaches-behind : {X : Type 0} (any : Bool) (one : X → Bool) (passes : List X → Bool) (row : List Bool)
    (xs : List X) → IsFor xs row
    → reaches passes (if any then any_more false row else one_more (map one xs) row) xs
    ≡ reaches (if any then some_end passes else one_and_others one passes) row xs
reaches-behind true one passes row xs long = reaches-any_more passes row xs long
reaches-behind false one passes row xs long = reaches-one_more one passes row xs long

-- one more sign of a part
pub sign_step : (signs part : List ℕ) (i sign : ℕ) (row behind : List Bool) (whole : Bool) → i < length signs
    → sign ≡ get_or signs i sign → IsFor part row → reaches (part_matches (drop i signs)) row part ≡ whole
    → behind ≡ row_behind_sign sign part row
    → IsFor part behind × (reaches (part_matches (drop (i + 1) signs)) behind part ≡ whole)
sign_step signs part i sign row behind whole within is long reached made = (
  ap length made ∙ for-behind (sign == 42) (sign_matches sign) row part long,
  ap (λ r. reaches (part_matches (drop (i + 1) signs)) r part) made
      ∙ reaches-behind (sign == 42) (sign_matches sign) (part_matches (drop (i + 1) signs)) row part long
      ∙ ap (λ l. reaches (part_matches l) row part) (sym (cut_at signs i sign within is)) ∙ reached,
)

-- one more part
pub part_step : (wanted : List (Vec ℕ Global)) (there : List (List ℕ)) (i : ℕ) (part : Vec ℕ Global)
    (row behind : List Bool) (whole : Bool) → i < length wanted → part ≡ get_or wanted i part
    → IsFor there row
    → reaches (parts_match (texts (drop i wanted))) row there ≡ whole
    → behind ≡ row_behind_part part.items there row
    → IsFor there behind × (reaches (parts_match (texts (drop (i + 1) wanted))) behind there ≡ whole)
part_step wanted there i part row behind whole within is long reached made = (
  ap length made ∙ for-behind (is_any_parts part.items) (part_matches part.items) row there long,
  ap (λ r. reaches (parts_match (texts (drop (i + 1) wanted))) r there) made
      ∙ reaches-behind (is_any_parts part.items) (part_matches part.items)
      (parts_match (texts (drop (i + 1) wanted))) row there long
      ∙ ap (λ l. reaches (parts_match (texts l)) row there) (sym (cut_at wanted i part within is)) ∙ reached,
)

-- only the length counts at the start
pub unbegun-texts : (lists : List (Vec ℕ Global)) → unbegun lists ≡ unbegun (texts lists)
unbegun-texts lists = ap (λ l. true ∷ l) (no_flags lists)
  where
    no_flags : (ls : List (Vec ℕ Global)) → map (λ _. false) ls ≡ map (λ _. false) (texts ls)
    no_flags [] = refl
    no_flags (l ∷ ls) = ap (λ m. false ∷ m) (no_flags ls)

-- where nothing of a pattern is left, the last flag of the row says whether the list is at its end
pub at_end : {P X : Type 0} (passes : List P → List X → Bool) (pattern : List P) (xs : List X) (i : ℕ)
    (row : List Bool) (answer : Bool) → passes [] ≡ nothing → length pattern ≤ i → IsFor xs row
    → answer ≡ get_or row (length row - 1) false → answer ≡ reaches (passes (drop i pattern)) row xs
at_end passes pattern xs i row answer empty past long is =
    is ∙ sym (reaches-nothing row xs long) ∙ ap (λ p. reaches p row xs) (sym empty)
    ∙ ap (λ l. reaches (passes l) row xs) (sym (drop_of_length-le pattern past))
