-- Patterns that may match below a folder.
use Rattle.std.proofs.Common.{◌≡◌, ◌≢◌, ℕ, ◌==◌, Bool, true, false, ◌&&◌, List, [], ◌∷◌, ◌++◌}
use Rattle.std.proofs.Common.{if◌then◌else◌, length, map, refl, arith, ap, sym, ◌∙◌, cond}
use Rattle.std.proofs.Common.{◌≤◌, drop, not, IfOk, Result, Ok, Err, Vec}
use Rattle.std.proofs.Math.ListN.{drop_of_length-le}
use Rattle.std.proofs.lemmas.Bool.Decides.{nat_tests}
use Rattle.std.specs.declared.alloc.Global.{Global}
use Rattle.std.specs.List.{onto_first, slice_split}
use Rattle.std.specs.Str.{chars}
use Rattle.std.proofs.lemmas.List.{map-append}
use Rattle.std.proofs.lemmas.List.Splits.{length-slice_split, slice_split-cons_yes}
use Rattle.named_files.specs.Patterns.{is_any_parts, matches, may_match_below, one_and_others, part_matches}
use Rattle.named_files.specs.Patterns.{parts, parts_begin, parts_match, some_end, texts}

-- what is put onto the first part stays in front of what is behind
onto_front : (x : ℕ) (one two : List (List ℕ)) → length one ≢ 0
    → onto_first x (one ++ two) ≡ onto_first x one ++ two
onto_front x [] two some = absurd (some refl)
onto_front x (part ∷ one) two some = refl

-- there is a part at least
some_part : (p : ℕ → Bool) (xs : List ℕ) → length (slice_split p xs) ≢ 0
some_part p xs e = let l = length-slice_split p xs in absurd (omega (arith, e, l))

cut_or_put : (cuts : Bool) (x : ℕ) (one two : List (List ℕ)) → length one ≢ 0
    → cond cuts ([] ∷ (one ++ two)) (onto_first x (one ++ two))
    ≡ cond cuts ([] ∷ one) (onto_first x one) ++ two
cut_or_put true x one two some = refl
cut_or_put false x one two some = onto_front x one two some

-- a list is cut where two are joined by what it is cut at
split_joined : (p : ℕ → Bool) (xs : List ℕ) (y : ℕ) (ys : List ℕ) → p y ≡ true
    → slice_split p (xs ++ y ∷ ys) ≡ slice_split p xs ++ slice_split p ys
split_joined p [] y ys cuts = slice_split-cons_yes p y ys cuts
split_joined p (x ∷ xs) y ys cuts =
    ap (λ l. cond (p x) ([] ∷ l) (onto_first x l)) (split_joined p xs y ys cuts)
    ∙ cut_or_put (p x) x (slice_split p xs) (slice_split p ys) (some_part p xs)

-- where a part stands for any and does not begin, or for one that does not pass, nothing passes
step : {X : Type 0} (any one begins : Bool) (some_of one_of : List X → Bool) (xs : List X) (rest : Bool)
    → (if any then true else one && begins) ≡ false → one_of xs ≡ (one && rest)
    → (begins ≡ false → rest ≡ false)
    → (if any then some_of else one_of) xs ≡ false
step true one begins some_of one_of xs rest e is more = cc
step false true begins some_of one_of xs rest e is more = is ∙ more e
step false false begins some_of one_of xs rest e is more = is

-- with more behind it nothing matches that can't begin
none-parts : (wanted there behind : List (List ℕ)) → length behind ≢ 0 → parts_begin wanted there ≡ false
    → parts_match wanted (there ++ behind) ≡ false
none-parts [] [] [] some e = absurd (some refl)
none-parts [] [] (text ∷ behind) some e = refl
none-parts [] (text ∷ there) behind some e = refl
none-parts (part ∷ more) [] behind some e = cc
none-parts (part ∷ more) (text ∷ there) behind some e =
    step (is_any_parts part) (part_matches part text) (parts_begin more there) (some_end (parts_match more))
    (one_and_others (part_matches part) (parts_match more)) (text ∷ (there ++ behind))
    (parts_match more (there ++ behind)) e refl (none-parts more there behind some)

length-texts : (texts : List (List ℕ)) → length texts ≢ 0 → length (map chars texts) ≢ 0
length-texts [] some = some
length-texts (text ∷ texts) some = λ e. absurd (omega (arith, e))

-- so no path below the folder matches
pub none-below : (pattern folder : List ℕ) (answer : Bool) → answer ≡ may_match_below pattern folder
    → answer ≡ false → (rest : List ℕ) → matches pattern (folder ++ 47 ∷ rest) ≡ false
none-below pattern folder answer is e rest =
    ap (λ l. parts_match (parts pattern) (map chars l))
    (split_joined (λ byte. byte == 47) folder 47 rest refl)
    ∙ ap (parts_match (parts pattern))
    (map-append chars (slice_split (λ byte. byte == 47) folder) (slice_split (λ byte. byte == 47) rest))
    ∙ none-parts (parts pattern) (parts folder) (parts rest)
    (length-texts (slice_split (λ byte. byte == 47) rest) (some_part (λ byte. byte == 47) rest)) (sym is ∙ e)

-- at the end of a folder's parts something has to be left of the pattern
pub begins-at_end : (wanted : List (Vec ℕ Global)) (left : List (Vec ℕ Global)) (there : List (Vec ℕ Global))
    (i : ℕ) (whole : Bool) → length there ≤ i → parts_begin (texts left) (texts (drop i there)) ≡ whole
    → not (length left == 0) ≡ whole
begins-at_end wanted left there i whole past is = some_left left
    ∙ ap (λ l. parts_begin (texts left) (texts l)) (sym (drop_of_length-le there past)) ∙ is
  where
    some_left : (l : List (Vec ℕ Global)) → not (length l == 0) ≡ parts_begin (texts l) []
    some_left [] = refl
    some_left (part ∷ parts) = grind (arith, nat_tests)

-- what follows from the value of a result
pub ok_then : {T E : Type 0} {P Q : T → Type 0} (r : Result T E) → ((x : T) → P x → Q x) → IfOk r P → IfOk r Q
ok_then (Ok x) more is = more x is
ok_then (Err e) more is = tt
