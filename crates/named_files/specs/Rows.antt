-- How far the beginnings of a pattern reach in a list: rows of flags. The flag at a place says whether they
-- match so many of the list's first ones.
use Rattle.std.specs.Prelude.{◌==◌, ◌&&◌, ◌||◌, ℕ, Bool, true, false, List, [], ◌∷◌, if◌then◌else◌, map}
use Rattle.std.specs.List.{zip}
use Rattle.named_files.specs.Patterns.{is_any_parts, part_matches, sign_matches}

-- of what is not yet begun: behind none
abbrev pub unbegun : {X : Type 0} → List X → List Bool
unbegun xs = true ∷ map (λ _. false) xs

-- behind any more than those of a row, or than an earlier place where the flag says so
abbrev pub any_more : Bool → List Bool → List Bool
any_more earlier [] = []
any_more earlier (here ∷ row) = (earlier || here) ∷ any_more (earlier || here) row

-- for each place of two rows whether the flags of both are set
abbrev pub both_flags : List Bool → List Bool → List Bool
both_flags one other = map (λ flags. flags.0 && flags.1) (zip one other)

-- behind one more than those of a row, which passes
abbrev pub one_more : List Bool → List Bool → List Bool
one_more passing row = false ∷ both_flags passing row

-- the row behind one more sign of a part of a pattern
abbrev pub row_behind_sign : ℕ → List ℕ → List Bool → List Bool
row_behind_sign sign part row = if sign == 42 then any_more false row
    else one_more (map (sign_matches sign) part) row

-- the row behind one more part of a pattern
abbrev pub row_behind_part : List ℕ → List (List ℕ) → List Bool → List Bool
row_behind_part part there row = if is_any_parts part then any_more false row
    else one_more (map (part_matches part) there) row
