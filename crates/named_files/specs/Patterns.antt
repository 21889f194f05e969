-- Which paths a pattern matches.
use Rattle.std.specs.Prelude.{true, ◌==◌, ◌&&◌, ◌||◌, ℕ, Bool, false, List, [], ◌∷◌, codes, if◌then◌else◌}
use Rattle.std.specs.Prelude.{map}
use Rattle.std.specs.Prelude.{Vec, nat_eq}
use Rattle.std.specs.declared.alloc.Global.{Global}
use Rattle.std.specs.Cmp.Lexicographic.{pointwise}
use Rattle.std.specs.List.{list_any, slice_split}
use Rattle.std.specs.Str.{chars}

-- the parts of a path, each as its characters: they stand between its slashes
abbrev pub parts : List ℕ → List (List ℕ)
parts path = map chars (slice_split (λ byte. byte == 47) path)

-- lists of characters, without their memory
abbrev pub texts : List (Vec ℕ Global) → List (List ℕ)
texts lists = map (λ list. list.items) lists

-- the list passes, or what is left of it behind some of its first ones
abbrev pub some_end : {X : Type 0} → (List X → Bool) → List X → Bool
some_end passes [] = passes []
some_end passes (x ∷ xs) = passes (x ∷ xs) || some_end passes xs

-- there is a first one, which passes, and the others pass
abbrev pub one_and_others : {X : Type 0} → (X → Bool) → (List X → Bool) → List X → Bool
one_and_others one others [] = false
one_and_others one others (x ∷ xs) = one x && others xs

-- there is nothing
abbrev pub nothing : {X : Type 0} → List X → Bool
nothing [] = true
nothing (x ∷ xs) = false

-- the sign of a pattern stands for the character: `?` for any, and any other sign for itself
abbrev pub sign_matches : ℕ → ℕ → Bool
sign_matches sign c = (sign == 63) || (sign == c)

-- the part of a pattern matches the part of a path: `*` in it stands for any characters
abbrev pub part_matches : List ℕ → List ℕ → Bool
part_matches [] = nothing
part_matches (sign ∷ signs) = if sign == 42 then some_end (part_matches signs)
    else one_and_others (sign_matches sign) (part_matches signs)

-- the part of a pattern stands for any parts: it is `**`
abbrev pub is_any_parts : List ℕ → Bool
is_any_parts part = pointwise nat_eq part (codes "**")

-- the parts of a pattern match those of a path: `**` stands for any parts, also for none
abbrev pub parts_match : List (List ℕ) → List (List ℕ) → Bool
parts_match [] = nothing
parts_match (part ∷ more) = if is_any_parts part then some_end (parts_match more)
    else one_and_others (part_matches part) (parts_match more)

-- the pattern matches the path
abbrev pub matches : List ℕ → List ℕ → Bool
matches pattern path = parts_match (parts pattern) (parts path)

-- the parts of a pattern may match the parts of a path with more behind them
abbrev pub parts_begin : List (List ℕ) → List (List ℕ) → Bool
parts_begin [] there = false
parts_begin (part ∷ more) [] = true
parts_begin (part ∷ more) (first ∷ others) = if is_any_parts part then true
    else part_matches part first && parts_begin more others

-- the pattern may match a path below the folder of this one
abbrev pub may_match_below : List ℕ → List ℕ → Bool
may_match_below pattern folder = parts_begin (parts pattern) (parts folder)

-- the sign stands for others than itself
abbrev pub is_wild : ℕ → Bool
is_wild byte = (byte == 42) || (byte == 63)

-- the word may be a pattern: `*` or `?` stands in it
abbrev pub may_be_pattern : List ℕ → Bool
may_be_pattern word = list_any is_wild word
