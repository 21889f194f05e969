-- What rows say: where a flag is set, what is left of the list may pass.
use Rattle.std.proofs.Common.{◌≡◌, ◌+◌, ◌-◌, Bool, true, false, ◌&&◌, ◌||◌, List, [], ◌∷◌, length, map}
use Rattle.std.proofs.Common.{refl, arith, get_or, ap, ◌∙◌}
use Rattle.named_files.specs.Patterns.{nothing, one_and_others, some_end}
use Rattle.named_files.specs.Rows.{any_more, both_flags, one_more, unbegun}

-- what is left behind the first one
abbrev pub others : {X : Type 0} → List X → List X
others [] = []
others (x ∷ xs) = xs

-- behind some number that a row has a flag at, what is left passes
abbrev pub reaches : {X : Type 0} → (List X → Bool) → List Bool → List X → Bool
reaches passes [] xs = false
reaches passes (here ∷ row) xs = (here && passes xs) || reaches passes row (others xs)

-- the row is one for the list
abbrev pub IsFor : {X : Type 0} → List X → List Bool → Type 0
IsFor xs row = length row ≡ length xs + 1

-- no flag is set
no_flag : {X : Type 0} (passes : List X → Bool) (ys : List X) (xs : List X)
    → reaches passes (map (λ _. false) ys) xs ≡ false
no_flag passes [] xs = refl
no_flag passes (y ∷ ys) xs = no_flag passes ys (others xs)

or_false : (b : Bool) → (b || false) ≡ b
or_false true = refl
or_false false = refl

-- at the start all of a list is left
pub reaches-unbegun : {X : Type 0} (passes : List X → Bool) (xs : List X)
    → reaches passes (unbegun xs) xs ≡ passes xs
reaches-unbegun passes xs = ap (λ b. passes xs || b) (no_flag passes xs (others xs)) ∙ or_false (passes xs)

length-no_flags : {X : Type 0} (xs : List X) → length (map (λ _. false) xs) ≡ length xs
length-no_flags [] = refl
length-no_flags (x ∷ xs) = grind (arith, length-no_flags xs)

pub for-unbegun : {X : Type 0} (xs : List X) → IsFor xs (unbegun xs)
for-unbegun xs = let e : length (map (λ _. false) xs) ≡ length xs = length-no_flags xs in omega (arith, e)

length-any_more : (earlier : Bool) (row : List Bool) → length (any_more earlier row) ≡ length row
length-any_more earlier [] = refl
length-any_more earlier (here ∷ row) = grind (arith, length-any_more (earlier || here) row)

pub for-any_more : {X : Type 0} (xs : List X) (row : List Bool) → IsFor xs row → IsFor xs (any_more false row)
for-any_more xs row long = length-any_more false row ∙ long

-- the first or a later one, by whether an earlier flag or this one is set
once_or_twice : (b : Bool) → (b || false) ≡ (b || (b || false))
once_or_twice true = refl
once_or_twice false = refl

set_here : (here later rest : Bool)
    → (here || ((true && later) || rest)) ≡ ((here || later) || ((here || later) || rest))
set_here true later rest = refl
set_here false true rest = refl
set_here false false rest = refl

set_before : (here later rest : Bool)
    → (here || ((true && later) || rest)) ≡ ((here || later) || (false || rest))
set_before true later rest = refl
set_before false true rest = refl
set_before false false rest = refl

set_only_here : (here later rest : Bool)
    → (here || ((true && later) || rest)) ≡ (false || ((here || later) || rest))
set_only_here true later rest = refl
set_only_here false true rest = refl
set_only_here false false rest = refl

-- what any more pass that an earlier flag or this row reaches
reaches-any_from : {X : Type 0} (passes : List X → Bool) (earlier : Bool) (row : List Bool) (xs : List X)
    → IsFor xs row
    → reaches passes (any_more earlier row) xs
    ≡ ((earlier && some_end passes xs) || reaches (some_end passes) row xs)
reaches-any_from passes earlier [] xs long = absurd (omega arith)
reaches-any_from passes true (true ∷ []) [] long = once_or_twice (passes [])
reaches-any_from passes true (false ∷ []) [] long = refl
reaches-any_from passes false (true ∷ []) [] long = refl
reaches-any_from passes false (false ∷ []) [] long = refl
reaches-any_from passes earlier (here ∷ (next ∷ row)) [] long = absurd (omega arith)
reaches-any_from passes true (true ∷ row) (x ∷ xs) long =
    ap (λ b. passes (x ∷ xs) || b) (reaches-any_from passes true row xs (omega arith))
    ∙ set_here (passes (x ∷ xs)) (some_end passes xs) (reaches (some_end passes) row xs)
reaches-any_from passes true (false ∷ row) (x ∷ xs) long =
    ap (λ b. passes (x ∷ xs) || b) (reaches-any_from passes true row xs (omega arith))
    ∙ set_before (passes (x ∷ xs)) (some_end passes xs) (reaches (some_end passes) row xs)
reaches-any_from passes false (true ∷ row) (x ∷ xs) long =
    ap (λ b. passes (x ∷ xs) || b) (reaches-any_from passes true row xs (omega arith))
    ∙ set_only_here (passes (x ∷ xs)) (some_end passes xs) (reaches (some_end passes) row xs)
reaches-any_from passes false (false ∷ row) (x ∷ xs) long = reaches-any_from passes false row xs (omega arith)

pub reaches-any_more : {X : Type 0} (passes : List X → Bool) (row : List Bool) (xs : List X) → IsFor xs row
    → reaches passes (any_more false row) xs ≡ reaches (some_end passes) row xs
reaches-any_more passes row xs long = reaches-any_from passes false row xs long

and_swapped : (p b q : Bool) → ((p && b) && q) ≡ (b && (p && q))
and_swapped true true q = refl
and_swapped true false q = refl
and_swapped false true q = refl
and_swapped false false q = refl

-- what one more passes that this row reaches
reaches-both : {X : Type 0} (one : X → Bool) (passes : List X → Bool) (row : List Bool) (xs : List X)
    → IsFor xs row
    → reaches passes (both_flags (map one xs) row) (others xs) ≡ reaches (one_and_others one passes) row xs
reaches-both one passes [] xs long = absurd (omega arith)
reaches-both one passes (true ∷ []) [] long = refl
reaches-both one passes (false ∷ []) [] long = refl
reaches-both one passes (here ∷ (next ∷ row)) [] long = absurd (omega arith)
reaches-both one passes (here ∷ row) (x ∷ xs) long =
    ap (λ b. ((one x && here) && passes xs) || b) (reaches-both one passes row xs (omega arith))
    ∙ ap (λ b. b || reaches (one_and_others one passes) row xs) (and_swapped (one x) here (passes xs))

pub reaches-one_more : {X : Type 0} (one : X → Bool) (passes : List X → Bool) (row : List Bool) (xs : List X)
    → IsFor xs row
    → reaches passes (one_more (map one xs) row) xs ≡ reaches (one_and_others one passes) row xs
reaches-one_more one passes row xs long = reaches-both one passes row xs long

length-both : {X : Type 0} (one : X → Bool) (row : List Bool) (xs : List X) → IsFor xs row
    → length (both_flags (map one xs) row) ≡ length xs
length-both one [] xs long = absurd (omega arith)
length-both one (here ∷ row) [] long = refl
length-both one (here ∷ row) (x ∷ xs) long = grind (arith, length-both one row xs (omega arith))

pub for-one_more : {X : Type 0} (one : X → Bool) (row : List Bool) (xs : List X) → IsFor xs row
    → IsFor xs (one_more (map one xs) row)
for-one_more one row xs long =
    let e : length (both_flags (map one xs) row) ≡ length xs = length-both one row xs long in omega (arith, e)

-- at the end nothing is left
pub reaches-nothing : {X : Type 0} (row : List Bool) (xs : List X) → IsFor xs row
    → reaches nothing row xs ≡ get_or row (length row - 1) false
reaches-nothing [] xs long = absurd (omega arith)
reaches-nothing (true ∷ []) [] long = refl
reaches-nothing (false ∷ []) [] long = refl
reaches-nothing (here ∷ (next ∷ row)) [] long = absurd (omega arith)
reaches-nothing (here ∷ []) (x ∷ xs) long = absurd (omega arith)
reaches-nothing (true ∷ (next ∷ row)) (x ∷ xs) long =
    grind (arith, reaches-nothing (next ∷ row) xs (omega arith))
reaches-nothing (false ∷ (next ∷ row)) (x ∷ xs) long =
    grind (arith, reaches-nothing (next ∷ row) xs (omega arith))
