-- Cases with their equations, and what is found in a list or an option.
use Rattle.std.proofs.Common.{◌≡◌, Bool, true, false, cond, List, [], ◌∷◌, Option, Some, None, is_some}
use Rattle.std.proofs.Common.{filter, map, slice_get, option_map, refl, ap, arith}
use Rattle.std.specs.List.{find, list_any}
use Rattle.std.specs.Map.{lookup}

pub option_cases : {X G : Type 0} (o : Option X) → (o ≡ None → G) → ((x : X) → o ≡ Some x → G) → G
option_cases None none some = none refl
option_cases (Some x) none some = some x refl

pub bool_cases : {G : Type 0} (b : Bool) → (b ≡ true → G) → (b ≡ false → G) → G
bool_cases true holds fails = holds refl
bool_cases false holds fails = fails refl

pub is_some-map : {X Y : Type 0} (f : X → Y) (o : Option X) → is_some (option_map f o) ≡ is_some o
is_some-map f None = refl
is_some-map f (Some x) = refl

pub list_any-map : {X Y : Type 0} (p : Y → Bool) (f : X → Y) (xs : List X)
    → list_any p (map f xs) ≡ list_any (λ x. p (f x)) xs
list_any-map p f [] = refl
list_any-map p f (x ∷ xs) = rw (list_any-map p f xs)

-- what is found passes the test
pub found-passes : {X : Type 0} (p : X → Bool) (xs : List X) (y : X) → find p xs ≡ Some y → p y ≡ true
found-passes p [] y e = absurd (grind (arith, e))
found-passes p (x ∷ xs) y e = grind (arith, found-passes p xs y)

-- the first that passes, among those that do, and as what stands under keys
pub find-first : {X : Type 0} (p : X → Bool) (xs : List X) → find p xs ≡ slice_get (filter p xs) 0
find-first p [] = refl
find-first p (x ∷ xs) = grind (arith, find-first p xs)

pub lookup-keyed : {K X : Type 0} (test : K → Bool) (key : X → K) (xs : List X)
    → lookup test (map (λ x. (key x, x)) xs) ≡ find (λ x. test (key x)) xs
lookup-keyed test key [] = refl
lookup-keyed test key (x ∷ xs) = ap (cond (test (key x)) (Some x)) (lookup-keyed test key xs)

-- the first that passes among what is made of each, and where nothing passes
pub find-made : {X Y : Type 0} (p : Y → Bool) (f : X → Y) (xs : List X)
    → find p (map f xs) ≡ option_map f (find (λ x. p (f x)) xs)
find-made p f [] = refl
find-made p f (x ∷ xs) = grind (arith, find-made p f xs)

pub find-none : {X : Type 0} (p : X → Bool) (xs : List X) → list_any p xs ≡ false → find p xs ≡ None
find-none p [] h = refl
find-none p (x ∷ xs) h = grind (arith, find-none p xs)
