-- What is seen of lists through functions of their elements.
use Rattle.std.proofs.Common.{◌≡◌, List, [], ◌∷◌, Option, map, option_map, arith, refl}
use Rattle.std.specs.List.{AllZip, cons_option, filter_map}
use Rattle.std.proofs.lemmas.Simd.{map-map}

pub map-cons_option : {A B : Type 0} (f : A → B) (o : Option A) (xs : List A)
    → map f (cons_option o xs) ≡ cons_option (option_map f o) (map f xs)
map-cons_option f o xs = grind arith

-- what is chosen of each element
pub chosen-map : {X Y A B : Type 0} (v : X → Y) (f : A → B) (p : X → Option A) (q : Y → Option B)
    → ((x : X) → q (v x) ≡ option_map f (p x)) → (xs : List X)
    → filter_map q (map v xs) ≡ map f (filter_map p xs)
chosen-map v f p q each [] = refl
chosen-map v f p q each (x ∷ xs) = rw (each x, chosen-map v f p q each xs, map-cons_option f (p x) _)

-- a function that sees no more of an element than another does sees no more of a list
pub alike-map : {A B C : Type 0} (f : A → B) (g : A → C) → ((a b : A) → f a ≡ f b → g a ≡ g b)
    → (xs ys : List A) → map f xs ≡ map f ys → map g xs ≡ map g ys
alike-map f g sees [] [] e = refl
alike-map f g sees (x ∷ xs) (y ∷ ys) e =
    let first : f x ≡ f y = cc in
    let rest : map f xs ≡ map f ys = cc in
    λ i. sees x y first i ∷ alike-map f g sees xs ys rest i
alike-map f g sees xs ys e = cc

-- lists of what is made of elements, place by place: it is seen alike where the elements are
module _ {A B X Y : Type 0} (R : A → B → Type 0) (made : A → B) (is : (a : A) (b : B) → R a b → b ≡ made a)
    (f : A → X) (g : B → Y) (sees : (a b : A) → f a ≡ f b → g (made a) ≡ g (made b)) where
  all-made : (xs : List A) (us : List B) → AllZip R xs us → us ≡ map made xs
  all-made [] [] h = refl
  all-made (x ∷ xs) (u ∷ us) h = λ i. is x u h.0 i ∷ all-made xs us h.1 i
  all-made xs us h = absurd h

  pub alike-made : (xs ys : List A) (us vs : List B) → AllZip R xs us → AllZip R ys vs → map f xs ≡ map f ys
      → map g us ≡ map g vs
  alike-made xs ys us vs h j e = simp (
    all-made xs us h,
    map-map g made xs,
    alike-map f _ sees xs ys e,
    all-made ys vs j,
    map-map g made ys,
  )
