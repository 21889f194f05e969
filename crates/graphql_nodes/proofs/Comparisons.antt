-- Tests that compare what a function gives, and how such tests are made of others.
use Rattle.std.proofs.Common.{map-id, arith, ◌≡◌, Bool, true, ◌&&◌, List, [], ◌∷◌, Option, None, Some, refl}
use Rattle.std.proofs.Common.{map, ap, sym, ◌∙◌, subst, nat_eq, eq-eqb}
use Rattle.std.specs.Option.{option_map, option_eq}
use Rattle.std.proofs.Math.Bool.{beq}
use Rattle.std.proofs.lemmas.Bool.{eqb-true}
use Rattle.std.specs.Cmp.{first_so, second_so}
use denote.Enum.Declared.{Declared}
use denote.Enum.Bare.{Bare, sameb, same_true, true_same}
use lib.Pointwise.{pointwise, bytes_decides}
use Rattle.graphql_nodes.specs.NameView.{NameView}
use Rattle.graphql_nodes.specs.NodeView.{NodeView}
use Rattle.graphql_nodes.specs.Comparing.{bare_name, bare_node}

-- the test says whether the two are one
abbrev pub Says : {A : Type 0} → Bool → A → A → Type 0
Says b x y = (b ≡ true → x ≡ y) × (x ≡ y → b ≡ true)

-- at two values, the test E is true exactly where f gives them one value
abbrev pub At : {A B : Type 0} → (A → A → Bool) → (A → B) → A → A → Type 0
At E f a b = Says (E a b) (f a) (f b)

-- the same at any two
pub record Compares {A B : Type 0} (E : A → A → Bool) (f : A → B) : Type 0 where
  pub at : (a b : A) → At E f a b

-- at this value and any other
abbrev pub OfAny : {A B : Type 0} → (A → A → Bool) → (A → B) → A → Type 0
OfAny {A = A} E f a = (b : A) → At E f a b

-- a value, and that at it and any other
abbrev pub Compared : {A B : Type 0} → (A → A → Bool) → (A → B) → Type 0
Compared {A = A} E f = (a : A) × OfAny E f a

pub both_true : (p q : Bool) → p && q ≡ true → (p ≡ true) × (q ≡ true)
both_true p q h = (first_so p q h, second_so p q h)

pub and_true : (p q : Bool) → p ≡ true → q ≡ true → p && q ≡ true
and_true p q e f = λ i. e i && f i

-- two tests say whether two pairs are one
pub both : {A B : Type 0} {p q : Bool} {x y : A} {u v : B} → Says p x y → Says q u v
    → Says {A = A × B} (p && q) (x, u) (y, v)
both {p = p} {q = q} s t = (
  λ h. let w = both_true p q h in let l = s.0 w.0 in let r = t.0 w.1 in λ i. (l i, r i),
  λ h. and_true p q (s.1 (λ i. (h i).0)) (t.1 (λ i. (h i).1)),
)

-- the same of what is made of them, if two of these are one only where the two are
pub inside : {A B : Type 0} {p : Bool} {x y : A} (to : A → B) → (to x ≡ to y → x ≡ y) → Says p x y
    → Says p (to x) (to y)
inside to one s = (λ h. ap to (s.0 h), λ h. s.1 (one h))

-- or if they can be read back from it
pub remade : {A B : Type 0} {p : Bool} {x y : A} (to : A → B) (back : B → A) → ((z : A) → back (to z) ≡ z)
    → Says p x y → Says p (to x) (to y)
remade {x = x} {y = y} to back r = inside to (λ h. sym (r x) ∙ ap back h ∙ r y)

pub tail_same : {A : Type 0} {x y : A} {xs ys : List A} → x ∷ xs ≡ y ∷ ys → xs ≡ ys
tail_same h = cc

pub head_same : {A : Type 0} {x y : A} {xs ys : List A} → x ∷ xs ≡ y ∷ ys → x ≡ y
head_same h = cc

-- a part of a value
pub of_part : {A B C : Type 0} {E : B → B → Bool} {f : B → C} (p : A → B) → Compares E f
    → Compares (λ (a b : A). E (p a) (p b)) (λ (a : A). f (p a))
of_part p t = record { at = λ a b. t.at (p a) (p b) }

-- two parts
pub and_then : {A B C : Type 0} {E F : A → A → Bool} {f : A → B} {g : A → C} → Compares E f → Compares F g
    → Compares {B = B × C} (λ (a b : A). E a b && F a b) (λ (a : A). (f a, g a))
and_then t u = record { at = λ a b. both (t.at a b) (u.at a b) }

-- what is made of the parts, which can be read back from it
pub made : {A B C : Type 0} {E : A → A → Bool} {f : A → B} (to : B → C) (back : C → B)
    → ((x : B) → back (to x) ≡ x) → Compares E f → Compares E (λ (a : A). to (f a))
made to back r t = record { at = λ a b. remade to back r (t.at a b) }

-- what is made of its fields, which are compared
pub of_fields : {A B : Type 0} {E : B → B → Bool} {f : B → B} (fields : A → B) (to : B → A)
    → ((x : B) → fields (to x) ≡ x) → Compares E f
    → Compares (λ (a b : A). E (fields a) (fields b)) (λ (a : A). to (f (fields a)))
of_fields fields to r t = made to fields r (of_part fields t)

-- what is made of so many, at a tuple of them
abbrev pub of_two : {A B R : Type 0} → (A → B → R) → A × B → R
of_two to p = to p.0 p.1

abbrev pub of_three : {A B C R : Type 0} → (A → B → C → R) → A × (B × C) → R
of_three to p = of_two (to p.0) p.1

abbrev pub of_four : {A B C D R : Type 0} → (A → B → C → D → R) → A × (B × (C × D)) → R
of_four to p = of_three (to p.0) p.1

abbrev pub of_five : {A B C D E R : Type 0} → (A → B → C → D → E → R) → A × (B × (C × (D × E))) → R
of_five to p = of_four (to p.0) p.1

pub numbers : Compares nat_eq (λ n. n)
numbers = record { at = λ a b. (eqb-true a b, eq-eqb a b) }

pub flag_at : (a b : Bool) → At beq (λ (x : Bool). x) a b
flag_at a b = (λ h. grind (arith, beq), λ h. grind (arith, beq))

pub flags : Compares beq (λ b. b)
flags = record { at = flag_at }

pub texts : Compares (pointwise nat_eq) (λ t. t)
texts = record { at = bytes_decides }

pub name_at : (a b : NameView) → At (λ (a b : NameView). pointwise nat_eq a.text b.text) bare_name a b
name_at a b = remade (λ t. record { text = t; location = None }) (λ n. n.text) (λ _. refl)
    (bytes_decides a.text b.text)

pub names : Compares (λ (a b : NameView). pointwise nat_eq a.text b.text) bare_name
names = record { at = name_at }

pub node_at : {A B : Type 0} (E : A → A → Bool) (f : A → B) (m n : NodeView A) → At E f m.value n.value
    → At (λ (m n : NodeView A). E m.value n.value) (bare_node f) m n
node_at E f m n = remade (λ v. record { value = v; location = None }) (λ k. k.value) (λ _. refl)

pub nodes : {A B : Type 0} {E : A → A → Bool} {f : A → B} → Compares E f
    → Compares (λ (m n : NodeView A). E m.value n.value) (bare_node f)
nodes {E = E} {f = f} t = record { at = λ m n. node_at E f m n (t.at m.value n.value) }

-- the elements of the first list are given by s
pub list_at : {P A B : Type 0} (E : A → A → Bool) (f : A → B) (s : P → A) → ((y : P) (z : A) → At E f (s y) z)
    → (ys : List P) (zs : List A) → At (pointwise E) (map f) (map s ys) zs
list_at E f s t [] [] = (λ _. refl, λ _. refl)
list_at E f s t [] (z ∷ zs) = (λ h. cc, λ h. cc)
list_at E f s t (y ∷ ys) [] = (λ h. cc, λ h. cc)
list_at {B = B} E f s t (y ∷ ys) (z ∷ zs) = inside {A = B × List B} (λ p. p.0 ∷ p.1)
    (λ h. let l = head_same h in let r = tail_same h in λ i. (l i, r i))
    (both (t y z) (list_at E f s t ys zs))

pub own : {A : Type 0} (xs : List A) → map (λ x. x) xs ≡ xs
own xs = map-id xs

pub lists : {A B : Type 0} {E : A → A → Bool} {f : A → B} → Compares E f → Compares (pointwise E) (map f)
lists {E = E} {f = f} t = record {
  at = λ xs ys. subst (λ l. At (pointwise E) (map f) l ys) (own xs) (list_at E f (λ x. x) t.at xs ys);
}

option_at : {A B : Type 0} (E : A → A → Bool) (f : A → B) → ((y z : A) → At E f y z) → (x y : Option A)
    → At (option_eq E) (option_map f) x y
option_at E f t None None = (λ _. refl, λ _. refl)
option_at E f t None (Some z) = (λ h. cc, λ h. cc)
option_at E f t (Some y) None = (λ h. cc, λ h. cc)
option_at E f t (Some y) (Some z) = (λ h. ap Some ((t y z).0 h), λ h. (t y z).1 cc)

pub options : {A B : Type 0} {E : A → A → Bool} {f : A → B} → Compares E f
    → Compares (option_eq E) (option_map f)
options {E = E} {f = f} t = record { at = option_at E f t.at }

pub pairs : {A B C D : Type 0} {E : A → A → Bool} {F : B → B → Bool} {f : A → C} {g : B → D} → Compares E f
    → Compares F g
    → Compares {B = C × D} (λ (a b : A × B). E a.0 b.0 && F a.1 b.1) (λ (a : A × B). (f a.0, g a.1))
pairs t u = and_then (of_part (λ a. a.0) t) (of_part (λ a. a.1) u)

-- a description and a name, and what follows
pub described : {A B : Type 0} {E : A → A → Bool} {f : A → B} → Compares E f
    → Compares {A = Option NameView × (NameView × A)} {B = Option NameView × (NameView × B)}
    (λ a b. option_eq (λ m n. pointwise nat_eq m.text n.text) a.0 b.0
    && (pointwise nat_eq a.1.0.text b.1.0.text && E a.1.1 b.1.1))
    (λ a. (option_map bare_name a.0, (bare_name a.1.0, f a.1.1)))
described t = pairs (options names) (pairs names t)

-- an enum without fields
pub kinds : (D : Declared) → Bare D.parts → Compares (sameb D) (λ k. k)
kinds D bare = record { at = λ a b. (same_true D bare a b, true_same D a b) }

-- of a recursive type: from one level to the values
pub met : {A L : Type 0} {E : A → A → Bool} (f : A → A) (roll : L → A) (out : A → L) (e : L → L
    → Bool) (g : L → L) → ((a b : A) → E a b ≡ e (out a) (out b)) → ((z : L) → f (roll z) ≡ roll (g z))
    → ((z : L) → out (roll z) ≡ z) → ((a : A) → roll (out a) ≡ a) → {x y : L} → y ≡ x → OfAny e g y
    → OfAny E f (roll x)
met {E = E} f roll out e g er fr or ro {y = y} is level =
    subst (λ l. OfAny E f (roll l)) is (λ b. let s = level (out b) in
    let one = er (roll y) b ∙ ap (λ l. e l (out b)) (or y) in
    let bare = ap f (sym (ro b)) ∙ fr (out b) in (
      λ h. fr y ∙ ap roll (s.0 (sym one ∙ h)) ∙ sym bare,
      λ h. one ∙ s.1 (sym (or (g y)) ∙ ap out (sym (fr y) ∙ h ∙ bare) ∙ or (g (out b))),
    ))
