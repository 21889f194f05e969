-- What readings, flags and ends of lists of words say.
use Rattle.std.proofs.Common.{◌≡◌, ℕ, Bool, true, false, ◌||◌, ◌&&◌, cond, List, [], ◌∷◌, ◌++◌, Result, Ok}
use Rattle.std.proofs.Common.{Err, ◌⊎◌, inl, inr, refl, subst, arith}
use Rattle.std.proofs.lemmas.Bool.{cond_both}
use Rattle.graphql_grammar.specs.Pieces.{Refusal, State, ◌>>=◌}
use Rattle.graphql_grammar.specs.Words.{WordView, ended}

pub bind_ok : {A B : Type 0} (r : Result A Refusal) (f : A → Result B Refusal) (y : B) → (r >>= f) ≡ Ok y
    → (x : A) × (r ≡ Ok x) × (f x ≡ Ok y)
bind_ok (Ok x) f y e = (x, refl, e)
bind_ok (Err d) f y e = absurd cc

abbrev done : {A : Type 0} → A → Result A Refusal
done x = Ok x

pub ok_is : {A : Type 0} (x y : A) → done x ≡ done y → x ≡ y
ok_is x y e = cc

-- what holds of what was read
pub read_as : {A : Type 0} (P : A → State → Type 0) {y : A × State} {x : A} {then : State}
    → done y ≡ Ok (x, then) → P y.0 y.1 → P x then
read_as {A} P {y} {x} {then} e h = subst (λ (v : A × State). P v.0 v.1) (ok_is y (x, then) e) h

pub chosen : {A : Type 0} (b : Bool) (x y z : A) → cond b x y ≡ z
    → ((b ≡ true) × (x ≡ z)) ⊎ ((b ≡ false) × (y ≡ z))
chosen true x y z e = inl (refl, e)
chosen false x y z e = inr (refl, e)

-- what holds of both holds of the one that is chosen
pub either : {A : Type 0} (P : A → Type 0) (b : Bool) (x y : A) → P x → P y → P (cond b x y)
either P b x y px py = cond_both b x y P (λ _. px) (λ _. py)

pub or_false : (a b : Bool) → (a || b) ≡ false → (a ≡ false) × (b ≡ false)
or_false a b e = (grind arith, grind arith)

pub or_left : (a b : Bool) → a ≡ true → (a || b) ≡ true
or_left a b e = grind arith

pub or_right : (a b : Bool) → b ≡ true → (a || b) ≡ true
or_right a b e = grind arith

pub and_true : (a b : Bool) → a ≡ true → b ≡ true → (a && b) ≡ true
and_true a b e f = grind arith

pub and_right : (a b : Bool) → a ≡ true → (a && b) ≡ false → b ≡ false
and_right a b e f = grind arith

pub ended_append : (last : ℕ) (a b : List WordView) → ended last (a ++ b) ≡ ended (ended last a) b
ended_append last [] b = refl
ended_append last (t ∷ ts) b = ended_append t.end ts b
