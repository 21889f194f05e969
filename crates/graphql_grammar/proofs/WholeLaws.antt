-- All of some words, as a piece reads them.
use Rattle.std.proofs.Common.{subst, ◌≡◌, List, [], ◌∷◌, ◌++◌, Ok, refl, sym, ap, ◌∙◌}
use Rattle.std.proofs.lemmas.List.{append-nil}
use Rattle.graphql_grammar.specs.Words.{WordView}
use Rattle.graphql_grammar.specs.Pieces.{Piece, Reading, State, ◌>>=◌, all_read, read_all}
use Rattle.graphql_grammar.proofs.PieceLaws.{Lawful, Took}
use Rattle.graphql_grammar.proofs.ReadingLemmas.{bind_ok, ok_is}

all_done : {A : Type 0} (x y : A) (left : List WordView) → all_read x left ≡ Ok y → (left ≡ []) × (x ≡ y)
all_done x y [] e = (refl, ok_is x y e)
all_done x y (w ∷ ws) e = absurd cc

-- what is read of all words is spelled by all of them
pub all_sound : {A : Type 0} (p : Piece A) → Lawful p → (words : List WordView) (x : A)
    → read_all p words ≡ Ok x → p.spells x words
all_sound {A} p pl words x e =
    let b = bind_ok (p.read (record { last = 0; left = words })) (λ y. all_read y.0 y.1.left) x e in
    let y : A × State = b.0 in
    let d = all_done y.0 x y.1.left b.2 in
    let t : Took p.spells (record { last = 0; left = words }) y.0 y.1 =
    pl.sound (record { last = 0; left = words }) y.0 y.1 b.1 in
    let whole : words ≡ t.front = t.left ∙ ap (λ (l : List WordView). t.front ++ l) d.0
    ∙ append-nil t.front in
    subst (λ (z : A). p.spells z words) d.1 (subst (λ (l : List WordView). p.spells y.0 l) (sym whole)
    t.spelled)

-- what all words spell is read
pub all_again : {A : Type 0} (p : Piece A) → Lawful p → (words : List WordView) (x : A) → p.spells x words
    → read_all p words ≡ Ok x
all_again {A} p pl words x h = ap (λ (l : List WordView). read_all p l) (sym (append-nil words))
    ∙ ap (λ (r : Reading A). r >>= λ y. all_read y.0 y.1.left) (pl.complete x words [] 0 h tt)

-- so words spell one value at most
pub one_value : {A : Type 0} (p : Piece A) → Lawful p → (words : List WordView) (x y : A) → p.spells x words
    → p.spells y words → x ≡ y
one_value p pl words x y h g = ok_is x y (sym (all_again p pl words x h) ∙ all_again p pl words y g)
