-- A loop that reads one piece after the other, as far as it has come.
use Rattle.std.proofs.Common.{◌≡◌, true, false, List, [], ◌∷◌, ◌++◌, length, Ok, Err, refl, sym, ap, ◌∙◌}
use Rattle.std.proofs.Common.{append_assoc}
use Rattle.std.proofs.lemmas.List.{append-nil}
use Rattle.graphql_grammar.specs.declared.fault.ReadError.{ReadError}
use Rattle.graphql_grammar.specs.declared.fault.ReadError.TheVariants as errors
use Rattle.graphql_grammar.specs.Words.{WordView, begins}
use Rattle.graphql_grammar.specs.Pieces.{Fails, Piece, Reading, State, ◌>>=◌, many, with_front}
use Rattle.graphql_grammar.proofs.ManyLaws.{many_err_at, many_more_at, many_none}
use Rattle.graphql_grammar.proofs.PieceLaws.{Lawful}

-- the rest of a list, behind one that was read
abbrev others : {A : Type 0} → A → Reading (List A) → Reading (List A)
others x r = r >>= λ y. Ok (x ∷ y.0, y.1)

module _ {A : Type 0} (p : Piece A) (pl : Lawful p) (solid : p.may_be_empty ≡ false) where
  regroup : (front : List A) (x : A) (r : Reading (List A))
      → with_front front (others x r) ≡ with_front (front ++ x ∷ []) r
  regroup front x (Ok y) = ap (λ (xs : List A). Ok (xs, y.1)) (sym (append_assoc front (x ∷ []) y.0))
  regroup front x (Err e) = refl

  pub goes_on : (front : List A) (s : State) (x : A) (then : State) (total : Reading (List A))
      → begins p.first s.left ≡ true → p.read s ≡ Ok (x, then) → with_front front ((many p).read s) ≡ total
      → with_front (front ++ x ∷ []) ((many p).read then) ≡ total
  goes_on front s x then total hit e so_far = sym (ap (λ (r : Reading (List A)). with_front front r)
      (many_more_at p pl solid s.last s.left x then hit e) ∙ regroup front x ((many p).read then)) ∙ so_far

  pub goes_wrong : (e : ReadError) (left : List WordView) (front : List A) (s : State)
      (total : Reading (List A)) → begins p.first s.left ≡ true → Fails e left (p.read s)
      → with_front front ((many p).read s) ≡ total → Fails e left total
  goes_wrong errors.Memory left front s total hit h so_far = tt
  goes_wrong (errors.Fault kind) left front s total hit h so_far =
      sym so_far ∙ ap (λ (r : Reading (List A)). with_front front r) (many_err_at p pl solid s.last s.left
      (record { kind = kind; left = left }) hit h)

  pub is_done : (front : List A) (s : State) (total : Reading (List A)) → begins p.first s.left ≡ false
      → with_front front ((many p).read s) ≡ total → total ≡ Ok (front, s)
  is_done front s total miss so_far = sym so_far ∙ ap (λ (r : Reading (List A)). with_front front r)
      (many_none p pl solid (length s.left) s miss) ∙ ap (λ (xs : List A). Ok (xs, s)) (append-nil front)

pub no_front : {A : Type 0} (r : Reading (List A)) → with_front [] r ≡ r
no_front (Ok y) = refl
no_front (Err e) = refl

pub front_failed : {A : Type 0} (front : List A) (r : Reading (List A)) (e : ReadError) (left : List WordView)
    → Fails e left (with_front front r) → Fails e left r
front_failed front r errors.Memory left h = tt
front_failed front (Ok y) (errors.Fault kind) left h = absurd cc
front_failed front (Err e) (errors.Fault kind) left h = h
