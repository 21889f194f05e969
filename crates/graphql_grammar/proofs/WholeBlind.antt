-- Where words are refused, none that are the same up to the refused word, that one included, are read, or
-- spell anything.
use Rattle.std.proofs.Common.{◌≡◌, ◌≤◌, List, [], ◌∷◌, ◌++◌, length, Ok, Err, inl, inr, refl, sym, ap, ◌∙◌}
use Rattle.std.proofs.Common.{arith}
use Rattle.std.proofs.lemmas.List.{append-nil, length-append}
use Rattle.graphql_grammar.specs.Words.{WordView}
use Rattle.graphql_grammar.specs.Pieces.{Piece, Reading, Refusal, State, ◌>>=◌, all_read, read_all}
use Rattle.graphql_grammar.specs.Refusals.{EndOf, RefusedWith, Unspelled, reads}
use Rattle.graphql_grammar.proofs.BlindLaws.{Agree, Alike, Blind, Fork, Forked, Related, rest_of}
use Rattle.graphql_grammar.proofs.PieceLaws.{Lawful}
use Rattle.graphql_grammar.proofs.WholeLaws.{all_again}

-- words that are left over are refused where they begin
pub left_over : {A : Type 0} (x : A) (left : List WordView) (e : Refusal) → all_read x left ≡ Err e
    → left ≡ e.left
left_over x [] e h = absurd cc
left_over x (w ∷ ws) e h = let same : w ∷ ws ≡ e.left = cc in same

none_left : {A : Type 0} (x y : A) (left : List WordView) → all_read x left ≡ Ok y → left ≡ []
none_left x y [] h = refl
none_left x y (w ∷ ws) h = absurd cc

-- a refusal of the whole is where reading ended, or was refused
refused_at : {A : Type 0} (r : Reading A) (e : Refusal) → (r >>= λ y. all_read y.0 y.1.left) ≡ Err e
    → rest_of r ≡ e.left
refused_at (Ok y) e h = left_over y.0 y.1.left e h
refused_at (Err d) e h = let same : d ≡ e = cc in ap (λ (r : Refusal). r.left) same

-- a word that is left is not gone
still_left : (f : Fork) (l m : List WordView) → Forked f l m → m ≡ [] → ⊥
still_left f l m d h = omega (arith, ap length h, ap length d.there, length-append d.front (f.at ∷ f.other))

not_read : {A : Type 0} (f : Fork) (r q : Reading A) (e : Refusal) (x : A) → Agree f r q
    → (r >>= λ y. all_read y.0 y.1.left) ≡ Err e → (q >>= λ y. all_read y.0 y.1.left) ≡ Ok x → ⊥
not_read f (Ok y) (Ok z) e x agree h g = still_left f y.1.left z.1.left agree.1.left
    (none_left z.0 x z.1.left g)
not_read f (Ok y) (Err d) e x agree h g = absurd agree
not_read f (Err d) (Ok z) e x agree h g = absurd agree
not_read f (Err d) (Err c) e x agree h g = absurd cc

-- what was refused at that word was not refused behind it
not_past : (f : Fork) (rest left : List WordView) → length rest ≤ length f.one → rest ≡ left
    → left ≡ f.at ∷ f.one → ⊥
not_past f rest left past same here = omega (arith, ap length same, ap length here)

not_whole : {A : Type 0} (f : Fork) (r q : Reading A) (e : Refusal) (x : A) → Related f r q
    → (r >>= λ y. all_read y.0 y.1.left) ≡ Err e → e.left ≡ f.at ∷ f.one
    → (q >>= λ y. all_read y.0 y.1.left) ≡ Ok x → ⊥
not_whole f r q e x rel h here g = elim rel [
  | inl past ↦ not_past f (rest_of r) e.left past (refused_at r e h) here
  | inr agree ↦ not_read f r q e x agree h g
]

module _ {A : Type 0} (p : Piece A) (pb : Blind p) where
  -- no words that have the same words up to the refused one, that one included, are read
  not_read_from : (front ws : List WordView) (w : WordView) (e : Refusal)
      → read_all p (front ++ w ∷ ws) ≡ Err e → e.left ≡ w ∷ ws → (x : A) (others : List WordView)
      → reads p x (front ++ w ∷ others) → ⊥
  not_read_from front ws w e h here x others read =
      let f : Fork = record { at = w; one = ws; other = others } in
      let s : State = record { last = 0; left = front ++ w ∷ ws } in
      let t : State = record { last = 0; left = front ++ w ∷ others } in
      let a : Alike f s t =
      record { last = refl; left = record { front = front; here = refl; there = refl } } in
      not_whole f (p.read s) (p.read t) e x (pb.same f s t a) h here read

  -- what is left where words are refused is their end
  refused_within : (words : List WordView) (e : Refusal) → read_all p words ≡ Err e → EndOf e.left words
  refused_within words e h =
      let s : State = record { last = 0; left = words } in
      rw (← refused_at (p.read s) e h) (pb.within s)

  -- what is refused is not read
  refused_whole : (words : List WordView) (e : Refusal) → read_all p words ≡ Err e → (x : A) → reads p x words
      → ⊥
  refused_whole words e h x read = absurd (let both = sym read ∙ h in cc)

  unread_at : (front left : List WordView) (e : Refusal) → read_all p (front ++ left) ≡ Err e → e.left ≡ left
      → Unspelled (reads p) front left
  unread_at front [] e h here = λ x read. refused_whole (front ++ []) e h x (rw ((append-nil front)) read)
  unread_at front (w ∷ ws) e h here = not_read_from front ws w e h here

  -- where words are refused, no words that are the same up to the refused one, that one included, are read.
  -- And there are such words before it
  pub unread_law : (words : List WordView) (e : Refusal) → read_all p words ≡ Err e
      → RefusedWith (reads p) words e
  unread_law words e h =
      let g : EndOf e.left words = refused_within words e h in
      (g.0, g.1, unread_at g.0 e.left e (sym (ap (λ (l : List WordView). read_all p l) g.1) ∙ h) refl)

module _ {A : Type 0} (p : Piece A) (pl : Lawful p) where
  -- what is not read is not spelled
  unspelled : (front left : List WordView) → Unspelled (reads p) front left → Unspelled p.spells front left
  unspelled front [] h = λ x spelled. h x (all_again p pl front x spelled)
  unspelled front (w ∷ ws) h = λ x others spelled. h x others (all_again p pl (front ++ w ∷ others) x spelled)

  -- where words are refused, no words that are the same up to the refused one, that one included, spell
  -- anything. And there are such words before it
  pub refusal_law : Blind p → (words : List WordView) (e : Refusal) → read_all p words ≡ Err e
      → RefusedWith p.spells words e
  refusal_law pb words e h =
      let r : RefusedWith (reads p) words e = unread_law p pb words e h in
      (r.0, r.1, unspelled r.0 e.left r.2)
