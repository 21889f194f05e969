-- Any number of pieces: what is read is spelled so, and the other way round.
use Rattle.std.proofs.Common.{◌≡◌, ℕ, zero, suc, ◌<◌, ◌≤◌, Bool, true, false, cond, List, [], ◌∷◌}
use Rattle.std.proofs.Common.{◌++◌, length, Ok, Err, inl, inr, refl, sym, ap, ◌∙◌, append_assoc, arith}
use Rattle.std.proofs.lemmas.List.{length-append}
use Rattle.graphql_grammar.specs.Kinds.{Kinds}
use Rattle.graphql_grammar.specs.Words.{WordView, begins, ended}
use Rattle.graphql_grammar.specs.Pieces.{Piece, Reading, Refusal, State, ◌>>=◌, listed, many, many_at, seq}
use Rattle.graphql_grammar.specs.Pieces.{some}
use Rattle.graphql_grammar.proofs.PieceLaws.{Apart, Begun, Lawful, Sound, Stops, Took, is_begun, mapped_law}
use Rattle.graphql_grammar.proofs.PieceLaws.{mapped_sound, not_begun, seq_law, seq_sound, stops_left, took_as}
use Rattle.graphql_grammar.proofs.PieceLaws.{took_both, took_none}
use Rattle.graphql_grammar.proofs.ReadingLemmas.{read_as, bind_ok, chosen, ended_append}

-- those behind one that was read, and it in front of them
abbrev pub and_others : {A : Type 0} → Piece A → ℕ → A × State → Reading (List A)
and_others p n x = many_at p.first p.read n x.1 >>= λ y. Ok (x.0 ∷ y.0, y.1)

module _ {A : Type 0} (p : Piece A) (pl : Lawful p) (solid : p.may_be_empty ≡ false) where
  many_sound : (n : ℕ) (s : State) (xs : List A) (then : State) → many_at p.first p.read n s ≡ Ok (xs, then)
      → Took (many p).spells s xs then
  many_sound zero s xs then e = read_as (Took (many p).spells s) e (took_none [] refl)
  many_sound (suc n) s xs then e =
      elim (chosen (begins p.first s.left) (p.read s >>= and_others p n) (Ok ([], s)) (Ok (xs, then)) e) [
        | inl (hit, is) ↦
            let b = bind_ok (p.read s) (and_others p n) (xs, then) is in
            let y : A × State = b.0 in
            let d = bind_ok (many_at p.first p.read n y.1) (λ z. Ok (y.0 ∷ z.0, z.1)) (xs, then) b.2 in
            let z : List A × State = d.0 in
            read_as (Took (many p).spells s) d.2 (took_as (y.0 ∷ z.0)
            (took_both (pl.sound s y.0 y.1 b.1) (many_sound n y.1 z.0 z.1 d.1)) (λ _ h. h))
        | inr (miss, is) ↦ read_as (Took (many p).spells s) is (took_none [] refl)
      ]

  -- one or more that are read are spelled so, whatever may go on with one
  pub some_sound : Sound (some p)
  some_sound = mapped_sound listed (seq p (many p)) (seq_sound p (many p) pl.sound (λ s xs then e. many_sound
      (length s.left) s xs then e))

  pub many_none : (n : ℕ) (s : State) → begins p.first s.left ≡ false
      → many_at p.first p.read n s ≡ Ok ([], s)
  many_none zero s miss = refl
  many_none (suc n) s miss = ap (λ (b : Bool). cond b (p.read s >>= and_others p n) (Ok ([], s))) miss

  begun_more : (first : Kinds) (e f : Bool) (head tail : List WordView) → e ≡ false → Begun first e head
      → Begun first f (head ++ tail)
  begun_more first e f [] tail miss b = absurd cc
  begun_more first e f (t ∷ ts) tail miss b = b

  many_begun : (xs : List A) (front : List WordView) → (many p).spells xs front → Begun p.first true front
  many_begun [] front h = rw h refl
  many_begun (x ∷ xs) front h =
      rw h.whole (begun_more p.first p.may_be_empty true h.head h.tail solid (pl.begun x h.head h.first))

  pub longer : (first : Kinds) (e : Bool) (front : List WordView) → e ≡ false → Begun first e front
      → 0 < length front
  longer first e [] miss b = absurd cc
  longer first e (t ∷ ts) miss b = omega arith

  through_many : (first more : Kinds) (tail rest : List WordView) → Apart more first → Begun first true tail
      → Stops more rest → Stops more (tail ++ rest)
  through_many first more [] rest apart b stops = stops
  through_many first more (t ∷ ts) rest apart b stops = apart t.kind b

  many_again : (xs : List A) (front rest : List WordView) (last n : ℕ) → Apart p.more p.first
      → length (front ++ rest) ≤ n → (many p).spells xs front → Stops (many p).more rest
      → many_at p.first p.read n (record { last = last; left = front ++ rest })
      ≡ Ok (xs, record { last = ended last front; left = rest })
  many_again [] front rest last n apart le h stops =
      rw h (many_none n (record { last = last; left = rest }) (not_begun p.more p.first rest stops))
  many_again (x ∷ xs) front rest last zero apart le h stops =
      let solid_head : 0 < length h.head =
      longer p.first p.may_be_empty h.head solid (pl.begun x h.head h.first) in
      absurd (omega (arith, length-append front rest, length-append h.head h.tail, ap length h.whole))
  many_again (x ∷ xs) front rest last (suc n) apart le h stops =
      let solid_head : 0 < length h.head =
      longer p.first p.may_be_empty h.head solid (pl.begun x h.head h.first) in
      let fits : length (h.tail ++ rest) ≤ n = omega (
        arith,
        length-append front rest,
        length-append h.head h.tail,
        length-append h.tail rest,
        ap length h.whole,
      ) in
      let whole : front ++ rest ≡ h.head ++ (h.tail ++ rest) = ap (λ (l : List WordView). l ++ rest) h.whole
      ∙ append_assoc h.head h.tail rest in
      let begun : begins p.first (front ++ rest) ≡ true = ap (λ (l : List WordView). begins p.first l) whole
      ∙ is_begun p.first p.may_be_empty h.head (h.tail ++ rest) solid (pl.begun x h.head h.first) in
      let next : Stops p.more (h.tail ++ rest) = through_many p.first p.more h.tail rest apart
      (many_begun xs h.tail h.second) (stops_left p.more p.first rest stops) in
      ap (λ (b : Bool). cond b (p.read (record { last = last; left = front ++ rest }) >>= and_others p n)
      (Ok ([], record { last = last; left = front ++ rest }))) begun
      ∙ ap (λ (l : List WordView). p.read (record { last = last; left = l }) >>= and_others p n) whole
      ∙ ap (λ (r : Reading A). r >>= and_others p n) (pl.complete x h.head (h.tail ++ rest) last h.first next)
      ∙ ap (λ (r : Reading (List A)). r >>= λ y. Ok (x ∷ y.0, y.1))
      (many_again xs h.tail rest (ended last h.head) n apart fits h.second stops)
      ∙ ap (λ (m : ℕ). Ok (x ∷ xs, record { last = m; left = rest }))
      (sym (ended_append last h.head h.tail) ∙ ap (λ (l : List WordView). ended last l) (sym h.whole))

  pub many_law : Apart p.more p.first → Lawful (many p)
  many_law apart = record {
    sound = λ s x then e. many_sound (length s.left) s x then e;
    complete = λ x front rest last h stops. many_again x front rest last (length (front ++ rest)) apart
        (omega arith) h stops;
    begun = many_begun;
  }

  -- reading one more, as a loop does

  pub shorter : (s : State) (x : A) (then : State) → p.read s ≡ Ok (x, then)
      → length then.left < length s.left
  shorter s x then e =
      let t : Took p.spells s x then = pl.sound s x then e in
      let some : 0 < length t.front = longer p.first p.may_be_empty t.front solid
      (pl.begun x t.front t.spelled) in
      omega (arith, ap length t.left, length-append t.front then.left)

  none_left : (l : List WordView) → length l ≤ 0 → begins p.first l ≡ false
  none_left [] h = refl
  none_left (t ∷ ts) h = absurd (omega arith)

  enough_step : (n m : ℕ) (s : State) (r : Reading A) → p.read s ≡ r → length s.left ≤ suc n
      → length s.left ≤ suc m
      → ((t : State) → length t.left ≤ n → length t.left ≤ m → many_at p.first p.read n t
      ≡ many_at p.first p.read m t) → (r >>= and_others p n) ≡ (r >>= and_others p m)
  enough_step n m s (Ok x) e le lm again =
      let less : length x.1.left < length s.left = shorter s x.0 x.1 e in
      ap (λ (r : Reading (List A)). r >>= λ y. Ok (x.0 ∷ y.0, y.1)) (again x.1 (omega arith) (omega arith))
  enough_step n m s (Err f) e le lm again = refl

  pub enough : (n m : ℕ) (s : State) → length s.left ≤ n → length s.left ≤ m
      → many_at p.first p.read n s ≡ many_at p.first p.read m s
  enough zero m s le lm = sym (many_none m s (none_left s.left le))
  enough (suc n) zero s le lm = many_none (suc n) s (none_left s.left lm)
  enough (suc n) (suc m) s le lm = ap (λ (r : Reading (List A)). cond (begins p.first s.left) r (Ok ([], s)))
      (enough_step n m s (p.read s) refl le lm (λ t a b. enough n m t a b))

  pub many_more_at : (last : ℕ) (left : List WordView) (x : A) (then : State) → begins p.first left ≡ true
      → p.read (record { last = last; left = left }) ≡ Ok (x, then)
      → (many p).read (record { last = last; left = left }) ≡ ((many p).read then >>= λ y. Ok (x ∷ y.0, y.1))
  many_more_at last [] x then hit e = absurd cc
  many_more_at last (t ∷ ts) x then hit e =
      let less : length then.left < suc (length ts) = shorter (record { last = last; left = t ∷ ts }) x then
      e in
      ap (λ (b : Bool). cond b (p.read (record { last = last; left = t ∷ ts }) >>= and_others p (length ts))
      (Ok ([], record { last = last; left = t ∷ ts }))) hit
      ∙ ap (λ (r : Reading A). r >>= and_others p (length ts)) e
      ∙ ap (λ (r : Reading (List A)). r >>= λ y. Ok (x ∷ y.0, y.1))
      (enough (length ts) (length then.left) then (omega arith) (omega arith))

  pub many_err_at : (last : ℕ) (left : List WordView) (f : Refusal) → begins p.first left ≡ true
      → p.read (record { last = last; left = left }) ≡ Err f
      → (many p).read (record { last = last; left = left }) ≡ Err f
  many_err_at last [] f hit e = absurd cc
  many_err_at last (t ∷ ts) f hit e = simp (hit, e)

-- ---- one or more

pub some_law : {A : Type 0} (p : Piece A) → Lawful p → p.may_be_empty ≡ false → Apart p.more p.first
    → Lawful (some p)
some_law p pl solid far = mapped_law listed (seq p (many p)) (seq_law p (many p) pl (many_law p pl solid far)
    far)
