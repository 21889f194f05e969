-- One of several pieces, by the kind of the first word.
use Rattle.std.proofs.Common.{subst, arith, ◌≡◌, Bool, true, false, not, List, [], ◌∷◌, ◌++◌, Ok, ℕ, refl}
use Rattle.std.proofs.Common.{sym, ap, ◌∙◌}
use Rattle.graphql_grammar.specs.declared.kind.Kind.{Kind}
use Rattle.graphql_grammar.specs.Kinds.{Kinds, each_kind}
use Rattle.graphql_grammar.specs.Spelling.{spells_by}
use Rattle.graphql_grammar.specs.Words.{WordView, ended}
use Rattle.graphql_grammar.specs.Pieces.{Piece, State, Wrong, branch, read_first}
use Rattle.graphql_grammar.proofs.KindLemmas.{of_each}
use Rattle.graphql_grammar.proofs.PieceLaws.{Begun, Lawful, Stops, Took, by_implied, by_not, implied}

not_more : (a b : Bool) → implied a b ≡ true → b ≡ false → a ≡ false
not_more a b e h = grind arith

-- what each kind picks may be gone on with by such kinds alone
abbrev pub goes_on_with : {A : Type 0} → Kinds → (Kind → Piece A) → Bool
goes_on_with more pick =
    each_kind (λ kind. each_kind (λ other. implied ((pick kind).more other) (more other)))

module _ {A : Type 0} (first more : Kinds) (pick : Kind → Piece A) (wrong : Wrong) (laws : (kind : Kind)
    → Lawful (pick kind)) (solid : each_kind (λ kind. not (pick kind).may_be_empty)
    ≡ true) (heads : each_kind (λ kind. implied ((pick kind).first kind) (first kind))
    ≡ true) (goes : goes_on_with more pick ≡ true) where
  full : (kind : Kind) → (pick kind).may_be_empty ≡ false
  full kind = by_not (pick kind).may_be_empty (of_each (λ kind. not (pick kind).may_be_empty) solid kind)

  stops : (kind : Kind) (rest : List WordView) → Stops more rest → Stops (pick kind).more rest
  stops kind [] h = tt
  stops kind (w ∷ ws) h = not_more ((pick kind).more w.kind) (more w.kind)
      (of_each (λ other. implied ((pick kind).more other) (more other))
      (of_each (λ kind. each_kind (λ other. implied ((pick kind).more other) (more other))) goes kind) w.kind)
      h

  -- what was picked by this word was spelled from it on
  picked : (kind : Kind) (x : A) (front ws rest : List WordView) (w : WordView) → w.kind ≡ kind
      → (pick kind).spells x front → w ∷ ws ≡ front ++ rest → spells_by (λ kind. (pick kind).spells) x front
  picked kind x [] ws rest w same h e = absurd (let empty : (pick kind).may_be_empty
      ≡ true = (laws kind).begun x [] h in let w = sym empty ∙ full kind in cc)
  picked kind x (f ∷ fs) ws rest w same h e =
      let head : w ≡ f = cc in
      subst (λ (k : Kind). (pick k).spells x (f ∷ fs)) (sym same ∙ ap (λ (v : WordView). v.kind) head) h

  branch_sound : (last : ℕ) (left : List WordView) (x : A) (after : State)
      → read_first pick wrong (record { last = last; left = left }) left ≡ Ok (x, after)
      → Took (branch first more pick wrong).spells (record { last = last; left = left }) x after
  branch_sound last [] x after e = absurd cc
  branch_sound last (w ∷ ws) x after e =
      let t : Took (pick w.kind).spells (record { last = last; left = w ∷ ws }) x after =
      (laws w.kind).sound (record { last = last; left = w ∷ ws }) x after e in
      record {
        front = t.front;
        left = t.left;
        last = t.last;
        spelled = picked w.kind x t.front ws after.left w refl t.spelled t.left;
      }

  branch_again : (x : A) (front rest : List WordView) (last : ℕ)
      → spells_by (λ kind. (pick kind).spells) x front → Stops more rest
      → (branch first more pick wrong).read (record { last = last; left = front ++ rest })
      ≡ Ok (x, record { last = ended last front; left = rest })
  branch_again x [] rest last h end = absurd h
  branch_again x (w ∷ ws) rest last h end = (laws w.kind).complete x (w ∷ ws) rest last h
      (stops w.kind rest end)

  branch_begun : (x : A) (front : List WordView) → spells_by (λ kind. (pick kind).spells) x front
      → Begun first false front
  branch_begun x [] h = absurd h
  branch_begun x (w ∷ ws) h = by_implied ((pick w.kind).first w.kind) (first w.kind)
      (of_each (λ kind. implied ((pick kind).first kind) (first kind)) heads w.kind)
      ((laws w.kind).begun x (w ∷ ws) h)

  pub branch_law : Lawful (branch first more pick wrong)
  branch_law = record {
    sound = λ s x after e. branch_sound s.last s.left x after e;
    complete = branch_again;
    begun = branch_begun;
  }
