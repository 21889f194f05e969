-- Where words are refused, those before the refused one begin some that spell something.
use Rattle.std.proofs.Common.{◌≡◌, List, [], ◌++◌, Err, Ok, inl, inr, ap, ◌∙◌}
use Rattle.std.proofs.lemmas.List.{append-nil}
use Rattle.graphql_grammar.specs.Words.{WordView}
use Rattle.graphql_grammar.specs.Pieces.{Piece, Refusal, State, all_read, read_all}
use Rattle.graphql_grammar.specs.Refusals.{Viable}
use Rattle.graphql_grammar.proofs.PieceLaws.{Sound, Took}
use Rattle.graphql_grammar.proofs.ViableLaws.{Begins, bind_err}
use Rattle.graphql_grammar.proofs.WholeBlind.{left_over}

module _ {A : Type 0} {p q : Piece A} (sound : Sound p) (pb : Begins p q) where
  -- what is left over stands behind what is spelled
  over_viable : (s : State) (e : Refusal) (y : A × State) → p.read s ≡ Ok y → all_read y.0 y.1.left ≡ Err e
      → Viable q.spells s.left e.left
  over_viable s e y h g =
      let t : Took p.spells s y.0 y.1 = sound s y.0 y.1 h in
      record {
        front = t.front;
        more = [];
        value = y.0;
        whole = t.left ∙ ap (λ (l : List WordView). t.front ++ l) (left_over y.0 y.1.left e g);
        spelled = rw ((append-nil t.front)) (pb.wider y.0 t.front t.spelled);
      }

  -- where words are refused, those before the refused one begin what the second piece spells
  pub viable_law : (words : List WordView) (e : Refusal) → read_all p words ≡ Err e
      → Viable q.spells words e.left
  viable_law words e h =
      let s : State = record { last = 0; left = words } in
      elim (bind_err (p.read s) (λ y. all_read y.0 y.1.left) e h) [
        | inl g ↦ pb.viable s e g
        | inr g ↦ over_viable s e g.0 g.1 g.2
      ]
