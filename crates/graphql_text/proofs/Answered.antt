-- What calls that read a text answer, by what their readers returned.
use Rattle.std.proofs.Common.{◌≡◌, ℕ, List, Result, Ok, Err, IfOk, IfErr, inl, inr, sym, subst, ◌∙◌}
use Rattle.graphql_nodes.specs.declared.source.FileId.{FileId}
use Rattle.graphql_grammar.specs.declared.fault.ReadError.{ReadError}
use Rattle.graphql_grammar.specs.declared.fault.ReadError.TheVariants as errors
use Rattle.graphql_grammar.specs.Pieces.{GivesAll, Piece, Refusal, State, read_all, read_whole}
use Rattle.graphql_grammar.specs.Words.{WordView}
use Rattle.graphql_grammar.proofs.Judged.{Judged}
use Rattle.graphql_grammar.proofs.ReadingLemmas.{ok_is}
use Rattle.graphql_text.specs.Parses.{Answers, IsRefused, Parsed}
use Rattle.graphql_text.specs.declared.parse_error.ParseError.{ParseError}

module _ {A : Type 0} {p : Piece A} {spells further : A → List WordView → Type 0}
    (law : Judged p spells further) (file : FileId) (total : ℕ) (words left : List WordView) {s : State}
    (here : s ≡ record { last = 0; left = words }) where
  -- what all is read as there is what the words are read as
  of_words : (r : Result A ReadError) → GivesAll r left (read_whole p s) → GivesAll r left (read_all p words)
  of_words r = subst (λ (t : State). GivesAll r left (read_whole p t)) here

  pub found : (r : Result A ReadError) (answer : Result A ParseError) → GivesAll r left (read_whole p s)
      → Parsed file total left r answer → IfOk answer (λ x. spells x words)
  found (Ok x) (Ok y) gives parsed =
      subst (λ (z : A). spells z words) (sym parsed) (law.found words x (of_words (Ok x) gives))
  found (Ok x) (Err e) gives parsed = tt
  found (Err error) (Ok y) gives parsed = absurd parsed
  found (Err error) (Err e) gives parsed = tt

  pub only : (r : Result A ReadError) (answer : Result A ParseError) → GivesAll r left (read_whole p s)
      → Parsed file total left r answer → (x : A) → spells x words → Answers x answer
  only (Ok y) (Ok z) gives parsed x h = parsed ∙ ok_is y x (sym (of_words (Ok y) gives) ∙ law.only words x h)
  only (Ok y) (Err e) gives parsed x h = absurd parsed
  only (Err error) (Ok z) gives parsed x h = absurd parsed
  only (Err errors.Memory) (Err e) gives parsed x h = parsed
  only (Err (errors.Fault kind)) (Err e) gives parsed x h =
      absurd (let w = sym (of_words (Err (errors.Fault kind)) gives) ∙ law.only words x h in cc)

  pub refused : (r : Result A ReadError) (answer : Result A ParseError) → GivesAll r left (read_whole p s)
      → Parsed file total left r answer → IfErr answer (IsRefused p spells further file total words)
  refused (Ok x) (Ok y) gives parsed = tt
  refused (Ok x) (Err e) gives parsed = absurd parsed
  refused (Err error) (Ok y) gives parsed = tt
  refused (Err errors.Memory) (Err e) gives parsed = inl parsed
  refused (Err (errors.Fault kind)) (Err e) gives parsed =
      let r : Refusal = record { kind = kind; left = left } in
      let first = of_words (Err (errors.Fault kind)) gives in
      elim parsed [
        | inl memory ↦ inl memory
        | inr reports ↦ inr (inr (record {
          refusal = r;
          first = first;
          ruled_out = law.ruled_out words r first;
          can_go_on = law.can_go_on words r first;
          reports = reports;
        }))
      ]
