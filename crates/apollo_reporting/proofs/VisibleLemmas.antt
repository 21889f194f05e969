-- What is written through a writer that shows it is what is shown of the whole.
use Rattle.std.proofs.Common.{◌≡◌, ℕ, List, [], ◌∷◌, ◌++◌, Option, None, Some, Result, IfSome, IsOk}
use Rattle.std.proofs.Common.{option_map, flat_map, refl, sym, ap, subst, ◌∙◌}
use Rattle.std.specs.Prelude.{encode_utf8}
use Rattle.std.specs.Fmt.{DisplaysOnOk, HasWritten, IsPlainFormatter, formatter_writer}
use Rattle.std.specs.List.{FoldsTo, concat}
use Rattle.std.specs.Str.{IsUtf8, chars}
use Rattle.std.specs.declared.fmt.Error.{Error}
use Rattle.std.specs.declared.fmt.Formatter.{Formatter}
use Rattle.std.proofs.lemmas.Grind.{flat_map-append, put_two}
use Rattle.std.proofs.lemmas.Str.{chars-append, chars-nil}
use Rattle.graphql_nodes.specs.VisibleTexts.{visible, visible_char}

visible-append : (a b : List ℕ) → IsUtf8 a → visible (a ++ b) ≡ visible a ++ visible b
unfolding visible
visible-append a b utf8 =
    ap (flat_map (λ c. encode_utf8 (visible_char c))) (chars-append a b utf8)
    ∙ flat_map-append (λ c. encode_utf8 (visible_char c)) (chars a) (chars b)

visible-nil : visible [] ≡ []
unfolding visible
visible-nil = ap (flat_map (λ c. encode_utf8 (visible_char c))) chars-nil

-- a text took one writer to another: they write on the same reference, and behind it what is shown of the
-- text was written
abbrev pub Shown : {W V N : Type 0} → (W → List ℕ → W → Type 0) → (V → N) → (V → Formatter W)
    → V → List ℕ → V → Type 0
Shown took name under before text after =
    (name after ≡ name before)
    × IsUtf8 text
    × (IsPlainFormatter (under before) → HasWritten took (under before) (visible text) (under after))

module _ {W V N : Type 0} (took : W → List ℕ → W → Type 0) (name : V → N) (under : V → Formatter W) where
  -- behind the one, on the same reference, what is shown of a text was written
  abbrev Wrote : V → List ℕ → V → Type 0
  Wrote before text after =
      (name after ≡ name before) × HasWritten took (under before) (visible text) (under after)

  -- the same of texts, one behind the other
  shown_all : (before after : V) (parts : List (List ℕ)) → FoldsTo (Shown took name under) before parts after
      → IsPlainFormatter (under before)
      → Wrote before (concat parts) after
  shown_all before after [] same plain =
      let nothing : HasWritten took (under before) (visible []) (under before) =
      subst (λ text. HasWritten took (under before) text (under before)) (sym visible-nil)
      (record { wrote = record { parts = []; calls = refl; whole = refl }; plain = plain }) in (
        sym (ap name same),
        subst (λ v. HasWritten took (under before) (visible []) (under v)) same nothing,
      )
  shown_all before after (part ∷ parts) calls plain =
      let first = calls.1.2 plain in
      let rest = shown_all calls.0 after parts calls.2 first.plain in
      let all = visible-append part (concat parts) calls.1.1 in (
        rest.0 ∙ calls.1.0,
        put_two took (under before) (under calls.0) (under after) (visible part) (visible (concat parts))
            (visible (part ++ concat parts)) first rest.1 (sym all),
      )

  -- a value that is written through such a writer is written as it is shown, on the same reference
  pub displayed : (text : Option (List ℕ)) (inner after : Formatter V) (r : Result (Unit {0}) Error)
      → IsPlainFormatter inner
      → DisplaysOnOk (Shown took name under) inner r text after
      → IfSome text (λ bs. IsPlainFormatter (under (formatter_writer inner)) → IsOk r
      → Wrote (formatter_writer inner) bs (formatter_writer after))
  displayed None inner after r plain writes = tt
  displayed (Some text) inner after r plain writes = λ below ok.
      let all = (writes plain ok).wrote in
      subst (λ t. Wrote (formatter_writer inner) t (formatter_writer after)) all.whole
      (shown_all (formatter_writer inner) (formatter_writer after) all.parts all.calls below)

-- a fact of a text is one of what is shown of it
pub of_shown : (text : Option (List ℕ)) (P Q : List ℕ → Type 0) → ((bs : List ℕ) → P bs → Q (visible bs))
    → IfSome text P → IfSome (option_map visible text) Q
of_shown None P Q turns fact = tt
of_shown (Some text) P Q turns fact = turns text fact
