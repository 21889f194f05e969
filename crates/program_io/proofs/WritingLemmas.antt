-- Texts that go out in pieces: one after the other, and what follows what is left.
use Rattle.std.proofs.Common.{ℕ, List, [], ◌++◌, Option, refl, sym, ap, ◌∙◌, append_assoc}
use Rattle.std.proofs.KnownBytes.{Appends-nil, Appends-trans}
use Rattle.program_io.specs.Writing.{GoesOut}

-- nothing goes out
pub goes-nowhere : (old : Option (List ℕ)) (text : List ℕ) → GoesOut text old old text
goes-nowhere old text = ([], (Appends-nil old, refl))

-- what was left goes out in part too
pub goes-further : (text : List ℕ) (old middle new : Option (List ℕ)) (left last : List ℕ)
    → GoesOut text old middle left → GoesOut left middle new last → GoesOut text old new last
goes-further text old middle new left last first then = (
  first.0 ++ then.0,
  (
    Appends-trans old middle new first.0 then.0 first.1.0 then.1.0,
    first.1.1 ∙ ap (λ l. first.0 ++ l) then.1.1 ∙ sym (append_assoc first.0 then.0 last),
  ),
)

-- and so does the text with more behind it
pub goes-with : (text : List ℕ) (old new : Option (List ℕ)) (left more : List ℕ) → GoesOut text old new left
    → GoesOut (text ++ more) old new (left ++ more)
goes-with text old new left more goes =
    (goes.0, (goes.1.0, ap (λ l. l ++ more) goes.1.1 ∙ append_assoc goes.0 left more))
