-- What calls give that read a piece from words, or look at the next.
use Rattle.std.specs.Prelude.{Bool, Result}
use Rattle.graphql_grammar.specs.Kinds.{Kinds}
use Rattle.graphql_grammar.specs.Pieces.{Gives, GivesSeen, Piece}
use Rattle.graphql_grammar.specs.Standing.{standing}
use Rattle.graphql_grammar.specs.Words.{begins}
use Rattle.graphql_grammar.specs.declared.fault.ReadError.{ReadError}
use Rattle.graphql_grammar.specs.declared.words.Words.{Words}

-- what a call gave that reads this piece: from these words, of which those are left
abbrev pub Reads : {A : Type 0} → Piece A → Words → Words → Result A ReadError → Type 0
Reads p from left result = Gives result (standing left) (p.read (standing from))

-- the same of a value that is seen so
abbrev pub ReadsSeen : {A B : Type 0} → (A → B) → Piece B → Words → Words → Result A ReadError → Type 0
ReadsSeen see p from left result = GivesSeen see result (standing left) (p.read (standing from))

-- whether the next of these words is of such a kind
abbrev pub next_begins : Kinds → Words → Bool
next_begins first words = begins first (standing words).left
