-- Words, as contracts see them: GraphQL specification of October 2021, section 2.1.6.
use Rattle.std.specs.Prelude.{ℕ, List, [], ◌∷◌, Bool, false, Option, None, Some}
use Rattle.graphql_grammar.specs.Kinds.{Kinds}
use Rattle.graphql_grammar.specs.declared.kind.Kind.{Kind}
use Rattle.graphql_grammar.specs.declared.word.Word.{Word}

-- a word: what it is, its bytes, and where it stands
pub record WordView : Type 0 where
  -- what it is
  pub kind : Kind
  -- its bytes
  pub text : List ℕ
  -- where it begins
  pub start : ℕ
  -- where it ends
  pub end : ℕ

-- a word of the code, as contracts see it
abbrev pub word_view : Word → WordView
word_view w = record { kind = w.kind; text = w.text.now; start = w.start; end = w.end }

-- whether the first of these is of such a kind
abbrev pub begins : Kinds → List WordView → Bool
begins kinds [] = false
begins kinds (w ∷ ws) = kinds w.kind

-- the first of these
abbrev pub first_word : List WordView → Option WordView
first_word [] = None
first_word (w ∷ ws) = Some w

-- the second of these
abbrev pub second_word : List WordView → Option WordView
second_word [] = None
second_word (w ∷ ws) = first_word ws

-- a word of the code, if there is one
abbrev pub seen_word : Option Word → Option WordView
seen_word None = None
seen_word (Some w) = Some (word_view w)

-- the kind of the first of these
abbrev pub first_kind : List WordView → Option Kind
first_kind [] = None
first_kind (w ∷ ws) = Some w.kind

-- where the first of these starts
abbrev pub starting : List WordView → ℕ
starting [] = 0
starting (w ∷ ws) = w.start

-- where the last of these ends, after what ended here
abbrev pub ended : ℕ → List WordView → ℕ
ended last [] = last
ended last (w ∷ ws) = ended w.end ws
