-- Where reading stands, as contracts see it.
use Rattle.std.specs.Prelude.{ℕ, List, [], ◌∷◌, ◌-◌, Option, None, Some}
use Rattle.graphql_grammar.specs.Words.{WordView, word_view}
use Rattle.graphql_grammar.specs.WordsOfText.{words_at}
use Rattle.graphql_grammar.specs.Pieces.{State}
use Rattle.graphql_grammar.specs.declared.word.Word.{Word}
use Rattle.graphql_grammar.specs.declared.words.Split.{Split}
use Rattle.graphql_grammar.specs.declared.words.Words.{Words}

-- the word that comes next, if there is one, and those behind it
abbrev pub before : Option Word → List WordView → List WordView
before None behind = []
before (Some w) behind = word_view w ∷ behind

-- a word that was made of the end of a text, and those of what stands behind it, of which one less is allowed
abbrev pub words_of_split : ℕ → ℕ → Option Split → List WordView
words_of_split allowed total None = []
words_of_split allowed total (Some split) = word_view split.word ∷ words_at (allowed - 1) total split.rest.now

-- the end of the last word that was taken, and the words that are left
abbrev pub standing : Words → State
standing words =
    record { last = words.last; left = before words.next (words_at words.allowed words.total words.rest.now) }
