-- What calls that read a text answer.
use Rattle.std.specs.Prelude.{◌≡◌, ℕ, List, [], ◌∷◌, Result, Ok, Err, MatchResult, ◌⊎◌}
use Rattle.graphql_nodes.specs.declared.source.FileId.{FileId}
use Rattle.graphql_nodes.specs.declared.source.SourceSpan.{SourceSpan}
use Rattle.graphql_grammar.specs.Pieces.{Piece, Refusal, read_all}
use Rattle.graphql_grammar.specs.Refusals.{RefusedWith, Viable}
use Rattle.graphql_grammar.specs.Words.{WordView}
use Rattle.graphql_grammar.specs.declared.fault.ReadError.{ReadError}
use Rattle.graphql_grammar.specs.declared.fault.ReadError.TheVariants as errors
use Rattle.graphql_text.specs.Said.{Says}
use Rattle.graphql_text.specs.declared.parse_error.ParseError.{ParseError}
use Rattle.graphql_text.specs.declared.parse_error.ParseErrorKind.TheVariants.{BuiltInFile, Memory}

-- where the first of these words stands; where there is none, the end of a text of so many bytes
abbrev pub span_of : FileId → ℕ → List WordView → SourceSpan
span_of file total [] = record { file = file; start = total; end = total }
span_of file total (w ∷ ws) = record { file = file; start = w.start; end = w.end }

-- an error that says what is wrong with the first of the words that are left, and where that stands
pub record Reports (file : FileId) (total : ℕ) (refusal : Refusal) (e : ParseError) : Type 0 where
  pub place : e.location ≡ span_of file total refusal.left
  pub said : Says refusal.kind refusal.left e.kind

-- what became of what a reader returned before these words. The value stays, and so does that memory ran out.
-- A fault is reported where they begin, unless memory runs out
abbrev pub Parsed : {A : Type 0} → FileId → ℕ → List WordView → Result A ReadError → Result A ParseError
    → Type 0
Parsed file total left (Ok x) (Ok y) = y ≡ x
Parsed file total left (Ok x) (Err e) = ⊥
Parsed file total left (Err error) (Ok y) = ⊥
Parsed file total left (Err errors.Memory) (Err e) = e.kind ≡ Memory
Parsed file total left (Err (errors.Fault kind)) (Err e) = (e.kind ≡ Memory)
    ⊎ Reports file total (record { kind = kind; left = left }) e

-- this is answered, unless memory runs out
abbrev pub Answers : {A : Type 0} → A → Result A ParseError → Type 0
Answers x result = MatchResult result (λ y. y ≡ x) (λ e. e.kind ≡ Memory)

-- the number of the file is refused
abbrev pub IsBuiltInFile : {A : Type 0} → Result A ParseError → Type 0
IsBuiltInFile result = MatchResult result (λ y. ⊥) (λ e. e.kind ≡ BuiltInFile)

-- words that are refused where an error says. The words from the one there on are the first, from the left,
-- that are wrong. No words that begin with those before it and with it are such. Those before it begin some
-- that are, where one sign more may be open
pub record RefusedAt {A : Type 0} (p : Piece A) (spells further : A → List WordView
    → Type 0) (file : FileId) (total : ℕ) (words : List WordView) (e : ParseError) : Type 0 where
  pub refusal : Refusal
  pub first : read_all p words ≡ Err refusal
  pub ruled_out : RefusedWith spells words refusal
  pub can_go_on : Viable further words refusal.left
  pub reports : Reports file total refusal e

-- why a text is refused: memory ran out, its file has the number 0, or its words are refused
abbrev pub IsRefused : {A : Type 0} → Piece A → (A → List WordView → Type 0) → (A → List WordView → Type 0)
    → FileId → ℕ → List WordView → ParseError → Type 0
IsRefused p spells further file total words e = (e.kind ≡ Memory)
    ⊎ (((file.0 ≡ 0) × (e.kind ≡ BuiltInFile)) ⊎ RefusedAt p spells further file total words e)
