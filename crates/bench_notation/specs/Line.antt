-- What the lines of the notation say: docs/NOTATION.md.
use Rattle.std.specs.Prelude.{ℕ, List, [], ◌∷◌, ◌≡◌, ◌==◌, ◌≤◌, ◌+◌, Option, None, Some, IfSome, codes}
use Rattle.std.specs.Prelude.{decimal, length, map}
use Rattle.std.specs.Borrow.{Bor}
use Rattle.std.specs.List.{slice_split}
use Rattle.graphql_nodes.specs.NameView.{NameView}
use Rattle.graphql_nodes.specs.NameSyntax.{IsName}
use Rattle.graphql_nodes.specs.LocationTexts.{location_text}
use Rattle.graphql_nodes.specs.OperationTexts.{operation_text}
use Rattle.graphql_ast.specs.TypeReferences.{inner_name}
use Rattle.graphql_nodes.specs.declared.operation_type.OperationType.{OperationType}
use Rattle.graphql_nodes.specs.declared.source.SourceSpan.{SourceSpan}
use Rattle.graphql_ast.specs.declared.type_reference.Type.{«Type» as TypeReference}
use Rattle.bench_notation.specs.declared.selection_line.Selected.{Selected}
use Rattle.bench_notation.specs.declared.selection_line.Selected.TheVariants as w
use Rattle.bench_notation.specs.declared.executable_header.ExecutableHeader.{ExecutableHeader}
use Rattle.bench_notation.specs.declared.executable_header.ExecutableHeader.TheVariants as x
use Rattle.bench_notation.specs.declared.line.Line.{Line}
use Rattle.bench_notation.specs.declared.line.Line.TheVariants as l
use Rattle.bench_notation.specs.declared.line.Header.{Header}
use Rattle.bench_notation.specs.declared.line.Header.TheVariants as h
use Rattle.bench_notation.specs.declared.line.Component.{Component}
use Rattle.bench_notation.specs.declared.line.Component.TheVariants as c
use Rattle.bench_notation.specs.HeaderWords.{role_word, schema_word, kind_word, name_word}
use Rattle.bench_notation.specs.Text.{type_text, opened_brackets}

-- the texts of words or lines
abbrev pub texts_of : List (Bor (List ℕ)) → List (List ℕ)
texts_of words = map (λ word. word.now) words

-- the lines of a text, each ended by a line feed, which the last may lack
abbrev pub lines_of : List ℕ → List (List ℕ)
lines_of text = slice_split (λ b. b == 10) text

-- the words of a line, which stand between its spaces
abbrev pub words_of : List ℕ → List (List ℕ)
words_of line = slice_split (λ b. b == 32) line

-- the pieces of what is left of a text, if something is left
abbrev pub pieces_left : ℕ → Option (Bor (List ℕ)) → List (List ℕ)
pieces_left between None = []
pieces_left between (Some text) = slice_split (λ b. b == between) text.now

-- how many bytes are left, and one more; 0 if nothing is left
abbrev pub bytes_left : Option (Bor (List ℕ)) → ℕ
bytes_left None = 0
bytes_left (Some text) = length text.now + 1

-- the location of what stands on the line of this number: the bench has one file, whose number is 1
abbrev pub line_location : ℕ → SourceSpan
line_location number = record { file = record { 0 = 1 }; start = number; end = number }

-- a GraphQL name that stands at this location
abbrev pub IsNameAt : SourceSpan → NameView → Type 0
IsNameAt location name = IsName name.text × (name.location ≡ Some location)

-- a type of at most 200 brackets whose name stands at this location
abbrev pub IsTypeAt : SourceSpan → TypeReference → Type 0
IsTypeAt location ty = (opened_brackets ty ≤ 200) × IsNameAt location (inner_name ty)

-- these words are a name that stands at this location
abbrev pub AreName : SourceSpan → List (List ℕ) → NameView → Type 0
AreName location words name = (words ≡ name.text ∷ []) × IsNameAt location name

-- these words are a name and a type that stand at this location
abbrev pub AreNameAndType : SourceSpan → List (List ℕ) → NameView → TypeReference → Type 0
AreNameAndType location words name ty = (words ≡ name.text ∷ type_text ty ∷ [])
    × (IsNameAt location name × IsTypeAt location ty)

-- these words are a kind of operation, and a name that stands at this location
abbrev pub AreRoot : SourceSpan → List (List ℕ) → OperationType → NameView → Type 0
AreRoot location words operation name = (words ≡ operation_text operation ∷ name.text ∷ [])
    × IsNameAt location name

-- the name that there is, if there is one, stands at this location
abbrev pub IsOptionalNameAt : SourceSpan → Option NameView → Type 0
IsOptionalNameAt location name = IfSome name (IsNameAt location)

-- the word of a name, or no word
abbrev pub optional_word : Option NameView → List (List ℕ)
optional_word None = []
optional_word (Some name) = name.text ∷ []

-- these words are a name that stands at this location, or there is no word
abbrev pub AreOptionalName : SourceSpan → List (List ℕ) → Option NameView → Type 0
AreOptionalName location words name = (words ≡ optional_word name) × IsOptionalNameAt location name

-- these words are a name, and an alias behind it or none, that stand at this location
abbrev pub AreNameAndAlias : SourceSpan → List (List ℕ) → NameView → Option NameView → Type 0
AreNameAndAlias location words name alias = (words ≡ name.text ∷ optional_word alias)
    × (IsNameAt location name × IsOptionalNameAt location alias)

-- these words are a kind of operation, and a name that stands at this location or the word for none
abbrev pub AreOperation : SourceSpan → List (List ℕ) → OperationType → Option NameView → Type 0
AreOperation location words operation name = (words ≡ operation_text operation ∷ name_word name ∷ [])
    × IsOptionalNameAt location name

-- these words are a fragment's name and that of its type, which stand at this location
abbrev pub AreFragment : SourceSpan → List (List ℕ) → NameView → NameView → Type 0
AreFragment location words name condition = (words ≡ name.text ∷ condition.text ∷ [])
    × (IsNameAt location name × IsNameAt location condition)

-- the words of what is selected
abbrev pub selected_words : Selected → List (List ℕ)
selected_words (w.Field name alias) = codes "field" ∷ name.text ∷ optional_word alias
selected_words (w.Spread name) = codes "spread" ∷ name.text ∷ []
selected_words (w.Inline condition) = codes "inline" ∷ optional_word condition

-- the names of what is selected stand at this location
abbrev pub IsSelectedAt : SourceSpan → Selected → Type 0
IsSelectedAt location (w.Field name alias) = IsNameAt location name × IsOptionalNameAt location alias
IsSelectedAt location (w.Spread name) = IsNameAt location name
IsSelectedAt location (w.Inline condition) = IsOptionalNameAt location condition

-- these words are what is selected, whose names stand at this location
abbrev pub AreSelected : SourceSpan → List (List ℕ) → Selected → Type 0
AreSelected location words selected = (words ≡ selected_words selected) × IsSelectedAt location selected

-- a selection stands at most 200 deep
abbrev pub IsDepth : ℕ → Type 0
IsDepth depth = depth ≤ 200

-- these words are a depth and what is selected, whose names stand at this location
abbrev pub AreSelection : SourceSpan → List (List ℕ) → ℕ → Selected → Type 0
AreSelection location words depth selected = (words ≡ decimal depth ∷ selected_words selected)
    × (IsDepth depth × IsSelectedAt location selected)

-- a word, then a name that stands at this location
abbrev pub SaysName : SourceSpan → List (List ℕ) → List ℕ → NameView → Type 0
SaysName location words word name = (words ≡ word ∷ name.text ∷ []) × IsNameAt location name

-- a word, then a name and a type that stand at this location
abbrev pub SaysNameAndType : SourceSpan → List (List ℕ) → List ℕ → NameView → TypeReference → Type 0
SaysNameAndType location words word name ty = (words ≡ word ∷ name.text ∷ type_text ty ∷ [])
    × (IsNameAt location name × IsTypeAt location ty)

-- a word, then a kind of operation, and a name that stands at this location
abbrev pub SaysRoot : SourceSpan → List (List ℕ) → List ℕ → OperationType → NameView → Type 0
SaysRoot location words word operation name = (words ≡ word ∷ operation_text operation ∷ name.text ∷ [])
    × IsNameAt location name

-- what the header line of an operation or fragment says
abbrev pub SaysExecutable : SourceSpan → List (List ℕ) → ExecutableHeader → Type 0
SaysExecutable location words (x.Operation operation name) =
    (words ≡ codes "operation" ∷ operation_text operation ∷ name_word name ∷ [])
    × IsOptionalNameAt location name
SaysExecutable location words (x.Fragment name condition) =
    (words ≡ codes "fragment" ∷ name.text ∷ condition.text ∷ [])
    × (IsNameAt location name × IsNameAt location condition)

-- what a header line says
abbrev pub SaysHeader : SourceSpan → List (List ℕ) → Header → Type 0
SaysHeader location words (h.Type role kind name) = (words ≡ role_word role ∷ kind_word kind ∷ name.text ∷ [])
    × IsNameAt location name
SaysHeader location words (h.Directive name) = SaysName location words (codes "directive") name
SaysHeader location words (h.Schema role) = words ≡ schema_word role ∷ []
SaysHeader location words (h.Executable header) = SaysExecutable location words header

-- what a line below a header says
abbrev pub SaysComponent : SourceSpan → List (List ℕ) → Component → Type 0
SaysComponent location words (c.Directive name) = SaysName location words (codes "@") name
SaysComponent location words (c.Implements name) = SaysName location words (codes "implements") name
SaysComponent location words (c.Field name ty) = SaysNameAndType location words (codes "field") name ty
SaysComponent location words (c.FieldDirective name) = SaysName location words (codes "field@") name
SaysComponent location words (c.Argument name ty) = SaysNameAndType location words (codes "arg") name ty
SaysComponent location words (c.Member name) = SaysName location words (codes "member") name
SaysComponent location words (c.Value name) = SaysName location words (codes "value") name
SaysComponent location words (c.On directive_location) =
    words ≡ codes "on" ∷ location_text directive_location ∷ []
SaysComponent location words c.Repeatable = words ≡ codes "repeatable" ∷ []
SaysComponent location words (c.Root operation name) = SaysRoot location words (codes "root") operation name
SaysComponent location words (c.Selection depth selected) =
    (words ≡ codes "sel" ∷ decimal depth ∷ selected_words selected)
    × (IsDepth depth × IsSelectedAt location selected)

-- what a line of these words says that is not empty
abbrev pub SayLine : SourceSpan → List (List ℕ) → Line → Type 0
SayLine location words l.Empty = ⊥
SayLine location words l.Break = words ≡ codes "---" ∷ []
SayLine location words l.Division = words ≡ codes "===" ∷ []
SayLine location words (l.Header header) = SaysHeader location words header
SayLine location words (l.Component component) = SaysComponent location words component

-- what a line says, of which each name stands at this location
abbrev pub Says : SourceSpan → List ℕ → Line → Type 0
Says location text l.Empty = text ≡ []
Says location text line = SayLine location (words_of text) line

-- a line that says something
pub record IsLine (text : List ℕ) : Type 0 where
  pub location : SourceSpan
  pub line : Line
  pub says : Says location text line
