-- What documents the lines of a text say: docs/NOTATION.md.
use Rattle.std.specs.Prelude.{ℕ, List, [], ◌∷◌, ◌≡◌, ◌++◌, ◌+◌, ◌<◌, All, Bool, true, false, get_or, length}
use Rattle.std.specs.Prelude.{take, Option, None, Some, option_map}
use Rattle.graphql_nodes.specs.declared.source.SourceSpan.{SourceSpan}
use Rattle.graphql_ast.specs.declared.definition.Definition.{Definition}
use Rattle.graphql_ast.specs.declared.document.Document.{Document}
use Rattle.bench_notation.specs.declared.above.Above.{Above}
use Rattle.bench_notation.specs.declared.above.Position.{Position}
use Rattle.bench_notation.specs.declared.documents.Division.{Division}
use Rattle.bench_notation.specs.declared.documents.Division.TheVariants as v
use Rattle.bench_notation.specs.declared.above.Above.TheVariants as a
use Rattle.bench_notation.specs.declared.line.Line.{Line}
use Rattle.bench_notation.specs.declared.line.Line.TheVariants as l
use Rattle.bench_notation.specs.declared.item.OpenItem.{OpenItem}
use Rattle.bench_notation.specs.declared.documents.DocumentReader.{DocumentReader}
use Rattle.bench_notation.specs.Components.{above_below, header_alone, whole_item, with_component}
use Rattle.bench_notation.specs.declared.refusal.RefusedLine.{RefusedLine}
use Rattle.bench_notation.specs.declared.refusal.ReadError.{ReadError}
use Rattle.bench_notation.specs.declared.refusal.ReadError.TheVariants as e
use Rattle.bench_notation.specs.Line.{IsLine, Says, line_location, lines_of}
use Rattle.bench_notation.specs.Places.{StandsBelow}
use Rattle.bench_notation.specs.Refusals.{SaysNothing}

-- definitions and, if there is one more, that
abbrev pub with_item : List Definition → Option OpenItem → List Definition
with_item definitions None = definitions
with_item definitions (Some item) = definitions ++ whole_item item ∷ []

-- a document without definitions and source files
abbrev pub no_definitions : Document
no_definitions = record { sources = []; definitions = [] }

-- before the first line of a text that is divided there
abbrev pub nothing_read : Division → DocumentReader
nothing_read division = record { division = division; documents = []; document = no_definitions; item = None }

-- after the end of an item
abbrev pub item_ended : DocumentReader → DocumentReader
item_ended reader =
    record reader {
      document = record reader.document {
        definitions = with_item reader.document.definitions
            reader.item;
      };
      item = None;
    }

-- after the end of a document
abbrev pub document_ended : DocumentReader → DocumentReader
document_ended reader =
    record {
      division = reader.division;
      documents = reader.documents ++ (item_ended reader).document ∷ [];
      document = no_definitions;
      item = None;
    }

-- after the end of the documents before a division
abbrev pub divided : DocumentReader → DocumentReader
divided reader = nothing_read (v.After (document_ended reader).documents)

-- after one line more
abbrev pub line_added : Line → SourceSpan → DocumentReader → DocumentReader
line_added l.Empty location reader = reader
line_added l.Break location reader = document_ended reader
line_added l.Division location reader = divided reader
line_added (l.Header header) location reader =
    record (item_ended reader) { item = Some (header_alone header location) }
line_added (l.Component component) location reader =
    record reader { item = option_map (with_component component location) reader.item }

-- what stands above the next line, where this item is being read, or none
abbrev pub above_next : Option OpenItem → Above
above_next None = a.Nothing
above_next (Some item) = above_below item.header item.last_field item.selections

-- a division may come where one is to come
abbrev pub may_divide : Division → Bool
may_divide v.ToCome = true
may_divide _ = false

-- where the next line comes
abbrev pub position_next : DocumentReader → Position
position_next reader = record { above = above_next reader.item; may_divide = may_divide reader.division }

-- a line may stand where it comes next
abbrev pub MayStand : Line → DocumentReader → Type 0
MayStand line reader = StandsBelow (position_next reader) line

-- one line leads from a state of the reading to another
pub record Takes (text : List ℕ) (location : SourceSpan) (old new : DocumentReader) : Type 0 where
  -- what the text of the line says
  pub line : Line
  pub says : Says location text line
  -- such a line may stand there
  pub stands : MayStand line old
  -- the new state is the old one with this line added
  pub added : new ≡ line_added line location old

-- these lines, of which the first has this number, lead from a state of the reading to another
abbrev pub LeadTo : ℕ → List (List ℕ) → DocumentReader → DocumentReader → Type 0
LeadTo number [] old new = old ≡ new
LeadTo number (text ∷ texts) old new = (next : DocumentReader)
    × (Takes text (line_location number) old next × LeadTo (number + 1) texts next new)

-- the documents that a text says: its lines lead to them, counted from 1, and none divides them
pub record AreDocumentsOf (text : List ℕ) (documents : List Document) : Type 0 where
  -- the state after the last line
  pub end : DocumentReader
  pub leads : LeadTo 1 (lines_of text) (nothing_read v.Never) end
  pub are : documents ≡ (document_ended end).documents

-- the documents that a text says before the line that divides it, and behind it
pub record AreDividedDocumentsOf (text : List ℕ) (schema executable : List Document) : Type 0 where
  -- the state after the last line
  pub end : DocumentReader
  pub leads : LeadTo 1 (lines_of text) (nothing_read v.ToCome) end
  -- the documents before the line that divides the text
  pub before : end.division ≡ v.After schema
  -- the documents behind that line
  pub behind : executable ≡ (document_ended end).documents

-- read from a state of the reading, the refused line is one of these lines. Those before it say something.
-- Where they lead, it says nothing that may stand there
pub record IsFirstRefusedFrom (start : DocumentReader) (lines : List (List ℕ)) (refused : RefusedLine) :
    Type 0 where
  -- how many lines stand before the refused one
  pub before : ℕ
  -- lines are counted from 1
  pub number : refused.number ≡ before + 1
  pub within : before < length lines
  -- all lines before it say something
  pub read : All IsLine (take before lines)
  -- the state that those lines lead to
  pub reader : DocumentReader
  pub leads : LeadTo 1 (take before lines) start reader
  -- the line says nothing that may stand there
  pub nothing : SaysNothing (position_next reader) (line_location refused.number) (get_or lines before [])

-- an error of taking these lines in a state of the reading; that memory ran out says nothing of them
abbrev pub IsLinesError : DocumentReader → List (List ℕ) → ReadError → Type 0
IsLinesError start lines (e.Refused refused) = IsFirstRefusedFrom start lines refused
IsLinesError start lines e.NoDivision = ⊥
IsLinesError start lines e.Memory = Unit {0}

-- read from the first on, where no line may divide them
abbrev pub IsFirstRefused : List (List ℕ) → RefusedLine → Type 0
IsFirstRefused = IsFirstRefusedFrom (nothing_read v.Never)

-- an error of reading these lines, where none may divide them
abbrev pub IsReadError : List (List ℕ) → ReadError → Type 0
IsReadError = IsLinesError (nothing_read v.Never)

-- all of these lines say something, and none divides them
pub record AreUndivided (lines : List (List ℕ)) : Type 0 where
  -- the state after the last line
  pub end : DocumentReader
  pub leads : LeadTo 1 lines (nothing_read v.ToCome) end
  -- no line divides them
  pub whole : (before : List Document) → ¬ (end.division ≡ v.After before)

-- an error of reading these lines, where one is to divide them
abbrev pub IsDividedReadError : List (List ℕ) → ReadError → Type 0
IsDividedReadError lines (e.Refused refused) = IsFirstRefusedFrom (nothing_read v.ToCome) lines refused
IsDividedReadError lines e.NoDivision = AreUndivided lines
IsDividedReadError lines e.Memory = Unit {0}
