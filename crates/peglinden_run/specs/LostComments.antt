-- Files whose comments would be lost where they are written: GraphQL specification of October 2021, section
-- 2.1.4.
use Rattle.std.specs.Prelude.{◌≡◌, ◌≢◌, ◌&&◌, ◌==◌, ◌++◌, ℕ, zero, suc, Bool, false, List, [], ◌∷◌, Some, codes}
use Rattle.std.specs.Prelude.{decimal, if◌then◌else◌, length, map}
use Rattle.std.specs.Borrow.{Bor}
use Rattle.std.specs.List.{AllByRecursion, flat_map, slice_get}
use Rattle.graphql_nodes.specs.LineColumns.{line_column_of}
use Rattle.graphql_nodes.specs.Sources.{Files}
use Rattle.graphql_nodes.specs.declared.line_column.LineColumn.{LineColumn}
use Rattle.graphql_nodes.specs.declared.source.SourceFile.{SourceFile}
use Rattle.graphql_tokens.specs.Comments.{has_comment}
use Rattle.graphql_ast.specs.declared.document.Document.{Document}
use Rattle.apollo_compiler.specs.declared.compile_error.CompileError.TheVariants as spent
use Rattle.peglinden_run.specs.declared.failure.Failure.{Failure}
use Rattle.peglinden_run.specs.declared.failure.Failure.TheVariants as failures
use Rattle.peglinden_run.specs.declared.form.Form.{Form}
use Rattle.peglinden_run.specs.declared.printed.Printed.{Printed}
use Rattle.peglinden_run.specs.CommentPlaces.{IsCommentAt}
use Rattle.peglinden_run.specs.Printed.{IsArranged}
use Rattle.peglinden_run.specs.Reports.{SaysEach}
use Rattle.peglinden_run.specs.UnwrittenFiles.{unwritten_in, unwritten_tally}

-- the first of these files, if its text has a comment
abbrev pub commented_first : Files → List SourceFile
commented_first [] = []
commented_first (file ∷ files) = if has_comment file.1.text then file.1 ∷ [] else []

-- the file of a document, if its text has a comment
abbrev pub commented_file : Document → List SourceFile
commented_file document = commented_first document.sources

-- the files of documents whose texts have comments, in order
abbrev pub commented_files : List Document → List SourceFile
commented_files documents = flat_map commented_file documents

-- files that are lent
abbrev pub lent_files : List (Bor SourceFile) → List SourceFile
lent_files files = map (λ (file : Bor SourceFile). file.now) files

-- no text has a comment, unless they are to be dropped
abbrev pub KeepsComments : Bool → List Document → Type 0
KeepsComments dropped documents = dropped ≡ false → commented_files documents ≡ []

-- a comment of this text begins at this line and column
abbrev pub HasCommentAt : List ℕ → LineColumn → Type 0
HasCommentAt text at = (place : ℕ) × (IsCommentAt text place × (line_column_of text place ≡ Some at))

-- so many more, if there is one
abbrev pub more_words : ℕ → List ℕ
more_words zero = []
more_words (suc n) = codes " and " ++ decimal (suc n) ++ codes " more"

-- the lines of places and how many more there are: `1`, `1 and 4`, `1, 4 and 7`, `1, 4 and 9 more`
abbrev pub lines_words : ℕ → List LineColumn → List ℕ
lines_words more [] = []
lines_words more (at ∷ []) = decimal at.line ++ more_words more
lines_words zero (at ∷ last ∷ []) = decimal at.line ++ codes " and " ++ decimal last.line
lines_words more (at ∷ places) = decimal at.line ++ codes ", " ++ lines_words more places

-- whether it is one place alone
abbrev pub is_one : ℕ → List LineColumn → Bool
is_one more places = (length places == 1) && (more == 0)

-- what is said before the lines of comments
abbrev pub comment_words : ℕ → List LineColumn → List ℕ
comment_words more places = if is_one more places then codes "its comment in line "
    else codes "its comments in lines "

-- why a file isn't written whose comments begin at these places and at so many more
abbrev pub loss_words : ℕ → List LineColumn → List ℕ
loss_words more places = comment_words more places ++ lines_words more places
    ++ codes " would be lost, unless `--drop-comments` is given"

-- the text is what a form says of a file whose comments would be lost. It names the lines of some of them,
-- and how many more there are
pub record IsLossReport (form : Form) (file : SourceFile) (report : List ℕ) : Type 0 where
  -- where those begin that are named
  pub places : List LineColumn
  pub begin : AllByRecursion (HasCommentAt file.text) places
  pub more : ℕ
  pub says : report ≡ unwritten_in form (codes "LosesComments") file.path (slice_get places 0)
      (loss_words more places)

-- what is printed is what a form says of each of these files, whose comments would be lost; the words name so
-- many files
pub record IsLossPrinted (form : Form) (files : ℕ) (commented : List SourceFile) (printed : Printed) : Type 0
  where
    pub said : List ℕ
    pub says : SaysEach (IsLossReport form) commented said
    pub shows : IsArranged form (unwritten_tally (length commented) files) [] said printed

-- why documents of so many files may not be written: texts have comments, and they are not to be dropped;
-- that memory ran out says nothing of them
abbrev pub IsLossCause : Form → Bool → ℕ → List Document → Failure → Type 0
IsLossCause form dropped files documents (failures.Files printed) = (dropped ≡ false)
    × ((commented_files documents ≢ []) × IsLossPrinted form files (commented_files documents) printed)
IsLossCause form dropped files documents (failures.Exhausted spent.Memory) = Unit {0}
IsLossCause form dropped files documents _ = ⊥
