-- Documents of files, one file after another.
use Rattle.std.proofs.Common.{◌≡◌, ◌≢◌, ◌⊎◌, ℕ, ◌+◌, suc, List, [], ◌∷◌, ◌++◌, Option, Some, Result, Ok, Err}
use Rattle.std.proofs.Common.{IfOk, MatchResult, ◌<◌, ◌≤◌, count_by, is_some, get_or, take, length, length-take-le}
use Rattle.std.proofs.Common.{le_of_lt, inl, inr, refl, sym, ap, subst, ◌∙◌, add-zero, arith}
use Rattle.std.specs.Borrow.{Bor}
use Rattle.std.specs.List.{flat_map}
use Rattle.std.proofs.lemmas.Grind.{flat_map-append}
use Rattle.std.proofs.lemmas.List.Sums.{sum_by-append}
use Rattle.std.proofs.lemmas.List.{append-nil, length-map, map-append, take_all, take_more}
use Rattle.graphql_nodes.specs.declared.source.FileId.{FileId}
use Rattle.graphql_nodes.specs.declared.source.SourceFile.{SourceFile}
use Rattle.graphql_ast.specs.declared.definition.Definition.{Definition}
use Rattle.graphql_ast.specs.declared.document.Document.{Document}
use Rattle.graphql_grammar.specs.WordsOfText.{words_of}
use Rattle.graphql_productions.specs.Documents.{document, spells_document}
use Rattle.graphql_text.specs.Parses.{IsRefused}
use Rattle.graphql_text.specs.declared.parse_error.ParseError.{ParseError}
use Rattle.graphql_text.specs.declared.parse_error.ParseErrorKind.TheVariants as kinds
use Rattle.graphql_text.specs.declared.parsing.ParseOptions.{ParseOptions}
use Rattle.apollo_reporting.specs.TextErrors.{parse_error_about, parse_error_details}
use Rattle.program_io.specs.Files.{CannotBeRead, IsFileCause}
use Rattle.program_io.specs.declared.file_error.FileError.{FileError}
use Rattle.program_io.specs.declared.file_error.FileError.TheVariants as errors
use Rattle.peglinden_run.specs.Documents.{AreDocumentsAt, IsDocumentAt, IsDocumentOf, most_open, most_tokens}
use Rattle.peglinden_run.specs.Documents.{texts_of}
use Rattle.peglinden_run.specs.RefusedFiles.{AreReported, IsRefusedFile, IsRefusedText, IsReported}
use Rattle.peglinden_run.specs.RefusedFiles.{IsFilesReport, if_reported, refused_tally}
use Rattle.peglinden_run.specs.declared.form.Form.{Form}
use Rattle.peglinden_run.specs.declared.printed.Printed.{Printed}
use Rattle.peglinden_run.specs.declared.printed.Tally.{Tally}
use Rattle.peglinden_run.specs.declared.reports.Subject.TheVariants as subjects
use Rattle.peglinden_run.specs.Printed.{IsArranged}
use Rattle.peglinden_run.specs.Reports.{IsSaid}

-- there is one document for each file
pub documents-length : (held : List ℕ → List ℕ → Type 0) (number : ℕ) (paths : List (List ℕ))
    (documents : List Document) → AreDocumentsAt held number paths documents → length documents ≡ length paths
documents-length held number [] documents are = ap length are
documents-length held number (path ∷ paths) documents are = ap length are.1.1.0
    ∙ ap suc (documents-length held _ paths are.1.0 are.1.1.1.1)

-- the options that reading a document has unless others are given
abbrev pub usual : ParseOptions
usual = record { max_depth = most_open; max_tokens = most_tokens }

pub same-file : (path other text read : List ℕ) → path ≡ other → text ≡ read
    → ◌≡◌ {A = SourceFile} (record { path = path; text = text }) (record { path = other; text = read })
same-file path other text read paths texts = λ i. record { path = paths i; text = texts i }

-- a text that is read is that of the source, and so is the path
pub document-of : (number : FileId) (path text : List ℕ) (options : ParseOptions) (source : SourceFile)
    (document : Document) → source ≡ record { path = path; text = text } → options ≡ usual
    → document.sources ≡ (number, source) ∷ []
    → spells_document number options.max_depth document.definitions (words_of options.max_tokens source.text)
    → IsDocumentOf number.0 path text document
document-of number path text options source document is most sources spelled =
    record { sources = rw is at sources; spelled = rw (most, is) at spelled }

the_last : {A B C : Type 0} → A ⊎ (B ⊎ C) → ¬ A → ¬ B → C
the_last (inl a) no_a no_b = absurd (no_a a)
the_last (inr (inl b)) no_a no_b = absurd (no_b b)
the_last (inr (inr c)) no_a no_b = c

-- the report of why a text is refused, which has no document, and where it is, in a file that has a number
pub refused-text : (form : Form) (number : FileId) (path text : List ℕ) (options : ParseOptions)
    (source : SourceFile)
    (error : ParseError) (report : List ℕ) → source ≡ record { path = path; text = text } → options ≡ usual
    → number.0 ≢ 0
    → ((definitions : List Definition) → spells_document number options.max_depth definitions
    (words_of options.max_tokens source.text) → error.kind ≡ kinds.Memory)
    → IsRefused (document number options.max_depth) (spells_document number options.max_depth)
    (document number (suc options.max_depth)).spells number (length source.text) (words_of options.max_tokens
    source.text) error → error.kind ≢ kinds.Memory
    → IsSaid subjects.Refusal form ((number, source) ∷ []) (Some error.location) (parse_error_about error)
    (Some (parse_error_details error)) report
    → IsRefusedText form number.0 path text report
refused-text form number path text options source error report is most some only refused other reports =
    let there = the_last refused other (λ (none : (number.0 ≡ 0) × (error.kind ≡ kinds.BuiltInFile)). some
    none.0) in (
      λ definitions spelled. other ((rw (most, is) at only) definitions spelled),
      (error, (rw (most, is) at there, rw is at reports)),
    )

-- what is read of a text that a file may hold
pub read-text : {B E : Type 0} (form : Form) (bytes_of : B → List ℕ) (held : List ℕ → List ℕ → Type 0)
    (may_fail : List ℕ
    → Type 0) (number : ℕ) (path text : List ℕ) (r : Result (Result Document B) E) → held path text
    → IfOk r (λ read. MatchResult read (IsDocumentOf number path text)
    (λ report. IsRefusedText form number path
    text (bytes_of report)))
    → IfOk r (λ read. MatchResult read (IsDocumentAt held number path)
    (λ report. IsRefusedFile form held may_fail
    number path (bytes_of report)))
read-text form bytes_of held may_fail number path text (Ok (Ok document)) holds is = (text, (holds, is))
read-text form bytes_of held may_fail number path text (Ok (Err report)) holds is = inr (text, (holds, is))
read-text form bytes_of held may_fail number path text (Err error) holds is = tt

-- what keeps a file from being read, unless memory ran out
pub unread : (held : List ℕ → Type 0) (may_fail : Type 0) (error : FileError)
    → IsFileCause held may_fail error → error ≢ errors.Memory → CannotBeRead held may_fail
unread held may_fail (errors.CannotRead why) cause other = inl cause
unread held may_fail errors.NotText cause other = inr cause
unread held may_fail errors.Memory cause other = absurd (other refl)

next : (number count : ℕ) → number + suc count ≡ suc number + count
next number count = omega arith

-- the document of one file more
pub documents-more : (held : List ℕ → List ℕ → Type 0) (number : ℕ) (paths : List (List ℕ))
    (documents : List Document) (path : List ℕ) (document : Document)
    → AreDocumentsAt held number paths documents → IsDocumentAt held (number + length paths) path document
    → AreDocumentsAt held number (paths ++ path ∷ []) (documents ++ document ∷ [])
documents-more held number [] documents path document are is =
    let one = rw (add-zero number) at is in
    (document, ([], (ap (λ l. l ++ document ∷ []) are, (one, refl))))
documents-more held number (first ∷ paths) documents path document are is =
    let rest = documents-more held _ paths are.1.0 path document are.1.1.1.1
    (rw (next number (length paths)) at is) in
    (are.0, (are.1.0 ++ document ∷ [], (ap (λ l. l ++ document ∷ []) are.1.1.0, (are.1.1.1.0, rest))))

-- and what is reported of it
pub reported-more : (form : Form) (held : List ℕ → List ℕ → Type 0) (may_fail : List ℕ → Type 0) (number : ℕ)
    (paths : List (List ℕ)) (reports : List (Option (List ℕ))) (path : List ℕ) (report : Option (List ℕ))
    → AreReported form held may_fail number paths reports
    → IsReported form held may_fail (number + length paths) path report
    → AreReported form held may_fail number (paths ++ path ∷ []) (reports ++ report ∷ [])
reported-more form held may_fail number [] reports path report are is =
    let one = rw (add-zero number) at is in
    (report, ([], (ap (λ l. l ++ report ∷ []) are, (one, refl))))
reported-more form held may_fail number (first ∷ paths) reports path report are is =
    let rest = reported-more form held may_fail _ paths are.1.0 path report are.1.1.1.1
    (rw (next number (length paths)) at is) in
    (are.0, (are.1.0 ++ report ∷ [], (ap (λ l. l ++ report ∷ []) are.1.1.0, (are.1.1.1.0, rest))))

-- one path more
texts-more : (paths : List (Bor (List ℕ))) (i : ℕ) (d : Bor (List ℕ)) → i < length paths
    → texts_of (take (i + 1) paths) ≡ texts_of (take i paths) ++ (get_or paths i d).now ∷ []
texts-more paths i d below = ap texts_of (take_more paths i d below) ∙ map-append _ _ _

numbered : (paths : List (Bor (List ℕ))) (i : ℕ) → i < length paths
    → i + 1 ≡ 1 + length (texts_of (take i paths))
numbered paths i below = omega (
  arith,
  length-map (take i paths) (λ (path : Bor (List ℕ)). path.now),
  length-take-le i paths (le_of_lt below),
)

-- how many are reported
counted-more : (reports : List (Option (List ℕ))) (report : Option (List ℕ))
    → count_by is_some (reports ++ report ∷ []) ≡ count_by is_some reports + count_by is_some (report ∷ [])
counted-more reports report = sum_by-append _ reports _

-- what is a fact of each value is one of the value that it is, and so of each error
pub matched-ok : {A B : Type 0} (r : Result A B) (x : A) (P : A → Type 0) (Q : B → Type 0) → r ≡ Ok x
    → MatchResult r P Q → P x
matched-ok r x P Q is fact = rw is at fact

pub matched-err : {A B : Type 0} (r : Result A B) (y : B) (P : A → Type 0) (Q : B → Type 0) → r ≡ Err y
    → MatchResult r P Q → Q y
matched-err r y P Q is fact = rw is at fact

-- what is reported of so many of the files: this text, of so many that are refused
pub record Reported (form : Form) (held : List ℕ → List ℕ → Type 0) (may_fail : List ℕ
    → Type 0) (paths : List (Bor (List ℕ))) (upto : ℕ) (text : List ℕ) (count : ℕ) : Type 0 where
  pub reports : List (Option (List ℕ))
  pub are : AreReported form held may_fail 1 (texts_of (take upto paths)) reports
  pub says : text ≡ flat_map if_reported reports
  pub counts : count ≡ count_by is_some reports

module _ (held : List ℕ → List ℕ → Type 0) (may_fail : List ℕ → Type 0) (paths : List (Bor (List ℕ))) (i : ℕ)
    (d : Bor (List ℕ)) (below : i < length paths) where
  some_number : i + 1 ≢ 0
  some_number = omega arith

  -- the document of the next file
  pub next-document : (documents : List Document) (document : Document)
      → (i + 1 ≢ 0 → IsDocumentAt held (i + 1) (get_or paths i d).now document)
      → AreDocumentsAt held 1 (texts_of (take i paths)) documents
      → AreDocumentsAt held 1 (texts_of (take (i + 1) paths)) (documents ++ document ∷ [])
  next-document documents document is are =
      let placed = rw (numbered paths i below) at (is some_number) in
      rw (texts-more paths i d below) (documents-more held 1 (texts_of (take i paths)) documents
      (get_or paths i d).now document are placed)

  -- what is reported of the next file
  pub next-reported : (form : Form) (report : Option (List ℕ)) (text after : List ℕ) (count more : ℕ)
      → (i + 1 ≢ 0 → IsReported form held may_fail (i + 1) (get_or paths i d).now report)
      → Reported form held may_fail paths i text count → after ≡ text ++ if_reported report
      → more ≡ count + count_by is_some (report ∷ []) → Reported form held may_fail paths (i + 1) after more
  next-reported form report text after count more is was adds counts =
      let placed = rw (numbered paths i below) at (is some_number) in
      record {
        reports = was.reports ++ report ∷ [];
        are = rw (texts-more paths i d below) (reported-more form held may_fail 1 (texts_of (take i paths))
            was.reports (get_or paths i d).now report was.are placed);
        says = adds ∙ ap (λ l. l ++ if_reported report) was.says ∙ ap (λ l. flat_map if_reported was.reports
            ++ l) (sym (append-nil _)) ∙ sym (flat_map-append if_reported was.reports _);
        counts = counts ∙ ap (λ n. n + count_by is_some (report ∷ [])) was.counts
            ∙ sym (counted-more was.reports report);
      }

-- what is arranged is a fact of what is equal
pub arranged-as : (form : Form) (tally tally₂ : Tally) (output output₂ said said₂ : List ℕ)
    (printed : Printed)
    → tally ≡ tally₂ → output ≡ output₂ → said ≡ said₂ → IsArranged form tally output said printed
    → IsArranged form tally₂ output₂ said₂ printed
arranged-as form tally tally₂ output output₂ said said₂ printed tallies outputs saids is =
    subst (λ (t : Tally). IsArranged form t output₂ said₂ printed) tallies
    (subst (λ (o : List ℕ). IsArranged form tally o said₂ printed) outputs
    (subst (λ (l : List ℕ). IsArranged form tally output l printed) saids is))

-- what is printed of files, some of which are refused
pub files-report : (form : Form) (held : List ℕ → List ℕ → Type 0) (may_fail : List ℕ
    → Type 0) (paths : List (Bor (List ℕ))) (text output : List ℕ) (count files : ℕ) (printed : Printed)
    → Reported form held may_fail paths (length paths) text count → count ≢ 0 → files ≡ length paths
    → output ≡ []
    → IsArranged form (record { faults = count; shown = count; files = files }) output text printed
    → IsFilesReport form held may_fail (texts_of paths) printed
files-report form held may_fail paths text output count files printed was some named none is =
    let whole : length paths ≤ length paths = omega arith in
    let all : take (length paths) paths ≡ paths = take_all (length paths) paths whole in
    let many : files ≡ length (texts_of paths) = named
    ∙ sym (length-map paths (λ (path : Bor (List ℕ)). path.now))
    in
    record {
      reports = was.reports;
      are = rw all at was.are;
      some = λ zero. some (was.counts ∙ zero);
      says = arranged-as form _ (refused_tally (texts_of paths) was.reports) output [] text
          (flat_map if_reported was.reports) printed (λ i. record {
            faults = was.counts i;
            shown = was.counts i;
            files = many i;
          }) none was.says is;
    }
