-- Files whose comments would be lost.
use Rattle.std.proofs.Common.{◌≡◌, ◌+◌, ◌<◌, ℕ, List, [], ◌∷◌, ◌++◌, Option, None, Some, codes, get_or, length}
use Rattle.std.proofs.Common.{◌∙◌, ap, refl, subst, sym, take}
use Rattle.std.specs.Borrow.{Bor}
use Rattle.std.specs.List.{AllByRecursion, cons_option, filter_map, slice_get}
use Rattle.std.proofs.lemmas.List.{take_more}
use Rattle.graphql_nodes.specs.LineColumns.{line_column_of}
use Rattle.graphql_nodes.specs.declared.line_column.LineColumn.{LineColumn}
use Rattle.graphql_nodes.specs.declared.source.SourceFile.{SourceFile}
use Rattle.peglinden_run.specs.declared.form.Form.{Form}
use Rattle.peglinden_run.specs.CommentPlaces.{IsCommentAt}
use Rattle.peglinden_run.specs.LostComments.{HasCommentAt, IsLossReport, lent_files, loss_words}
use Rattle.peglinden_run.specs.Reports.{SaysEach}
use Rattle.peglinden_run.specs.UnwrittenFiles.{unwritten_in}
use Rattle.peglinden_run.proofs.CommentLemmas.{all-take}
use Rattle.peglinden_run.proofs.ReportLemmas.{says-more}

begins-there : (text : List ℕ) (offset : ℕ) (at : Option LineColumn) (places : List LineColumn)
    → line_column_of text offset ≡ at → IsCommentAt text offset → AllByRecursion (HasCommentAt text) places
    → AllByRecursion (HasCommentAt text) (cons_option at places)
begins-there text offset None places same is all = all
begins-there text offset (Some at) places same is all = ((offset, (is, same)), all)

begin-there : (text offsets : List ℕ) → AllByRecursion (IsCommentAt text) offsets
    → AllByRecursion (HasCommentAt text) (filter_map (line_column_of text) offsets)
begin-there text [] all = tt
begin-there text (offset ∷ offsets) all =
    begins-there text offset (line_column_of text offset) _ refl all.0 (begin-there text offsets all.1)

-- what is said of a file with comments, the first of which are named
pub loss-report : (form : Form) (file : SourceFile) (most : ℕ) (offsets named : List ℕ)
    (places : List LineColumn) (more : ℕ) (at : Option LineColumn) (path why report : List ℕ)
    → AllByRecursion (IsCommentAt file.text) offsets → named ≡ take most offsets
    → places ≡ filter_map (line_column_of file.text) named → at ≡ slice_get places 0
    → path ≡ file.path → why ≡ loss_words more places
    → report ≡ unwritten_in form (codes "LosesComments") path at why → IsLossReport form file report
loss-report form file most offsets named places more at path why report all first there begin of words is =
    record {
      places = places;
      begin = subst (AllByRecursion (HasCommentAt file.text)) (sym (there
          ∙ ap (filter_map (line_column_of file.text)) first))
          (begin-there file.text (take most offsets) (all-take _ most offsets all));
      more = more;
      says = rw (of, begin, words) at is;
    }

-- what is said of one file more
pub says-at : {A : Type 0} (Says : A → List ℕ → Type 0) (xs : List A) (i : ℕ) (x : A)
    (text said after : List ℕ) → i < length xs → x ≡ get_or xs i x → SaysEach Says (take i xs) text
    → Says x said → after ≡ text ++ said → SaysEach Says (take (i + 1) xs) after
says-at Says xs i x text said after below is were now adds =
    rw (adds, take_more xs i x below)
    (says-more Says (take i xs) (get_or xs i x) text said were (subst (λ y. Says y said) is now))

-- what is said of files that are lent
pub says-lent : (Says : SourceFile → List ℕ → Type 0) (files : List (Bor SourceFile)) (text : List ℕ)
    → SaysEach (λ (file : Bor SourceFile). Says file.now) files text → SaysEach Says (lent_files files) text
says-lent Says [] text is = is
says-lent Says (file ∷ files) text is =
    (is.0, (is.1.0, (is.1.1.0, (is.1.1.1.0, says-lent Says files is.1.0 is.1.1.1.1))))
