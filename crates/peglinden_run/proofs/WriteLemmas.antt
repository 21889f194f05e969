-- Files that are replaced, one after another.
use Rattle.std.proofs.Common.{◌≡◌, ◌∙◌, ◌+◌, ◌<◌, ◌≤◌, ℕ, Bool, true, false, List, [], ◌∷◌, ◌++◌, Option, None, Some}
use Rattle.std.proofs.Common.{append_assoc, ap, drop, get_or, inr, length, length-append, map, refl, subst, sym, take, arith}
use Rattle.std.specs.List.{filter}
use Rattle.std.proofs.lemmas.List.{append-nil, length-map, map-append, take-append-drop, take-map, take_all}
use Rattle.std.proofs.lemmas.List.{take_more}
use Rattle.std.proofs.lemmas.List.Elements.{filter-append}
use Rattle.program_io.specs.Replaced.{Replaces, ReplacesNothing}
use Rattle.graphql_ast.specs.declared.document.Document.{Document}
use Rattle.peglinden_words.specs.declared.request.Reporting.{Reporting}
use Rattle.peglinden_run.specs.declared.failure.Failure.{Failure}
use Rattle.peglinden_run.specs.declared.form.Form.{Form}
use Rattle.peglinden_run.specs.declared.layouts.ChangedFile.{ChangedFile}
use Rattle.peglinden_run.specs.Documents.{AreDocumentsAt}
use Rattle.peglinden_run.specs.Forms.{form_of}
use Rattle.peglinden_run.specs.Layouts.{changed_bytes, changed_files, changed_pair}
use Rattle.peglinden_run.specs.LostComments.{KeepsComments}
use Rattle.peglinden_run.specs.UnwrittenFiles.{IsUnwrittenReport}
use Rattle.peglinden_run.specs.WriteCommand.{IsCutOff, IsReplaceCause, IsTried, IsWriteCause}
use Rattle.peglinden_run.specs.WriteCommand.{Replaced, ReplacesEach, SaysLeft, Tries, done, left, tried}
use Rattle.peglinden_run.proofs.ReportLemmas.{says-more}

-- a file more was replaced
each-more : (files : Replaced) (file : List ℕ × List ℕ) (old now new : Option Replaced)
    → ReplacesEach files old now → Replaces file.0 file.1 now new → ReplacesEach (files ++ file ∷ []) old new
each-more files file None now new each one = tt
each-more files file (Some before) now new each one =
    let last : new ≡ Some ((before ++ files) ++ file ∷ []) = rw each at one in
    last ∙ ap Some (append_assoc before files _)

-- nothing more was replaced
each-same : (files : Replaced) (old now new : Option Replaced) → ReplacesEach files old now
    → ReplacesNothing now new → ReplacesEach files old new
each-same files None now new each same = tt
each-same files (Some before) now new each same = rw each at same

-- a file more that was replaced
done-done : (tries : Tries) (file : List ℕ × List ℕ)
    → done (tries ++ (file, true) ∷ []) ≡ done tries ++ file ∷ []
done-done tries file = ap tried (filter-append _ tries _) ∙ map-append _ (filter _ tries) _

left-done : (tries : Tries) (file : List ℕ × List ℕ) → left (tries ++ (file, true) ∷ []) ≡ left tries
left-done tries file = ap tried (filter-append _ tries _ ∙ append-nil _)

-- and one that was not
done-left : (tries : Tries) (file : List ℕ × List ℕ) → done (tries ++ (file, false) ∷ []) ≡ done tries
done-left tries file = ap tried (filter-append _ tries _ ∙ append-nil _)

left-left : (tries : Tries) (file : List ℕ × List ℕ)
    → left (tries ++ (file, false) ∷ []) ≡ left tries ++ file ∷ []
left-left tries file = ap tried (filter-append _ tries _) ∙ map-append _ (filter _ tries) _

-- what is known of files that were tried: which were replaced, and what is said of the others, which are so
-- many
pub record Tried (form : Form) (files : Replaced) (old now : Option Replaced) (said : List ℕ) (count : ℕ) :
    Type 0 where
  pub tries : Tries
  pub are : tried tries ≡ files
  pub replaced : ReplacesEach (done tries) old now
  pub says : SaysLeft form (left tries) said
  pub counts : count ≡ length (left tries)

-- of a file more that was replaced
pub tried-done : (form : Form) (files : Replaced) (file : List ℕ × List ℕ) (old now new : Option Replaced)
    (said : List ℕ) (count : ℕ) → Tried form files old now said count → Replaces file.0 file.1 now new
    → Tried form (files ++ file ∷ []) old new said count
tried-done form files file old now new said count was one = record {
  tries = was.tries ++ (file, true) ∷ [];
  are = map-append _ was.tries _ ∙ ap (λ l. l ++ file ∷ []) was.are;
  replaced = subst (λ (l : Replaced). ReplacesEach l old new) (sym (done-done was.tries file))
      (each-more (done was.tries) file old now new was.replaced one);
  says = subst (λ (l : Replaced). SaysLeft form l said) (sym (left-done was.tries file)) was.says;
  counts = was.counts ∙ ap length (sym (left-done was.tries file));
}

-- and of one that was not
pub tried-left : (form : Form) (files : Replaced) (file : List ℕ × List ℕ) (old now new : Option Replaced)
    (said report : List ℕ) (count : ℕ) → Tried form files old now said count → ReplacesNothing now new
    → IsUnwrittenReport form file.0 report
    → Tried form (files ++ file ∷ []) old new (said ++ report) (count + 1)
tried-left form files file old now new said report count was same is = record {
  tries = was.tries ++ (file, false) ∷ [];
  are = map-append _ was.tries _ ∙ ap (λ l. l ++ file ∷ []) was.are;
  replaced = subst (λ (l : Replaced). ReplacesEach l old new) (sym (done-left was.tries file))
      (each-same (done was.tries) old now new was.replaced same);
  says = subst (λ (l : Replaced). SaysLeft form l (said ++ report)) (sym (left-left was.tries file))
      (says-more (λ (f : List ℕ × List ℕ). IsUnwrittenReport form f.0) (left was.tries) file said report
      was.says is);
  counts = ap (λ n. n + 1) was.counts ∙ sym (length-append (left was.tries) (file ∷ []))
      ∙ ap length (sym (left-left was.tries file));
}

module _ (form : Form) (files : List ChangedFile) (i : ℕ) (file : ChangedFile) (below : i < length files)
    (is : file ≡ get_or files i file) (old now new : Option Replaced) (said : List ℕ) (count : ℕ)
    (was : Tried form (take i (changed_bytes files)) old now said count) where
  next-bytes : take i (changed_bytes files) ++ changed_pair file ∷ [] ≡ take (i + 1) (changed_bytes files)
  next-bytes = ap (λ l. l ++ changed_pair file ∷ []) (take-map changed_pair i files)
      ∙ ap (λ (f : ChangedFile). map changed_pair (take i files) ++ changed_pair f ∷ []) is
      ∙ sym (map-append changed_pair (take i files) _)
      ∙ ap changed_bytes (sym (take_more files i file below)) ∙ sym (take-map changed_pair (i + 1) files)

  -- the next of some files was replaced
  pub next-done : IsTried form (changed_pair file) None now new
      → Tried form (take (i + 1) (changed_bytes files)) old new said count
  next-done one = subst (λ (l : Replaced). Tried form l old new said count) next-bytes
      (tried-done form _ (changed_pair file) old now new said count was one)

  -- or it was not
  pub next-left : (report after : List ℕ) (more : ℕ) → IsTried form (changed_pair file) (Some report) now new
      → after ≡ said ++ report → more ≡ count + 1
      → Tried form (take (i + 1) (changed_bytes files)) old new after more
  next-left report after more one adds counts = rw (adds, counts)
      (subst (λ (l : Replaced). Tried form l old new (said ++ report) (count + 1)) next-bytes
      (tried-left form _ (changed_pair file) old now new said report count was one.0 one.1))

none-left : (files : Replaced) → length files ≡ 0 → files ≡ []
none-left [] none = refl
none-left (file ∷ files) none = absurd (omega (arith, none))

-- where none is left all were replaced
all-done : (tries : Tries) → left tries ≡ [] → done tries ≡ tried tries
all-done [] none = refl
all-done ((file, true) ∷ tries) none = ap (λ (l : Replaced). file ∷ l) (all-done tries none)
all-done ((file, false) ∷ tries) none = absurd (let no : file ∷ left tries ≡ [] = none in cc)

pub all-replaced : (form : Form) (files : Replaced) (old now : Option Replaced) (said : List ℕ) (count : ℕ)
    → Tried form files old now said count → count ≡ 0 → ReplacesEach files old now
all-replaced form files old now said count was zero =
    let same : done was.tries ≡ files =
    all-done was.tries (none-left (left was.tries) (sym was.counts ∙ zero)) ∙ was.are in
    subst (λ (l : Replaced). ReplacesEach l old now) same was.replaced

-- what is known of all files
pub tried-whole : (form : Form) (files : List ChangedFile) (i : ℕ) (old now : Option Replaced) (said : List ℕ)
    (count : ℕ) → length files ≤ i → Tried form (take i (changed_bytes files)) old now said count
    → Tried form (changed_bytes files) old now said count
tried-whole form files i old now said count all was =
    let fits : length (changed_bytes files) ≤ i = rw (length-map files changed_pair) all in
    subst (λ (l : Replaced). Tried form l old now said count) (take_all i (changed_bytes files) fits) was

-- where memory runs out a beginning was tried
pub cut-off : (form : Form) (i : ℕ) (changed : Replaced) (old now : Option Replaced) (said : List ℕ)
    (count : ℕ) → Tried form (take i changed) old now said count → IsCutOff changed old now
cut-off form i changed old now said count was = record {
  tries = was.tries;
  rest = drop i changed;
  are = sym (take-append-drop i changed) ∙ ap (λ l. l ++ drop i changed) (sym was.are);
  replaced = was.replaced;
}

-- where nothing was done after files were tried
pub cut-off-then : (changed : Replaced) (old now new : Option Replaced) → IsCutOff changed old now
    → ReplacesNothing now new → IsCutOff changed old new
cut-off-then changed old now new cut same = record {
  tries = cut.tries;
  rest = cut.rest;
  are = cut.are;
  replaced = each-same (done cut.tries) old now new cut.replaced same;
}

-- why documents were not all written
pub write-cause : (held : List ℕ → List ℕ → Type 0) (may_fail : List ℕ → Type 0) (dropped : Bool)
    (reporting : Reporting) (paths : List (List ℕ)) (old new : Option Replaced) (failure : Failure)
    (form : Form) (files : ℕ) (changed : Replaced) (documents : List Document) → form ≡ form_of reporting
    → files ≡ length paths → changed ≡ changed_files documents → AreDocumentsAt held 1 paths documents
    → KeepsComments dropped documents → IsReplaceCause form files changed old new failure
    → IsWriteCause held may_fail dropped reporting paths old new failure
write-cause held may_fail dropped reporting paths old new failure form files changed documents forms count
    same read kept cause = inr (documents, (read, inr (kept, rw (forms, count, same) at cause)))
