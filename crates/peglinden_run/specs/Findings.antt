-- What a command shows of what is at fault.
use Rattle.std.specs.Prelude.{◌≡◌, ◌++◌, ◌+◌, ◌-◌, ◌^◌, ◌==◌, ◌&&◌, ℕ, min, Bool, not, List, []}
use Rattle.std.specs.Prelude.{Option, None, Some, length, option_map, take}
use Rattle.graphql_nodes.specs.Sources.{Files}
use Rattle.apollo_document.specs.Typable.{Fault as DocumentFault}
use Rattle.apollo_meaning.specs.Faults.Collisions.{Fault}
use Rattle.apollo_reporting.specs.DocumentFaults.{document_fault_about, document_fault_details}
use Rattle.apollo_reporting.specs.SchemaFaults.{schema_fault_about, schema_fault_details}
use Rattle.leafcheck.specs.FaultReports.{leaf_fault_about, leaf_fault_details}
use Rattle.leafcheck.specs.declared.leaf_fault.LeafFault.{LeafFault}
use Rattle.peglinden_run.specs.declared.answer.Answer.{Answer}
use Rattle.peglinden_run.specs.declared.findings.Findings.{Findings}
use Rattle.peglinden_run.specs.declared.form.Form.{Form}
use Rattle.peglinden_run.specs.declared.printed.Printed.{Printed}
use Rattle.peglinden_run.specs.declared.printed.Tally.{Tally}
use Rattle.peglinden_run.specs.declared.reports.Subject.TheVariants as subjects
use Rattle.peglinden_run.specs.Forms.{form_of}
use Rattle.peglinden_run.specs.Printed.{IsArranged}
use Rattle.peglinden_run.specs.Reports.{IsSaid, SaysEach}
use Rattle.peglinden_words.specs.declared.request.Reporting.{Reporting}

-- what is at fault in a schema, in a document and as leaves, and the source files that it stands in
pub record Found : Type 0 where
  pub sources : Files
  pub schema : List Fault
  pub document : List DocumentFault
  pub leaves : List LeafFault

-- what is at fault of these findings
abbrev pub found_in : Findings → Found
found_in findings =
    record {
      sources = findings.sources;
      schema = findings.schema_faults.items;
      document = findings.document_faults.items;
      leaves = findings.leaf_faults.items;
    }

-- what is at fault in a schema alone
abbrev pub of_schema : Files → List Fault → Found
of_schema sources faults = record { sources = sources; schema = faults; document = []; leaves = [] }

-- whether anything is at fault
abbrev pub any_fault : Found → Bool
any_fault found =
    not (((length found.schema == 0) && (length found.document == 0)) && (length found.leaves == 0))

-- how many faults there are, or the greatest number where they are more
abbrev pub fault_count : Found → ℕ
fault_count found = min (length found.schema + length found.document + length found.leaves) (2 ^ 64 - 1)

-- what a form says of a fault of a schema
abbrev pub IsSchemaSaid : Form → Files → Fault → List ℕ → Type 0
IsSchemaSaid form sources fault text =
    IsSaid subjects.Fault form sources fault.0 (schema_fault_about fault.1)
    (Some (schema_fault_details fault.1)) text

-- and of a fault of a document
abbrev pub IsDocumentSaid : Form → Files → DocumentFault → List ℕ → Type 0
IsDocumentSaid form sources fault text = IsSaid subjects.Fault form sources fault.0
    (document_fault_about fault.1)
    (Some (document_fault_details fault.1)) text

-- and of a leaf fault
abbrev pub IsLeafSaid : Form → Files → LeafFault → List ℕ → Type 0
IsLeafSaid form sources fault text =
    IsSaid subjects.Fault form sources fault.location (leaf_fault_about fault)
    (Some (leaf_fault_details fault)) text

-- the text is one after the other, in order, of the faults of the schema, of the document and of leaves. Each
-- is what is said of its fault
pub record SaysAll (of_fault : Fault → List ℕ → Type 0) (of_document_fault : DocumentFault → List ℕ → Type 0)
    (of_leaf : LeafFault → List ℕ → Type 0) (found : Found) (text : List ℕ) : Type 0 where
  -- what is said of the schema's faults
  pub of_schema : List ℕ
  pub schema : SaysEach of_fault found.schema of_schema
  -- what is said of the document's faults
  pub of_document : List ℕ
  pub document : SaysEach of_document_fault found.document of_document
  -- what is said of the leaf faults
  pub of_leaves : List ℕ
  pub leaves : SaysEach of_leaf found.leaves of_leaves
  pub are : text ≡ of_schema ++ (of_document ++ of_leaves)

-- what a form says of all that is at fault, in order
abbrev pub AreSaid : Form → Found → List ℕ → Type 0
AreSaid form found = SaysAll (IsSchemaSaid form found.sources) (IsDocumentSaid form found.sources)
    (IsLeafSaid form found.sources) found

-- at most so many of these, the first of them
abbrev pub at_most : {A : Type 0} → Option ℕ → List A → List A
at_most None xs = xs
at_most (Some most) xs = take most xs

-- how many may follow so many, where at most so many may be there
abbrev pub behind : Option ℕ → ℕ → Option ℕ
behind most count = option_map (λ (n : ℕ). n - count) most

-- the first of all that is at fault, at most so much
abbrev pub first_of : Option ℕ → Found → Found
first_of most found = record found {
  schema = at_most most found.schema;
  document = at_most (behind most (length found.schema)) found.document;
  leaves = at_most (behind (behind most (length found.schema)) (length found.document)) found.leaves;
}

-- how many of so many faults are shown
abbrev pub shown_count : Option ℕ → ℕ → ℕ
shown_count None count = count
shown_count (Some most) count = min most count

-- how much is at fault in so many files, of which at most so many faults are shown
abbrev pub tally_of : Option ℕ → ℕ → Found → Tally
tally_of most files found = record {
  faults = fault_count found;
  shown = shown_count most (fault_count found);
  files = files;
}

-- what is printed is the output of a command, and what the form that is asked for says of the first faults
abbrev pub IsShown : Reporting → ℕ → Found → List ℕ → Printed → Type 0
IsShown reporting files found output printed = (said : List ℕ)
    × (AreSaid (form_of reporting) (first_of reporting.max_faults found) said
    × IsArranged (form_of reporting) (tally_of reporting.max_faults files found) output said printed)

-- the answer shows that, and whether anything is at fault
pub record IsAnswerOf (reporting : Reporting) (files : ℕ) (found : Found) (output : List ℕ)
    (answer : Answer) :
    Type 0 where
  pub shows : IsShown reporting files found output answer.printed
  pub any : answer.has_faults ≡ any_fault found
