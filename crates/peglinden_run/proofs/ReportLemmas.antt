-- Texts of faults, one after another.
use Rattle.std.proofs.Common.{◌≡◌, ℕ, ◌+◌, ◌<◌, List, [], ◌∷◌, ◌++◌, Option, None, Some, Result, Ok, Err}
use Rattle.std.proofs.Common.{OnOk, is_ok, if◌then◌else◌, codes, get_or, length, take, refl, sym, ap, subst}
use Rattle.std.proofs.Common.{◌∙◌, append_assoc}
use Rattle.std.proofs.lemmas.List.{append-nil, take_more}
use Rattle.graphql_nodes.specs.Sources.{Files}
use Rattle.graphql_nodes.specs.VisibleTexts.{visible}
use Rattle.graphql_nodes.specs.declared.source.SourceSpan.{SourceSpan}
use Rattle.serde_json.specs.Written.{compact_text}
use Rattle.apollo_reporting.specs.Abouts.{AboutView}
use Rattle.apollo_reporting.specs.FaultData.{fault_data, path_of_file}
use Rattle.apollo_reporting.specs.GithubCommands.{command_text}
use Rattle.apollo_reporting.specs.Places.{starts}
use Rattle.apollo_reporting.specs.Reports.{report_text}
use Rattle.apollo_reporting.specs.Said.{OfSaid}
use Rattle.apollo_reporting.specs.declared.detail.Detail.{Detail}
use Rattle.peglinden_run.specs.declared.form.Form.{Form}
use Rattle.peglinden_run.specs.declared.form.Form.TheVariants as forms
use Rattle.peglinden_run.specs.declared.reports.Subject.{Subject}
use Rattle.peglinden_run.specs.Reports.{Adds, IsCommandLine, IsFormText, IsJsonLine, IsReport, IsSaid, SaysEach}
use Rattle.peglinden_run.specs.Reports.{type_of}

-- what is a fact of what is said, or of something, is a fact of something
some_said : {A : Type 0} (said : Option A) (Fact : A → Type 0) → OfSaid said Fact → (x : A) × Fact x
some_said (Some x) Fact is = (x, is)
some_said None Fact is = is

-- a fact of what is said, where it has another fact for each
said_then : {A : Type 0} (said : Option A) (P Q : A → Type 0) → ((x : A) → P x → Q x) → OfSaid said P
    → OfSaid said Q
said_then (Some x) P Q more is = more x is
said_then None P Q more is = (is.0, more is.0 is.1)

-- behind a text a line end, in two steps
behind : (old text middle new : List ℕ) → middle ≡ old ++ text → new ≡ middle ++ codes "\n"
    → new ≡ old ++ (text ++ codes "\n")
behind old text middle new one two = two ∙ ap (λ l. l ++ codes "\n") one ∙ append_assoc old text _

-- a report that is added with a line end
report_added : (sentence : Option (List ℕ)) (files : Files) (location : Option SourceSpan)
    (about : AboutView) (report old middle new : List ℕ)
    → OfSaid sentence (λ s. report ≡ report_text files location about (visible s)) → middle ≡ old ++ report
    → new ≡ middle ++ codes "\n" → Adds (IsReport files location about) old new
report_added sentence files location about report old middle new is one two =
    let says = some_said sentence _ is in
    (report ++ codes "\n", (behind old report middle new one two, (says.0, ap (λ l. l ++ codes "\n") says.1)))

-- and a line of JSON
json_added : (subject : Subject) (sentence : Option (List ℕ)) (of_details : Option (List Detail))
    (files : Files)
    (location : Option SourceSpan) (about : AboutView) (json old middle new : List ℕ)
    → OfSaid sentence (λ s. OfSaid of_details (λ details. json
    ≡ compact_text (fault_data (type_of subject) files location about s details))) → middle ≡ old ++ json
    → new ≡ middle ++ codes "\n" → Adds (IsJsonLine subject files location about of_details) old new
json_added subject sentence of_details files location about json old middle new is one two =
    let says = some_said sentence _ is in
    let line = said_then of_details _ _ (λ details same. ap (λ l. l ++ codes "\n") same) says.1 in
    (json ++ codes "\n", (behind old json middle new one two, (says.0, line)))

-- and a workflow command
command_added : (sentence : Option (List ℕ)) (files : Files) (location : Option SourceSpan)
    (command old middle new : List ℕ)
    → OfSaid sentence (λ s. command ≡ command_text (path_of_file location files) (starts location files) s)
    → middle ≡ old ++ command → new ≡ middle ++ codes "\n" → Adds (IsCommandLine files location) old new
command_added sentence files location command old middle new is one two =
    let says = some_said sentence _ is in (
      command ++ codes "\n",
      (behind old command middle new one two, (says.0, ap (λ l. l ++ codes "\n") says.1)),
    )

-- what a form says, with its line end
pub said_added : {E : Type 0} (subject : Subject) (form : Form) (sentence_of : E → Option (List ℕ))
    (about_of : E → AboutView) (details_of : E → Option (List Detail)) (files : Files)
    (location : Option SourceSpan) (fault : E) (text old middle new : List ℕ)
    → IsFormText subject form sentence_of about_of details_of files location fault text
    → middle ≡ old ++ text → new ≡ middle ++ codes "\n"
    → Adds (IsSaid subject form files location (about_of fault) (details_of fault)) old new
said_added subject forms.Words sentence_of about_of details_of files location fault text old middle new is one
    two = report_added (sentence_of fault) files location (about_of fault) text old middle new is one two
said_added subject forms.Json sentence_of about_of details_of files location fault text old middle new is one
    two = json_added subject (sentence_of fault) (details_of fault) files location (about_of fault) text old
    middle new is one two
said_added subject forms.Github sentence_of about_of details_of files location fault text old middle new is
    one two = command_added (sentence_of fault) files location text old middle new is one two

-- what is added behind nothing
pub added_alone : (P : List ℕ → Type 0) (old new : List ℕ) → old ≡ [] → Adds P old new → P new
added_alone P old new none added = subst P (sym (added.1.0 ∙ ap (λ l. l ++ added.0) none)) added.1.1

pub says-more : {A : Type 0} (Says : A → List ℕ → Type 0) (xs : List A) (x : A) (text said : List ℕ)
    → SaysEach Says xs text → Says x said → SaysEach Says (xs ++ x ∷ []) (text ++ said)
says-more Says [] x text said are is =
    (said, ([], (ap (λ l. l ++ said) are ∙ sym (append-nil said), (is, refl))))
says-more Says (first ∷ xs) x text said are is =
    let rest = says-more Says xs x are.1.0 said are.1.1.1.1 is in
    let all = ap (λ l. l ++ said) are.1.1.0 ∙ append_assoc are.0 are.1.0 said in
    (are.0, (are.1.0 ++ said, (all, (are.1.1.1.0, rest))))

-- behind the texts of some things that of the next one is added
pub says-next : {A : Type 0} (Says : A → List ℕ → Type 0) (xs : List A) (i : ℕ) (x : A)
    (before held after : List ℕ) → i < length xs → x ≡ get_or xs i x
    → Adds (SaysEach Says (take i xs)) before held → Adds (Says x) held after
    → Adds (SaysEach Says (take (i + 1) xs)) before after
says-next Says xs i x before held after below is was now = (
  was.0 ++ now.0,
  (
    now.1.0 ∙ ap (λ l. l ++ now.0) was.1.0 ∙ append_assoc before was.0 now.0,
    rw (take_more xs i x below) (says-more Says _ _ was.0 now.0 was.1.1 (subst (λ y. Says y now.0) is
        now.1.1)),
  ),
)

-- where a text is added if that went well, it is added where it did
pub on_ok_if : {T E : Type 0} (r : Result T E) (x a b : List ℕ) → x ≡ (if is_ok r then a else b)
    → OnOk r (x ≡ a)
on_ok_if (Ok value) x a b is = is
on_ok_if (Err error) x a b is = tt

-- three texts, one behind the other
pub three-added : (a b c none one two three : List ℕ) → none ≡ [] → one ≡ none ++ a → two ≡ one ++ b
    → three ≡ two ++ c → three ≡ a ++ (b ++ c)
three-added a b c none one two three is_none is_one is_two is_three = is_three
    ∙ ap (λ l. l ++ c) (is_two ∙ ap (λ l. l ++ b) (is_one ∙ ap (λ l. l ++ a) is_none)) ∙ append_assoc a b c
