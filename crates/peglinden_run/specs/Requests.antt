-- The answers to requests, and why there are none.
use Rattle.std.specs.Prelude.{ℕ, List}
use Rattle.peglinden_words.specs.declared.request.Request.{Request}
use Rattle.peglinden_words.specs.declared.request.Request.TheVariants as requests
use Rattle.peglinden_run.specs.declared.answer.Answer.{Answer}
use Rattle.peglinden_run.specs.declared.document_commands.Shown.TheVariants as shown
use Rattle.peglinden_run.specs.declared.failure.Failure.{Failure}
use Rattle.peglinden_run.specs.Documents.{texts_of}
use Rattle.peglinden_run.specs.DocumentCommands.{IsDocumentAnswer, IsTypingCause}
use Rattle.peglinden_run.specs.FormatCommand.{IsFormatAnswer}
use Rattle.peglinden_run.specs.Forms.{form_of}
use Rattle.peglinden_run.specs.LookupCommand.{IsLookupAnswer, IsLookupCause}
use Rattle.peglinden_run.specs.RefusedFiles.{IsFilesCause}
use Rattle.peglinden_run.specs.SchemaCommand.{IsSchemaAnswer, IsSchemaCause}

-- In all of this `held` says which bytes the file of a path may hold, and `may_fail` whether reading it may
-- fail.

-- the answer is one to the request
abbrev pub IsAnswerTo : Request → (List ℕ → List ℕ → Type 0) → Answer → Type 0
IsAnswerTo (requests.Schema adopt ignore_builtin reporting files) held answer =
    IsSchemaAnswer held (record {
      adopt_orphan_extensions = adopt;
      ignore_builtin_redefinitions = ignore_builtin;
    }) reporting (texts_of files.items) answer
IsAnswerTo (requests.Check typing) held answer = IsDocumentAnswer held shown.Nothing typing answer
IsAnswerTo (requests.Typed typing) held answer = IsDocumentAnswer held shown.WriteOut typing answer
IsAnswerTo (requests.Fields typing) held answer = IsDocumentAnswer held shown.Fields typing answer
IsAnswerTo (requests.Lookup coordinate reporting files) held answer =
    IsLookupAnswer held coordinate.now (form_of reporting) (texts_of files.items) answer
IsAnswerTo (requests.Format check reporting files) held answer =
    IsFormatAnswer held check reporting (texts_of files.items) answer

-- why there is no answer to the request
abbrev pub IsCauseTo : Request → (List ℕ → List ℕ → Type 0) → (List ℕ → Type 0) → Failure → Type 0
IsCauseTo (requests.Schema adopt ignore_builtin reporting files) held may_fail failure =
    IsSchemaCause (form_of reporting) held may_fail (record {
      adopt_orphan_extensions = adopt;
      ignore_builtin_redefinitions = ignore_builtin;
    }) (texts_of files.items) failure
IsCauseTo (requests.Check typing) held may_fail failure = IsTypingCause held may_fail typing failure
IsCauseTo (requests.Typed typing) held may_fail failure = IsTypingCause held may_fail typing failure
IsCauseTo (requests.Fields typing) held may_fail failure = IsTypingCause held may_fail typing failure
IsCauseTo (requests.Lookup coordinate reporting files) held may_fail failure =
    IsLookupCause (form_of reporting) held may_fail coordinate.now (texts_of files.items) failure
IsCauseTo (requests.Format check reporting files) held may_fail failure =
    IsFilesCause (form_of reporting) held may_fail (texts_of files.items) failure
