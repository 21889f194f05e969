-- How a run ends on a task, whose words name files.
use Rattle.std.specs.Prelude.{◌≡◌, ◌⊎◌, ◌++◌, ℕ, List, [], Option, None, String, MatchOption, codes, map}
use Rattle.std.specs.Prelude.{Bool, Some, string_bytes}
use Rattle.std.specs.BTreeMap.{BTreeMap, get_by_text}
use Rattle.std.specs.List.{flat_map}
use Rattle.std.specs.declared.alloc.Global.{Global}
use Rattle.clap.specs.Walk.{Text}
use Rattle.graphql_nodes.specs.VisibleTexts.{visible}
use Rattle.apollo_compiler.specs.declared.compile_error.CompileError.TheVariants as spent
use Rattle.program_io.specs.Writing.{IsBegun}
use Rattle.program_io.specs.declared.folders.PathKind.{PathKind}
use Rattle.program_io.specs.declared.status.Status.{Status}
use Rattle.program_io.specs.declared.status.Status.TheVariants as s
use Rattle.named_files.specs.Naming.{AreNamed}
use Rattle.named_files.specs.Refused.{refusal_at}
use Rattle.named_files.specs.declared.found.Found.{Found}
use Rattle.named_files.specs.declared.naming.NamedFiles.{NamedFiles}
use Rattle.named_files.specs.declared.refusal.Refusal.{Refusal}
use Rattle.peglinden_words.specs.Requests.{Asked, asked, asked_of_task, check, fields, format, lookup, schema}
use Rattle.peglinden_words.specs.Requests.{typed, write}
use Rattle.peglinden_words.specs.declared.task.Task.{Task}
use Rattle.peglinden_words.specs.declared.task.Task.TheVariants as tasks
use Rattle.peglinden_words.specs.declared.task.Writing.{Writing}
use Rattle.peglinden_run.specs.declared.answer.Answer.{Answer}
use Rattle.peglinden_run.specs.declared.failure.Failure.{Failure}
use Rattle.peglinden_run.specs.declared.failure.Failure.TheVariants as failures
use Rattle.peglinden_run.specs.declared.named_task.NamedTask.{NamedTask}
use Rattle.peglinden_run.specs.declared.named_task.TaskNames.{TaskNames}
use Rattle.peglinden_run.specs.Documents.{texts_of}
use Rattle.peglinden_run.specs.Naming.{names_input}
use Rattle.peglinden_run.specs.Runs.{EndsAs, IsFailureWritten, IsUnasked, IsWritten}
use Rattle.peglinden_run.specs.Status.{message_of}
use Rattle.peglinden_run.specs.WriteCommand.{IsWriteAnswer, IsWriteCause}

-- In all of this `stands` says what may stand at a path, `lists` what may stand in the folder of a prefix,
-- and `may_hide` whether listing it may fail. `held` says which bytes the file of a path may hold, and
-- `may_fail` whether reading it may fail; `input_held` and `input_may_fail` say the same of standard input.
-- `replaced` is what was replaced before, each path with its text, and `replaced_after` what is now, if that
-- is known. `old`, `new`, `old_errors` and `new_errors` are as in `Runs`.

-- the words that name files of a schema, where documents are named too
abbrev pub schema_words : Asked → List Text
schema_words (check reporting schema_files documents) = schema_files
schema_words (typed reporting schema_files documents) = schema_files
schema_words (fields reporting schema_files documents) = schema_files
schema_words _ = []

-- the other words that name files
abbrev pub file_words : Asked → List Text
file_words (schema adopt ignore_builtin reporting files) = files
file_words (check reporting schema_files documents) = documents
file_words (typed reporting schema_files documents) = documents
file_words (fields reporting schema_files documents) = documents
file_words (lookup coordinate reporting files) = files
file_words (format only_check reporting files) = files
file_words (write only_check drop_comments reporting files) = files

-- the same is asked for, of these files of a schema and these others
abbrev pub over_files : Asked → List Text → List Text → Asked
over_files (schema adopt ignore_builtin reporting files) of_schema others =
    schema adopt ignore_builtin reporting others
over_files (check reporting schema_files documents) of_schema others = check reporting of_schema others
over_files (typed reporting schema_files documents) of_schema others = typed reporting of_schema others
over_files (fields reporting schema_files documents) of_schema others = fields reporting of_schema others
over_files (lookup coordinate reporting files) of_schema others = lookup coordinate reporting others
over_files (format only_check reporting files) of_schema others = format only_check reporting others
over_files (write only_check drop_comments reporting files) of_schema others =
    write only_check drop_comments reporting others

-- the names are those of the files that the words of this name
abbrev pub AreTaskNames : (List ℕ → PathKind → Type 0) → (List ℕ → List (List ℕ × Bool) → Type 0)
    → (List ℕ → Type 0) → Asked → TaskNames → Type 0
AreTaskNames stands lists may_hide wanted names =
    AreNamed stands lists may_hide (schema_words wanted) names.schema
    × AreNamed stands lists may_hide (file_words wanted) names.files

-- the paths of what is found
abbrev pub found_paths : List Found → List (List ℕ)
found_paths found = map (λ (one : Found). string_bytes one.path) found

-- the paths of what is named
abbrev pub paths_of : NamedFiles → List (List ℕ)
paths_of named = found_paths named.named.items

-- why a path stands for no file, if so, by what is named
abbrev pub refusal_of : TaskNames → List ℕ → Option Refusal
refusal_of names path =
    refusal_at names.files.named.items path (refusal_at names.schema.named.items path None)

-- what standard error says of a path that is named again
abbrev pub repeated_line : List ℕ → List ℕ
repeated_line path =
    codes "warning: `" ++ (visible path ++ codes "` is named more than once, and read once\n")

-- what it says of these paths
abbrev pub repeated_text : List (String Global) → List ℕ
repeated_text paths = flat_map (λ path. repeated_line (string_bytes path)) paths

-- what it says of all that is named again
abbrev pub notes_of : TaskNames → List ℕ
notes_of names =
    repeated_text names.schema.repeated.items ++ repeated_text names.files.repeated.items

-- the task is what is asked for, of the files that are named; with it stand the names that are no files, and
-- what standard error says first
pub record IsNamedTask (wanted : Asked) (names : TaskNames) (named : NamedTask) : Type 0 where
  pub over : asked_of_task named.task ≡ over_files wanted (paths_of names.schema) (paths_of names.files)
  pub refused : (path : List ℕ) → get_by_text named.refused path ≡ refusal_of names path
  pub notes : string_bytes named.notes ≡ notes_of names

-- a file may hold these bytes, where its path is not refused
abbrev pub held_beside : BTreeMap (String Global) Refusal → (List ℕ → List ℕ → Type 0) → List ℕ → List ℕ
    → Type 0
held_beside refused held path bytes = MatchOption (get_by_text refused path) (held path bytes) (λ _. ⊥)

-- reading a file may fail, and it does where its path is refused
abbrev pub may_fail_beside : BTreeMap (String Global) Refusal → (List ℕ → Type 0) → List ℕ → Type 0
may_fail_beside refused may_fail path =
    MatchOption (get_by_text refused path) (may_fail path) (λ _. Unit {0})

-- files that are put in the layout of the printer may end a run so. That has an answer, which is written. Or
-- there is a cause for which it has none, and a run that has none for this ends so
abbrev pub EndsWriting : Writing → (List ℕ → List ℕ → Type 0) → (List ℕ → Type 0)
    → Option (List (List ℕ × List ℕ)) → Option (List (List ℕ × List ℕ)) → Option (List ℕ) → Option (List ℕ)
    → Option (List ℕ) → Option (List ℕ) → Status → Type 0
EndsWriting writing held may_fail replaced replaced_after old new old_errors new_errors status =
    ((answer : Answer)
    × (IsWriteAnswer held writing.drop_comments writing.reporting (texts_of writing.files.items) replaced
    replaced_after answer
    × IsWritten answer old new old_errors new_errors status))
    ⊎ ((failure : Failure)
    × (IsWriteCause held may_fail writing.drop_comments writing.reporting (texts_of writing.files.items)
    replaced replaced_after failure
    × IsFailureWritten failure old new old_errors new_errors status))

-- a run on a task over these files may end so. A request replaces nothing, and writing reads no standard
-- input
abbrev pub EndsTask : {R W : Type 0} → Task → (List ℕ → Type 0) → Type 0 → (List ℕ → List ℕ → Type 0)
    → (List ℕ → Type 0) → R → R → W → W → Option (List (List ℕ × List ℕ))
    → Option (List (List ℕ × List ℕ)) → Option (List ℕ) → Option (List ℕ) → Option (List ℕ)
    → Option (List ℕ) → Status → Type 0
EndsTask (tasks.Answer request) input_held input_may_fail held may_fail reader reader_after writer
    writer_after replaced replaced_after old new old_errors new_errors status =
    EndsAs (names_input request) request input_held input_may_fail held may_fail reader reader_after old new
    old_errors new_errors status
    × (writer_after ≡ writer)
EndsTask (tasks.Write writing) input_held input_may_fail held may_fail reader reader_after writer
    writer_after replaced replaced_after old new old_errors new_errors status =
    EndsWriting writing held may_fail replaced replaced_after old new old_errors new_errors status
    × (reader_after ≡ reader)

-- a run on a task, before which this is said, may end so
pub record EndsNoted {R W E : Type 0} (named : NamedTask) (input_held : List ℕ → Type 0)
    (input_may_fail : Type 0) (held : List ℕ → List ℕ → Type 0) (may_fail : List ℕ → Type 0)
    (reader reader_after : R) (writer writer_after : W)
    (replaced replaced_after : Option (List (List ℕ × List ℕ))) (old new : Option (List ℕ))
    (errors errors_after : E) (old_errors new_errors : Option (List ℕ)) (status : Status) : Type 0 where
  -- what stands on standard error once that is said
  pub noted : Option (List ℕ)
  pub notes : IsBegun (string_bytes named.notes) old_errors noted
  pub ends : EndsTask named.task input_held input_may_fail (held_beside named.refused held)
      (may_fail_beside named.refused may_fail) reader reader_after writer writer_after replaced
      replaced_after old new noted new_errors status
  -- where nothing is at fault nothing else is said
  pub quiet : status ≡ s.Done → string_bytes named.notes ≡ [] → errors_after ≡ errors

-- a run on what the words of this name may end so
pub record EndsOver {R W E : Type 0} (stands : List ℕ → PathKind → Type 0)
    (lists : List ℕ → List (List ℕ × Bool) → Type 0) (may_hide : List ℕ → Type 0)
    (input_held : List ℕ → Type 0) (input_may_fail : Type 0) (held : List ℕ → List ℕ → Type 0)
    (may_fail : List ℕ → Type 0) (wanted : Asked) (reader reader_after : R) (writer writer_after : W)
    (replaced replaced_after : Option (List (List ℕ × List ℕ))) (old new : Option (List ℕ))
    (errors errors_after : E) (old_errors new_errors : Option (List ℕ)) (status : Status) : Type 0 where
  -- what the words name
  pub names : TaskNames
  pub are : AreTaskNames stands lists may_hide wanted names
  -- the task over that
  pub named : NamedTask
  pub is : IsNamedTask wanted names named
  pub ends : EndsNoted named input_held input_may_fail held may_fail reader reader_after writer writer_after
      replaced replaced_after old new errors errors_after old_errors new_errors status

-- a run ends so for which memory ran out before it read or wrote anything
pub record RunsOut {R W : Type 0} (reader reader_after : R) (writer writer_after : W) (old new old_errors
    new_errors : Option (List ℕ)) (status : Status) : Type 0 where
  pub ends : status ≡ s.Exhausted
  pub says : IsBegun (message_of (failures.Exhausted spent.Memory)) old_errors new_errors
  pub unwritten : new ≡ old
  pub unread : reader_after ≡ reader
  pub unreplaced : writer_after ≡ writer

-- a run on words ended so. They ask for something, and that is what the run did, or memory ran out before. Or
-- they ask for nothing, and all but the two outputs is left as it was
abbrev pub IsRunOn : {R W E : Type 0} → List Text → (List ℕ → PathKind → Type 0)
    → (List ℕ → List (List ℕ × Bool) → Type 0) → (List ℕ → Type 0) → (List ℕ → Type 0) → Type 0
    → (List ℕ → List ℕ → Type 0) → (List ℕ → Type 0) → R → R → W → W → Option (List (List ℕ × List ℕ))
    → Option (List (List ℕ × List ℕ)) → Option (List ℕ) → Option (List ℕ) → E → E → Option (List ℕ)
    → Option (List ℕ) → Status → Type 0
IsRunOn words stands lists may_hide input_held input_may_fail held may_fail reader reader_after writer
    writer_after replaced replaced_after old new errors errors_after old_errors new_errors status =
    ((wanted : Asked)
    × ((asked words ≡ Some wanted)
    × (EndsOver stands lists may_hide input_held input_may_fail held may_fail wanted reader reader_after
    writer writer_after replaced replaced_after old new errors errors_after old_errors new_errors status
    ⊎ RunsOut reader reader_after writer writer_after old new old_errors new_errors status)))
    ⊎ (IsUnasked words old new status × (reader_after ≡ reader) × (writer_after ≡ writer)
    × (status ≡ s.Done → errors_after ≡ errors))
