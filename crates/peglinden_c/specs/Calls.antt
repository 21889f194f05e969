-- What calls ask for.
use Rattle.std.specs.Prelude.{◌≡◌, ◌==◌, ◌&&◌, ℕ, Bool, true, List, length, not}
use Rattle.peglinden_words.specs.declared.request.Request.{Request}
use Rattle.peglinden_words.specs.declared.request.Request.TheVariants as requests
use Rattle.peglinden_words.specs.declared.request.Typing.{Typing}
use Rattle.peglinden_run.specs.Documents.{texts_of}
use Rattle.peglinden_c.specs.Files.{AreTexts}
use Rattle.peglinden_c.specs.Flags.{are_among, has, has_two_forms, reporting_of}

-- a call with these keys and flags, which takes those flags, may be made: the keys are sixteen bytes, and one
-- form at most is asked for
abbrev pub is_proper : List ℕ → ℕ → ℕ → Bool
is_proper keys flags taken = (length keys == 16) && (are_among flags taken && not (has_two_forms flags))

-- such a call may be made with these paths and coordinates
abbrev pub IsProper : List ℕ → ℕ → ℕ → List (List ℕ) → Type 0
IsProper keys flags taken texts = (is_proper keys flags taken ≡ true) × AreTexts texts

-- In all of this `flags` and `max_faults` say how what is at fault is to be reported, and `paths` names the
-- files, in order.

-- the request is for the schema of these files
abbrev pub IsSchemaOf : ℕ → ℕ → List (List ℕ) → Request → Type 0
IsSchemaOf flags max_faults paths (requests.Schema adopt ignore_builtin reporting files) =
    (adopt ≡ has flags 4) × (ignore_builtin ≡ has flags 8) × (reporting ≡ reporting_of flags max_faults)
    × (texts_of files.items ≡ paths)
IsSchemaOf flags max_faults paths _ = ⊥

-- documents of these files are to be typed over a schema of those
pub record IsTypingOf (flags max_faults : ℕ) (schema_paths document_paths : List (List ℕ))
    (typing : Typing) : Type 0 where
  pub reporting : typing.reporting ≡ reporting_of flags max_faults
  pub schema : texts_of typing.schema.items ≡ schema_paths
  pub documents : texts_of typing.documents.items ≡ document_paths

-- the request is for the faults of these documents
abbrev pub IsCheckOf : ℕ → ℕ → List (List ℕ) → List (List ℕ) → Request → Type 0
IsCheckOf flags max_faults schema documents (requests.Check typing) =
    IsTypingOf flags max_faults schema documents typing
IsCheckOf flags max_faults schema documents _ = ⊥

-- the request is for these documents, as they are typed
abbrev pub IsTypedOf : ℕ → ℕ → List (List ℕ) → List (List ℕ) → Request → Type 0
IsTypedOf flags max_faults schema documents (requests.Typed typing) =
    IsTypingOf flags max_faults schema documents typing
IsTypedOf flags max_faults schema documents _ = ⊥

-- the request is for the fields that each operation of these documents reaches
abbrev pub IsFieldsOf : ℕ → ℕ → List (List ℕ) → List (List ℕ) → Request → Type 0
IsFieldsOf flags max_faults schema documents (requests.Fields typing) =
    IsTypingOf flags max_faults schema documents typing
IsFieldsOf flags max_faults schema documents _ = ⊥

-- the request is for what a coordinate points to in the schema of these files
abbrev pub IsLookupOf : ℕ → ℕ → List ℕ → List (List ℕ) → Request → Type 0
IsLookupOf flags max_faults coordinate paths (requests.Lookup its_coordinate reporting files) =
    (its_coordinate.now ≡ coordinate) × (reporting ≡ reporting_of flags max_faults)
    × (texts_of files.items ≡ paths)
IsLookupOf flags max_faults coordinate paths _ = ⊥

-- the request is for these files in the layout of the printer
abbrev pub IsFormatOf : ℕ → ℕ → List (List ℕ) → Request → Type 0
IsFormatOf flags max_faults paths (requests.Format only_check reporting files) =
    (only_check ≡ has flags 16) × (reporting ≡ reporting_of flags max_faults) × (texts_of files.items ≡ paths)
IsFormatOf flags max_faults paths _ = ⊥
