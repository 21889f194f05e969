-- Files by their paths, and what keeps one from being read.
use Rattle.std.specs.Prelude.{◌⊎◌, ℕ, Bool, true, false, List, [], ◌∷◌, Option, None, Some, IsUtf8, codes}
use Rattle.std.specs.Prelude.{nat_eq, if◌then◌else◌}
use Rattle.std.specs.Borrow.{Bor}
use Rattle.std.specs.Cmp.Lexicographic.{pointwise}
use Rattle.program_io.specs.declared.file_error.FileError.{FileError}
use Rattle.program_io.specs.declared.file_error.FileError.TheVariants as errors

-- the bytes are no text
abbrev pub IsNoText : List ℕ → Type 0
IsNoText bytes = ¬ IsUtf8 bytes

-- there are bytes that may be held of which P holds
abbrev pub HoldsSome : (List ℕ → Type 0) → (List ℕ → Type 0) → Type 0
HoldsSome held P = (bytes : List ℕ) × (held bytes × P bytes)

-- what may hold these bytes, and may fail for this, can't be read as a text: it fails, or they are no text
abbrev pub CannotBeRead : (List ℕ → Type 0) → Type 0 → Type 0
CannotBeRead held may_fail = may_fail ⊎ HoldsSome held IsNoText

-- why bytes are not read, where reading may fail for this; that memory ran out says nothing of them
abbrev pub IsReadCause : Type 0 → FileError → Type 0
IsReadCause may_fail (errors.CannotRead error) = may_fail
IsReadCause may_fail errors.NotText = ⊥
IsReadCause may_fail errors.Memory = Unit {0}

-- why a file is not read that may hold these bytes, and may fail for this; that memory ran out says nothing
-- of it
abbrev pub IsFileCause : (List ℕ → Type 0) → Type 0 → FileError → Type 0
IsFileCause held may_fail (errors.CannotRead error) = may_fail
IsFileCause held may_fail errors.NotText = HoldsSome held IsNoText
IsFileCause held may_fail errors.Memory = Unit {0}

-- the error is that reading failed
abbrev pub IsRefusal : FileError → Type 0
IsRefusal (errors.CannotRead error) = Unit {0}
IsRefusal _ = ⊥

-- the path names standard input
abbrev pub is_input : List ℕ → Bool
is_input path = pointwise nat_eq path (codes "-")

-- the bytes of the first of these files that has the path, if one has
abbrev pub bytes_at : List (Bor (List ℕ) × Bor (List ℕ)) → List ℕ → Option (List ℕ)
bytes_at [] path = None
bytes_at (file ∷ files) path = if pointwise nat_eq file.0.now path then Some file.1.now
    else bytes_at files path

-- where the flag is set, the one holds, and else the other
abbrev pub OneOf : Bool → Type 0 → Type 0 → Type 0
OneOf true one other = one
OneOf false one other = other

-- the file of a path may hold these bytes, where standard input may hold those of `input`, and a file those
-- of `files`
abbrev pub with_input : (List ℕ → Type 0) → (List ℕ → List ℕ → Type 0) → List ℕ → List ℕ → Type 0
with_input input files path bytes = OneOf (is_input path) (input bytes) (files path bytes)

-- reading a path may fail, where reading standard input may for `input`, and reading a file for `files`
abbrev pub may_fail_with_input : Type 0 → (List ℕ → Type 0) → List ℕ → Type 0
may_fail_with_input input files path = OneOf (is_input path) input (files path)
