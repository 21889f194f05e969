-- Names that stand for no file, among files.
use Rattle.std.proofs.Common.{◌≡◌, ℕ, List, Option, None, Result, IfErr, MatchOption, subst}
use Rattle.program_io.specs.Files.{IsFileCause}
use Rattle.program_io.specs.declared.file_error.FileError.{FileError}
use Rattle.named_files.specs.declared.refusal.Refusal.{Refusal}

-- why a file isn't read whose path is not that of a refused name
pub unrefused : {T : Type 0} (refusal : Option Refusal) (held : List ℕ → Type 0) (fails : Type 0)
    (r : Result T FileError) → None ≡ refusal → IfErr r (IsFileCause held fails)
    → IfErr r (IsFileCause (λ bytes. MatchOption refusal (held bytes) (λ _. ⊥))
    (MatchOption refusal fails (λ _. Unit {0})))
unrefused refusal held fails r none cause =
    subst (λ other. IfErr r (IsFileCause (λ bytes. MatchOption other (held bytes) (λ _. ⊥))
    (MatchOption other fails (λ _. Unit {0})))) none cause
