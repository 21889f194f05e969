-- The words of the command `schema`: docs/NOTATION.md.
use Rattle.std.specs.Prelude.{ℕ, List, [], ◌∷◌, ◌≡◌, ◌⊎◌, Bool, true, false, codes}
use Rattle.apollo_compiler.specs.declared.compile_options.CompileOptions.{CompileOptions}

-- these words are the options that are on, each once, in any order: `--adopt` where the first is,
-- `--ignore-builtin` where the second is
abbrev pub AreOptionWords : Bool → Bool → List (List ℕ) → Type 0
AreOptionWords false false words = words ≡ []
AreOptionWords true false words = words ≡ codes "--adopt" ∷ []
AreOptionWords false true words = words ≡ codes "--ignore-builtin" ∷ []
AreOptionWords true true words = (words ≡ codes "--adopt" ∷ codes "--ignore-builtin" ∷ [])
    ⊎ (words ≡ codes "--ignore-builtin" ∷ codes "--adopt" ∷ [])

-- these words are these options
abbrev pub AreOptions : List (List ℕ) → CompileOptions → Type 0
AreOptions words options =
    AreOptionWords options.adopt_orphan_extensions options.ignore_builtin_redefinitions words

-- these words are the command `schema` with these options
abbrev pub AreSchemaWords : List (List ℕ) → CompileOptions → Type 0
AreSchemaWords [] options = ⊥
AreSchemaWords (first ∷ words) options = (first ≡ codes "schema") × AreOptions words options
