-- What is found below folders.
use Rattle.std.specs.Prelude.{◌≡◌, ◌⊎◌, ℕ, zero, suc, Bool, List, [], ◌∷◌, ◌++◌, Option, None, Some}
use Rattle.std.specs.Prelude.{MatchBool}
use Rattle.std.specs.Prelude.{string_bytes}
use Rattle.program_io.specs.declared.file_error.FileError.{FileError}
use Rattle.named_files.specs.Wanted.{is_hidden}
use Rattle.named_files.specs.declared.found.Found.{Found}
use Rattle.named_files.specs.declared.refusal.Refusal.{Refusal}
use Rattle.named_files.specs.declared.refusal.Refusal.TheVariants as refusals

-- In all of this `lists` says what may stand in the folder of a prefix, and `may_hide` whether listing it may
-- fail. `takes` says which files are wanted, by their paths, and `enters` which folders are looked into.

-- one name is found, with the refusal or none
abbrev pub FindsOne : List ℕ → Option Refusal → List Found → Type 0
FindsOne path refusal found = (one : Found)
    × ((found ≡ one ∷ []) × ((string_bytes one.path ≡ path) × (one.refusal ≡ refusal)))

-- nothing is found
abbrev pub FindsNothing : List Found → Type 0
FindsNothing found = found ≡ []

-- behind what was there something stands of which P holds
abbrev pub Adds : {A : Type 0} → (List A → Type 0) → List A → List A → Type 0
Adds {A} P old new = (added : List A) × ((new ≡ old ++ added) × P added)

-- one is found after the other, in order, of which `Finds` holds for each of these
abbrev pub FindsEach : {A B : Type 0} → (A → List B → Type 0) → List A → List B → Type 0
FindsEach Finds [] found = found ≡ []
FindsEach {A} {B} Finds (x ∷ xs) found = (first : List B)
    × ((rest : List B) × ((found ≡ first ++ rest) × (Finds x first × FindsEach Finds xs rest)))

-- what is found at the file of a path: itself, where it is wanted
abbrev pub FindsFile : Bool → List ℕ → List Found → Type 0
FindsFile is_taken path found = MatchBool is_taken (FindsOne path None found) (FindsNothing found)

-- what is found at the folder of a path: what is found below it, where it is looked into
abbrev pub FindsFolder : Bool → (List ℕ → List Found → Type 0) → List ℕ → List Found → Type 0
FindsFolder is_entered below path found =
    MatchBool is_entered (below (path ++ 47 ∷ []) found) (FindsNothing found)

-- what is found at what stands in the folder of a prefix under this name, unless the name is hidden
abbrev pub FindsAt : (List ℕ → Bool) → (List ℕ → Bool) → (List ℕ → List Found → Type 0) → List ℕ
    → List ℕ × Bool → List Found → Type 0
FindsAt takes enters below prefix name found = MatchBool (is_hidden name.0) (FindsNothing found)
    (MatchBool name.1 (FindsFolder (enters (prefix ++ name.0)) below (prefix ++ name.0) found)
    (FindsFile (takes (prefix ++ name.0)) (prefix ++ name.0) found))

-- what is found below the folder of a prefix, where folders may nest so deep: what is found at each of the
-- names that it lists. Or it can't be listed, which is found in place of that
abbrev pub FindsBelow : (List ℕ → Bool) → (List ℕ → Bool) → (List ℕ → List (List ℕ × Bool) → Type 0)
    → (List ℕ → Type 0) → ℕ → List ℕ → List Found → Type 0
FindsBelow takes enters lists may_hide zero prefix found = FindsOne prefix (Some refusals.TooDeep) found
FindsBelow takes enters lists may_hide (suc depth) prefix found =
    ((names : List (List ℕ × Bool))
    × (lists prefix names
    × FindsEach (FindsAt takes enters (FindsBelow takes enters lists may_hide depth) prefix) names found))
    ⊎ ((error : FileError)
    × (may_hide prefix × FindsOne prefix (Some (refusals.Unlisted error)) found))
