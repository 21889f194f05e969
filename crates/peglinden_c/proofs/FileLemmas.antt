-- Lists of files, and one more.
use Rattle.std.proofs.Common.{◌≡◌, ◌∙◌, ℕ, ◌+◌, ◌<◌, ◌≤◌, List, [], ◌∷◌, ◌++◌, IsUtf8, ap, append_assoc, get_or}
use Rattle.std.proofs.Common.{length, map, subst, sym, take}
use Rattle.std.proofs.lemmas.List.{get_or-map, length-map, map-append, take_all, take_more}
use Rattle.std.proofs.lemmas.List.Elements.{All-push}
use Rattle.peglinden_c.specs.Files.{AreTexts, paths_of}
use Rattle.peglinden_c.specs.declared.files.PegFile.{PegFile}

-- what is mapped of so many, behind a list, with one more
pub more_mapped : {A B : Type 0} (f : A → B) (xs : List A) (i : ℕ) (d : A) (old middle new : List B)
    → i < length xs → middle ≡ old ++ map f (take i xs) → new ≡ middle ++ f (get_or xs i d) ∷ []
    → new ≡ old ++ map f (take (i + 1) xs)
more_mapped f xs i d old middle new below before one =
    one ∙ ap (λ l. l ++ f (get_or xs i d) ∷ []) before
    ∙ append_assoc old (map f (take i xs)) (f (get_or xs i d) ∷ [])
    ∙ ap (λ l. old ++ l) (sym (map-append f (take i xs) (get_or xs i d ∷ [])))
    ∙ ap (λ ys. old ++ map f ys) (sym (take_more xs i d below))

-- the paths of so many files are texts, and so is one more
pub more_texts : (files : List PegFile) (i : ℕ) (d : PegFile) → i < length files
    → AreTexts (paths_of (take i files)) → IsUtf8 (get_or files i d).path.now
    → AreTexts (paths_of (take (i + 1) files))
more_texts files i d below before one = subst AreTexts
    (sym (ap paths_of (take_more files i d below)
    ∙ map-append (λ (file : PegFile). file.path.now) (take i files) (get_or files i d ∷ [])))
    (All-push IsUtf8 (paths_of (take i files)) (get_or files i d).path.now before one)

-- where the paths of files are texts, each is one
pub text_of_each : (files : List PegFile) (i : ℕ) (d : PegFile) → i < length files → AreTexts (paths_of files)
    → IsUtf8 (get_or files i d).path.now
text_of_each files i d below texts =
    let path = λ (file : PegFile). file.path.now in
    let inside = subst (λ (n : ℕ). i < n) (sym (length-map files path)) below in
    subst IsUtf8 (get_or-map path files i d (path d) below) (texts i (path d) inside)

-- all of them are so many
pub texts_of_all : (files : List PegFile) (i : ℕ) → length files ≤ i → AreTexts (paths_of (take i files))
    → AreTexts (paths_of files)
texts_of_all files i past texts =
    subst (λ (fs : List PegFile). AreTexts (paths_of fs)) (take_all i files past) texts
