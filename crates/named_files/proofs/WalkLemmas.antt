-- What is found, one after the other.
use Rattle.std.proofs.Common.{◌≡◌, ◌≢◌, inl, inr, ℕ, suc, ◌+◌, ◌-◌, ◌<◌, Bool, List, [], ◌∷◌, ◌++◌, Option}
use Rattle.std.proofs.Common.{Some, get_or, length, take, map, refl, sym, ap, subst, ◌∙◌, append_assoc}
use Rattle.std.proofs.Common.{arith, string_bytes}
use Rattle.std.proofs.lemmas.List.{append-nil, take_more}
use Rattle.program_io.specs.declared.file_error.FileError.{FileError}
use Rattle.named_files.specs.declared.found.Found.{Found}
use Rattle.named_files.specs.declared.refusal.Refusal.{Refusal}
use Rattle.named_files.specs.declared.refusal.Refusal.TheVariants as refusals
use Rattle.std.proofs.Common.{◌≤◌, true, false, MatchBool, OnOk, Result, Ok, Err}
use Rattle.std.proofs.lemmas.List.{take_all}
use Rattle.program_io.specs.Entries.{named, named_entry}
use Rattle.program_io.specs.Files.{IsReadCause}
use Rattle.program_io.specs.declared.file_error.FileError.TheVariants as errors
use Rattle.program_io.specs.declared.folders.Entry.{Entry}
use Rattle.named_files.specs.Wanted.{is_hidden}
use Rattle.named_files.specs.Walks.{Adds, FindsAt, FindsBelow, FindsEach, FindsFile, FindsOne}

-- one that is added
pub one-added : (old new : List Found) (one : Found) (path : List ℕ) (refusal : Option Refusal)
    → new ≡ old ++ one ∷ [] → string_bytes one.path ≡ path → one.refusal ≡ refusal
    → Adds (FindsOne path refusal) old new
one-added old new one path refusal is paths refusals = (one ∷ [], (is, (one, (refl, (paths, refusals)))))

-- nothing that is added
pub none-added : {A : Type 0} (old : List A) → Adds (λ found. found ≡ []) old old
none-added old = ([], (sym (append-nil old), refl))

-- for each of nothing nothing is added
pub each-none : {A B : Type 0} (Finds : A → List B → Type 0) (old : List B)
    → Adds (FindsEach Finds []) old old
each-none Finds old = none-added old

each-more : {A B : Type 0} (Finds : A → List B → Type 0) (xs : List A) (x : A) (found more : List B)
    → FindsEach Finds xs found → Finds x more → FindsEach Finds (xs ++ x ∷ []) (found ++ more)
each-more Finds [] x found more are is =
    (more, ([], (ap (λ l. l ++ more) are ∙ sym (append-nil more), (is, refl))))
each-more Finds (first ∷ xs) x found more are is =
    let rest = each-more Finds xs x are.1.0 more are.1.1.1.1 is in
    let all = ap (λ l. l ++ more) are.1.1.0 ∙ append_assoc are.0 are.1.0 more in
    (are.0, (are.1.0 ++ more, (all, (are.1.1.1.0, rest))))

-- behind what is found for some things that for the next one is added
pub each-next : {A B : Type 0} (Finds : A → List B → Type 0) (xs : List A) (i : ℕ) (x : A)
    (before held after : List B) → i < length xs → x ≡ get_or xs i x
    → Adds (FindsEach Finds (take i xs)) before held → Adds (Finds x) held after
    → Adds (FindsEach Finds (take (i + 1) xs)) before after
each-next Finds xs i x before held after below is was now = (
  was.0 ++ now.0,
  (
    now.1.0 ∙ ap (λ l. l ++ now.0) was.1.0 ∙ append_assoc before was.0 now.0,
    rw (take_more xs i x below) (each-more Finds _ _ was.0 now.0 was.1.1 (subst (λ y. Finds y now.0) is
        now.1.1)),
  ),
)

-- the same, where the next one is that at a place
pub each-at : {A B : Type 0} (Finds : A → List B → Type 0) (xs : List A) (i : ℕ) (d : A)
    (before held after : List B) → i < length xs → Adds (FindsEach Finds (take i xs)) before held
    → Adds (Finds (get_or xs i d)) held after → Adds (FindsEach Finds (take (i + 1) xs)) before after
each-at Finds xs i d before held after below was now = (
  was.0 ++ now.0,
  (
    now.1.0 ∙ ap (λ l. l ++ now.0) was.1.0 ∙ append_assoc before was.0 now.0,
    rw (take_more xs i d below) (each-more Finds _ _ was.0 now.0 was.1.1 now.1.1),
  ),
)

-- for each of what things are made to
pub each-map : {A B C : Type 0} (Finds : A → List B → Type 0) (f : C → A) (xs : List C) (found : List B)
    → FindsEach (λ x. Finds (f x)) xs found → FindsEach Finds (map f xs) found
each-map Finds f [] found are = are
each-map Finds f (x ∷ xs) found are =
    (are.0, (are.1.0, (are.1.1.0, (are.1.1.1.0, each-map Finds f xs are.1.0 are.1.1.1.1))))

-- what is added of which one holds, where that gives the other
pub adds-then : {A : Type 0} (P Q : List A → Type 0) (old new : List A)
    → ((added : List A) → P added → Q added)
    → Adds P old new → Adds Q old new
adds-then P Q old new more is = (is.0, (is.1.0, more is.0 is.1.1))

-- the same where that went well
pub ok-adds-then : {A T E : Type 0} (P Q : List A → Type 0) (r : Result T E) (old new : List A)
    → ((added : List A) → P added → Q added) → OnOk r (Adds P old new) → OnOk r (Adds Q old new)
ok-adds-then P Q (Ok x) old new more is = adds-then P Q old new more is
ok-adds-then P Q (Err e) old new more is = tt

-- what a flag that is set decides
pub match_true : (b : Bool) (P Q : Type 0) → b ≡ true → P → MatchBool b P Q
match_true true P Q e p = p
match_true false P Q e p = cc

match_false : (b : Bool) (P Q : Type 0) → b ≡ false → Q → MatchBool b P Q
match_false true P Q e q = cc
match_false false P Q e q = q

-- at what stands in a folder
module _ (takes enters : List ℕ → Bool) (below : List ℕ → List Found → Type 0) (prefix : List ℕ)
    (name : List ℕ × Bool) where
  -- a hidden name
  pub at-hidden : (old : List Found) → is_hidden name.0 ≡ true
      → Adds (FindsAt takes enters below prefix name) old old
  at-hidden old hidden = ([], (sym (append-nil old), match_true (is_hidden name.0) _ _ hidden refl))

  -- a file
  pub at-file : (path : List ℕ) (found : List Found) → is_hidden name.0 ≡ false → name.1 ≡ false
      → path ≡ prefix ++ name.0 → FindsFile (takes path) path found
      → FindsAt takes enters below prefix name found
  at-file path found hidden sort is finds =
      match_false (is_hidden name.0) _ _ hidden
      (match_false name.1 _ _ sort (subst (λ p. FindsFile (takes p) p found) is finds))

  -- a folder that is not looked into
  pub at-unentered : (old : List Found) (path : List ℕ) (answer : Bool) → is_hidden name.0 ≡ false
      → name.1 ≡ true → path ≡ prefix ++ name.0 → answer ≡ enters path → answer ≡ false
      → Adds (FindsAt takes enters below prefix name) old old
  at-unentered old path answer hidden sort is entered is_false = (
    [],
    (
      sym (append-nil old),
      match_false (is_hidden name.0) _ _ hidden (match_true name.1 _ _ sort
          (match_false (enters (prefix ++ name.0)) _ _ (ap enters (sym is) ∙ sym entered ∙ is_false) refl)),
    ),
  )

-- why a folder can't be listed, where that is not that memory ran out
cannot : (may_fail : Type 0) (error : FileError) → IsReadCause may_fail error → error ≢ errors.Memory
    → may_fail
cannot may_fail (errors.CannotRead why) cause other = cause
cannot may_fail errors.NotText cause other = absurd cause
cannot may_fail errors.Memory cause other = absurd (other refl)

-- below a folder
module _ (takes enters : List ℕ → Bool) (lists : List ℕ → List (List ℕ × Bool) → Type 0)
    (may_hide : List ℕ → Type 0) (depth : ℕ) (prefix : List ℕ) (old new : List Found) where
  -- where it is listed
  pub below-listed : (entries items : List Entry) (i : ℕ) → depth ≢ 0 → lists prefix (named entries)
      → items ≡ entries → length items ≤ i
      → Adds (FindsEach (λ entry. FindsAt takes enters
      (FindsBelow takes enters lists may_hide (depth - 1)) prefix
      (named_entry entry)) (take i items)) old new
      → Adds (FindsBelow takes enters lists may_hide depth prefix) old new
  below-listed entries items i deep listed same past are =
      let whole : take i items ≡ entries = take_all i items past ∙ same in
      let d : suc (depth - 1) ≡ depth = omega arith in
      subst (λ n. Adds (FindsBelow takes enters lists may_hide n prefix) old new) d
      (adds-then _ _ old new (λ added each. inl (
        named entries,
        (
          listed,
          each-map _ named_entry entries added
              (subst (λ l. FindsEach (λ entry finds. FindsAt takes enters
              (FindsBelow takes enters lists may_hide (depth - 1)) prefix (named_entry entry) finds) l added)
              whole each),
        ),
      )) are)

  -- where it can't be listed
  pub below-unlisted : (error : FileError) → depth ≢ 0 → IsReadCause (may_hide prefix) error
      → error ≢ errors.Memory → Adds (FindsOne prefix (Some (refusals.Unlisted error))) old new
      → Adds (FindsBelow takes enters lists may_hide depth prefix) old new
  below-unlisted error deep cause other is =
      let d : suc (depth - 1) ≡ depth = omega arith in
      subst (λ n. Adds (FindsBelow takes enters lists may_hide n prefix) old new) d
      (adds-then _ _ old new (λ added one. inr (error, (cannot (may_hide prefix) error cause other, one))) is)

-- two facts of a result that went well, as one
pub ok-both : {T E P Q R : Type 0} (r : Result T E) → (P → Q → R) → OnOk r P → OnOk r Q → OnOk r R
ok-both (Ok x) both p q = both p q
ok-both (Err e) both p q = tt
