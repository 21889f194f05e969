-- What texts have behind their beginnings.
use Rattle.std.proofs.Common.{◌≡◌, ◌≢◌, ℕ, Bool, List, [], ◌∷◌, ◌++◌, Option, None, Some, refl, arith, sym}
use Rattle.std.proofs.Common.{ap, ◌∙◌}
use Rattle.std.proofs.Common.{true, false, if◌then◌else◌, nat_eq, string_bytes, subst}
use Rattle.std.specs.Cmp.Lexicographic.{pointwise}
use Rattle.std.proofs.Common.{Bor, drop, ◌||◌, option_map, MatchOption}
use Rattle.std.specs.List.{list_any}
use Rattle.std.specs.Str.Pattern.{FindsTextPrefix, StripsPrefix}
use Rattle.program_io.specs.declared.folders.Entry.{Entry}
use Rattle.program_io.specs.Entries.{named, named_entry, stripped, with_name}

-- a beginning is taken off
pub stripped_of : (beginning text : List ℕ) → stripped beginning (beginning ++ text) ≡ Some text
stripped_of [] text = refl
stripped_of (b ∷ bs) text = grind (arith, stripped_of bs text)

-- what is left behind a beginning has it in front
pub of_stripped : (beginning text rest : List ℕ) → stripped beginning text ≡ Some rest
    → text ≡ beginning ++ rest
of_stripped [] text rest e = grind arith
of_stripped (b ∷ bs) [] rest e = cc
of_stripped (b ∷ bs) (c ∷ cs) rest e = grind (arith, of_stripped bs cs rest)

-- where no text is left behind a beginning, there is nothing
pub not_stripped : (beginning text : List ℕ) → ((rest : List ℕ) → text ≢ beginning ++ rest)
    → stripped beginning text ≡ None
not_stripped beginning text lacks = cases (stripped beginning text) (of_stripped beginning text) lacks
  where
    cases : (r : Option (List ℕ)) → ((rest : List ℕ) → r ≡ Some rest → text ≡ beginning ++ rest)
        → ((rest : List ℕ) → text ≢ beginning ++ rest) → r ≡ None
    cases None holds lacks = refl
    cases (Some rest) holds lacks = absurd (lacks rest (holds rest refl))

-- what `strip_prefix` answers is what is left behind the beginning
pub from_strip_prefix : (beginning text : List ℕ) (r : Option (Bor (List ℕ)))
    → MatchOption r ((rest : List ℕ) → drop 0 text ≢ beginning ++ rest)
    (λ x. StripsPrefix (FindsTextPrefix beginning) text x.now)
    → option_map (λ x. x.now) r ≡ stripped beginning text
from_strip_prefix beginning text None lacks = sym (not_stripped beginning text lacks)
from_strip_prefix beginning text (Some x) found = sym (
    ap (λ l. stripped beginning l) found.1.1 ∙ stripped_of beginning (drop found.0 text)
    ∙ ap Some (sym found.2)
    )

-- a test of names is one of what has the names
pub list_any-named : (p : List ℕ × Bool → Bool) (entries : List Entry)
    → list_any p (named entries) ≡ list_any (λ entry. p (named_entry entry)) entries
list_any-named p [] = refl
list_any-named p (entry ∷ entries) = ap (λ b. p (named_entry entry) || b) (list_any-named p entries)

-- a name more at the end
pub named-push : (entries : List Entry) (entry : Entry)
    → named (entries ++ entry ∷ []) ≡ named entries ++ named_entry entry ∷ []
named-push [] entry = refl
named-push (e ∷ entries) entry = ap (λ l. named_entry e ∷ l) (named-push entries entry)

-- whether a name is among those of a folder
among : (entries items : List Entry) (name : List ℕ) (there : Bool) → items ≡ entries
    → there ≡ list_any (λ other. pointwise nat_eq (string_bytes other.name) name) items
    → list_any (λ other. pointwise nat_eq other.0 name) (named entries) ≡ there
among entries items name there same is = list_any-named (λ other. pointwise nat_eq other.0 name) entries
    ∙ ap (λ l. list_any (λ other. pointwise nat_eq (string_bytes other.name) name) l) (sym same) ∙ sym is

-- a name that is there changes nothing
pub with_known : (entries items : List Entry) (name : List ℕ) (folder there : Bool)
    (shown : Option (List ℕ × Bool)) → Some (name, folder) ≡ shown → items ≡ entries
    → there ≡ list_any (λ other. pointwise nat_eq (string_bytes other.name) name) items → there ≡ true
    → named entries ≡ with_name (named entries) shown
with_known entries items name folder there shown e same is is_true =
    subst (λ s. named entries ≡ with_name (named entries) s) e
    (sym (ap (λ b. if b then named entries else named entries ++ (name, folder) ∷ [])
    (among entries items name there same is ∙ is_true)))

-- a name that isn't there comes last
pub with_new : (entries items : List Entry) (entry : Entry) (name : List ℕ) (folder there : Bool)
    (shown : Option (List ℕ × Bool)) → Some (name, folder) ≡ shown → items ≡ entries
    → there ≡ list_any (λ other. pointwise nat_eq (string_bytes other.name) name) items → there ≡ false
    → string_bytes entry.name ≡ name → entry.is_folder ≡ folder
    → named (entries ++ entry ∷ []) ≡ with_name (named entries) shown
with_new entries items entry name folder there shown e same is is_false names sorts =
    subst (λ s. named (entries ++ entry ∷ []) ≡ with_name (named entries) s) e
    (named-push entries entry
    ∙ ap (λ n. named entries ++ (n, entry.is_folder) ∷ []) names
    ∙ ap (λ f. named entries ++ (name, f) ∷ []) sorts
    ∙ sym (ap (λ b. if b then named entries else named entries ++ (name, folder) ∷ [])
    (among entries items name there same is ∙ is_false)))
