-- What words name.
use Rattle.std.proofs.Common.{◌≡◌, ℕ, ◌<◌, ◌≤◌, Bool, true, false, List, [], ◌∷◌, ◌++◌, Option, None, Some}
use Rattle.std.proofs.Common.{Result, Ok, Err, OnOk, length, refl, sym, ap, subst, ◌∙◌, arith, string_bytes}
use Rattle.std.proofs.Common.{Bor}
use Rattle.std.specs.Cmp.{IsStrictWeakOrder}
use Rattle.std.specs.Cmp.Lexicographic.{slice_cmp}
use Rattle.std.specs.Fn.{Called, ComparesAs}
use Rattle.std.specs.List.{list_any}
use Rattle.std.specs.List.Sorted.{IsSortedBy}
use Rattle.std.specs.Ordering.{is_lt, nat_cmp}
use Rattle.std.specs.declared.cmp.Ordering.{Ordering}
use Rattle.std.proofs.lemmas.Cmp.{nat_list_cmp_total}
use Rattle.std.proofs.lemmas.Fn.{always_returns_same}
use Rattle.std.proofs.lemmas.List.Sorted.{ranks_by}
use denote.Param.Members.{Mut}
use Rattle.std.proofs.Common.{◌==◌, ◌||◌, ◌≢◌, String, cond, get_or, lit<, suc}
use Rattle.std.specs.BTreeSet.{BTreeSet, UpdatesBy}
use Rattle.std.specs.Str.{bytes_eq}
use Rattle.std.specs.String.{string_cmp}
use Rattle.std.specs.declared.alloc.Global.{Global}
use Rattle.std.proofs.lemmas.Bool.Decides.{nat_tests}
use Rattle.std.proofs.lemmas.List.Folds.{list_any-append}
use Rattle.std.proofs.lemmas.Map.Text.{btree_set_updates_text}
use Rattle.std.proofs.lemmas.Str.Pattern.{IsSplitOnceResult, split_parts}
use Rattle.program_io.specs.Entries.{is_slash}
use Rattle.program_io.specs.declared.folders.PathKind.{PathKind}
use Rattle.program_io.specs.declared.folders.PathKind.TheVariants as kinds
use Rattle.std.proofs.Common.{map, take}
use Rattle.std.proofs.lemmas.List.{take_all}
use Rattle.named_files.specs.declared.naming.NamedFiles.{NamedFiles}
use Rattle.named_files.specs.Naming.{AreNamed, NamesWord, first_ones, parts_of}
use Rattle.named_files.specs.Naming.{FindsSome, IsBase, IsInOrder, NamesKind, as_prefix, is_before}
use Rattle.named_files.specs.Naming.{is_named, most_nested}
use Rattle.named_files.specs.Patterns.{matches, may_be_pattern, may_match_below}
use Rattle.named_files.specs.Seen.{Tracks}
use Rattle.named_files.specs.Wanted.{is_graphql}
use Rattle.named_files.specs.Walks.{Adds, FindsBelow, FindsEach}
use Rattle.named_files.specs.declared.found.Found.{Found}
use Rattle.named_files.proofs.WalkLemmas.{adds-then, each-map, match_true}

-- what follows where that went well
pub on_ok : {T E P Q : Type 0} (r : Result T E) → (P → Q) → OnOk r P → OnOk r Q
on_ok (Ok x) more is = more is
on_ok (Err e) more is = tt

-- the order that a sort by paths gives
pub ordered-from_sort_by : {F : Type 0} {g : Mut F (Bor Found × (Bor Found × Unit {0})) Ordering} {f : F}
    (xs : List Found)
    → ((lt : Found → Found → Bool) → IsStrictWeakOrder lt → ComparesAs g lt f → IsSortedBy lt xs)
    → ((a : Bor Found × (Bor Found × Unit {0})) (r : Ordering) (f' : F) → Called g f a r f'
    → (r ≡ slice_cmp nat_cmp (string_bytes a.0.now.path) (string_bytes a.1.0.now.path)) × (f' ≡ f))
    → IsSortedBy is_before xs
ordered-from_sort_by {g = g} {f = f} xs up h =
    up is_before (ranks_by nat_list_cmp_total (λ (one : Found). string_bytes one.path))
    (always_returns_same g (λ a r. is_lt r ≡ is_before a.0.now a.1.0.now) f
    (λ a r f' k. (ap is_lt (h a r f' k).0, (h a r f' k).1)))

-- what is found below a folder, put in order
pub some-added : (takes enters : List ℕ → Bool) (lists : List ℕ → List (List ℕ × Bool) → Type 0)
    (may_hide : List ℕ → Type 0) (word prefix : List ℕ) (none there old new : List Found) → none ≡ []
    → Adds (FindsBelow takes enters lists may_hide most_nested prefix) none there
    → Adds (IsInOrder word there) old new → Adds (FindsSome takes enters lists may_hide word prefix) old new
some-added takes enters lists may_hide word prefix none there old new empty is ordered =
    let same : there ≡ is.0 = is.1.0 ∙ ap (λ l. l ++ is.0) empty in
    adds-then (IsInOrder word there) (FindsSome takes enters lists may_hide word prefix) old new
    (λ found put. (
      there,
      (subst (λ l. FindsBelow takes enters lists may_hide most_nested prefix l) (sym same) is.1.1, put),
    )) ordered

-- a folder's files are what its word names
pub folder-named : (lists : List ℕ → List (List ℕ × Bool) → Type 0) (may_hide : List ℕ → Type 0)
    (word prefix : List ℕ) (kind : PathKind) (old new : List Found) → kind ≡ kinds.Folder
    → prefix ≡ as_prefix word
    → Adds (FindsSome is_graphql (λ folder. true) lists may_hide word prefix) old new
    → Adds (NamesKind lists may_hide word kind) old new
folder-named lists may_hide word prefix kind old new is same finds =
    subst (λ k. Adds (NamesKind lists may_hide word k) old new) (sym is)
    (subst (λ p. Adds (FindsSome is_graphql (λ folder. true) lists may_hide word p) old new) same finds)

-- what a pattern matches is what its word names
pub pattern-named : (lists : List ℕ → List (List ℕ × Bool) → Type 0) (may_hide : List ℕ → Type 0)
    (word base prefix : List ℕ) (kind : PathKind) (may : Bool) (old new : List Found) → kind ≡ kinds.Nothing
    → may ≡ may_be_pattern word → may ≡ true → IsBase word base → prefix ≡ base
    → Adds (FindsSome (matches word) (may_match_below word) lists may_hide word prefix) old new
    → Adds (NamesKind lists may_hide word kind) old new
pattern-named lists may_hide word base prefix kind may old new is means is_true bases same finds =
    subst (λ k. Adds (NamesKind lists may_hide word k) old new) (sym is)
    (adds-then (FindsSome (matches word) (may_match_below word) lists may_hide word prefix)
    (NamesKind lists may_hide word kinds.Nothing) old new
    (λ found some. match_true (may_be_pattern word) _ _ (sym means ∙ is_true) (
      base,
      (
        bases,
        subst (λ p. FindsSome (matches word) (may_match_below word) lists may_hide word p found) same
            some,
      ),
    )) finds)

cond_or : (here there : Bool) → cond here true there ≡ (there || (here || false))
cond_or true true = refl
cond_or true false = refl
cond_or false true = refl
cond_or false false = refl

-- one path more that is seen
pub tracks-more : (seen after : BTreeSet (String Global)) (named more : List Found) (one : Found)
    (key : String Global) → string_bytes key ≡ string_bytes one.path → more ≡ named ++ one ∷ []
    → UpdatesBy string_cmp (λ k. slice_cmp nat_cmp (string_bytes key) (string_bytes k)) seen after true
    → Tracks seen named → Tracks after more
tracks-more seen after named more one key same is updates tracks path =
    btree_set_updates_text (string_bytes key) seen after true updates path
    ∙ ap (λ b. cond (bytes_eq (string_bytes key) path) true b) (tracks path)
    ∙ ap (λ k. cond (bytes_eq k path) true (is_named path named)) same
    ∙ cond_or (bytes_eq (string_bytes one.path) path) (is_named path named)
    ∙ sym (list_any-append (λ (other : Found). bytes_eq (string_bytes other.path) path) named (one ∷ []))
    ∙ ap (λ l. is_named path l) (sym is)

-- where no byte is a slash, none is found
none_slash : (bytes : List ℕ) → ((i : ℕ) → i < length bytes → get_or bytes i 0 ≢ 47)
    → list_any is_slash bytes ≡ false
none_slash [] not = refl
none_slash (byte ∷ bytes) not =
    let rest = none_slash bytes (λ i within. not (suc i) (omega arith)) in
    let first = not 0 (omega arith) in
    let off : (byte == 47) ≡ false = grind (arith, nat_tests, first) in
    ap (λ b. b || list_any is_slash bytes) off ∙ rest

-- where a text isn't split at a slash it has none
pub not_split : (text : List ℕ) (r : Option (Bor (List ℕ) × Bor (List ℕ))) → IsSplitOnceResult 47 text r
    → ((x : Bor (List ℕ) × Bor (List ℕ)) → r ≡ Some x → ⊥) → list_any is_slash text ≡ false
not_split text None splits other = none_slash text (split_parts 47 text None splits (lit< tt))
not_split text (Some x) splits other = absurd (other x refl)

-- what was found for all words is what they name
pub named-of-all : (stands : List ℕ → PathKind → Type 0) (lists : List ℕ → List (List ℕ × Bool) → Type 0)
    (may_hide : List ℕ → Type 0) (words : List (Bor (List ℕ))) (i : ℕ) (all : List Found) (named : NamedFiles)
    → length words ≤ i
    → Adds (FindsEach (λ word. NamesWord stands lists may_hide word.now) (take i words)) [] all
    → parts_of named ≡ first_ones all → AreNamed stands lists may_hide (map (λ word. word.now) words) named
named-of-all stands lists may_hide words i all named past are is = (
  all,
  (
    subst (λ l. FindsEach (NamesWord stands lists may_hide) (map (λ word. word.now) words) l) (sym are.1.0)
        (each-map (NamesWord stands lists may_hide) (λ (word : Bor (List ℕ)). word.now) words are.0
        (subst (λ l. FindsEach (λ word. NamesWord stands lists may_hide word.now) l are.0)
        (take_all i words past) are.1.1)),
    is,
  ),
)
