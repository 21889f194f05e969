-- Which files words name.
use Rattle.std.specs.Prelude.{◌≡◌, ◌==◌, ◌⊎◌, ℕ, Bool, false, List, [], ◌∷◌, ◌++◌, None, Some, MatchBool}
use Rattle.std.specs.Prelude.{if◌then◌else◌, map, string_bytes, true}
use Rattle.std.specs.Cmp.Lexicographic.{pointwise, slice_cmp}
use Rattle.std.specs.Prelude.{◌||◌, codes, nat_eq}
use Rattle.std.specs.List.{before_first, fold, list_any}
use Rattle.std.specs.List.Sorted.{IsPermutation, IsSortedBy}
use Rattle.std.specs.Ordering.{is_lt, nat_cmp}
use Rattle.std.specs.Str.{bytes_eq}
use Rattle.program_io.specs.Entries.{ends_with_slash, is_slash}
use Rattle.program_io.specs.Files.{is_input}
use Rattle.program_io.specs.declared.folders.PathKind.{PathKind}
use Rattle.program_io.specs.declared.folders.PathKind.TheVariants as kinds
use Rattle.named_files.specs.Patterns.{matches, may_be_pattern, may_match_below}
use Rattle.named_files.specs.Walks.{FindsBelow, FindsEach, FindsOne}
use Rattle.named_files.specs.Wanted.{is_graphql}
use Rattle.named_files.specs.declared.found.Found.{Found}
use Rattle.named_files.specs.declared.naming.NamedFiles.{NamedFiles}
use Rattle.named_files.specs.declared.refusal.Refusal.TheVariants as refusals

-- In all of this `stands` says what may stand at a path, `lists` what may stand in the folder of a prefix,
-- and `may_hide` whether listing it may fail.

-- so deep folders may nest below one that is named
abbrev pub most_nested : ℕ
most_nested = 256

-- the path comes before the other, by their bytes
abbrev pub is_before : Found → Found → Bool
is_before one other = is_lt (slice_cmp nat_cmp (string_bytes one.path) (string_bytes other.path))

-- what is found there, in the order of the paths; or that nothing is found, which names the word
abbrev pub IsInOrder : List ℕ → List Found → List Found → Type 0
IsInOrder word [] found = FindsOne word (Some refusals.NothingFound) found
IsInOrder word (one ∷ more) found = IsPermutation (one ∷ more) found × IsSortedBy is_before found

-- what is found for a word below the folder of a prefix
abbrev pub FindsSome : (List ℕ → Bool) → (List ℕ → Bool) → (List ℕ → List (List ℕ × Bool) → Type 0)
    → (List ℕ → Type 0) → List ℕ → List ℕ → List Found → Type 0
FindsSome takes enters lists may_hide word prefix found = (there : List Found)
    × (FindsBelow takes enters lists may_hide most_nested prefix there × IsInOrder word there found)

-- the path is that of the folder that the program runs in
abbrev pub is_here : List ℕ → Bool
is_here path = pointwise nat_eq path (codes ".") || pointwise nat_eq path (codes "./")

-- the prefix of a folder: its path, with a slash at its end; and nothing for the folder that the program runs
-- in
abbrev pub as_prefix : List ℕ → List ℕ
as_prefix path = if is_here path then [] else (if ends_with_slash path then path else path ++ 47 ∷ [])

-- what a pattern has before the first sign that stands for others
abbrev pub before_wild : List ℕ → List ℕ
before_wild pattern = before_first (λ byte. byte == 63) (before_first (λ byte. byte == 42) pattern)

-- the prefix of the folder below which a pattern may match: what it has before the first sign that stands for
-- others, up to the last slash in that
pub record IsBase (pattern base : List ℕ) : Type 0 where
  pub rest : List ℕ
  pub split : before_wild pattern ≡ base ++ rest
  pub last : list_any is_slash rest ≡ false
  pub ends : (base ≡ []) ⊎ ((front : List ℕ) × (base ≡ front ++ 47 ∷ []))

-- what a word names, at which this stands: itself; or the files of GraphQL text below the folder; or where
-- nothing stands there, and it may be a pattern, the files that it matches
abbrev pub NamesKind : (List ℕ → List (List ℕ × Bool) → Type 0) → (List ℕ → Type 0) → List ℕ → PathKind
    → List Found → Type 0
NamesKind lists may_hide word kinds.File found = FindsOne word None found
NamesKind lists may_hide word kinds.Folder found =
    FindsSome is_graphql (λ folder. true) lists may_hide word (as_prefix word) found
NamesKind lists may_hide word kinds.Nothing found = MatchBool (may_be_pattern word)
    ((base : List ℕ)
    × (IsBase word base × FindsSome (matches word) (may_match_below word) lists may_hide word base found))
    (FindsOne word None found)

-- what a word names: standard input, or what stands there
abbrev pub NamesWord : (List ℕ → PathKind → Type 0) → (List ℕ → List (List ℕ × Bool) → Type 0)
    → (List ℕ → Type 0) → List ℕ → List Found → Type 0
NamesWord stands lists may_hide word found = MatchBool (is_input word) (FindsOne word None found)
    ((kind : PathKind) × (stands word kind × NamesKind lists may_hide word kind found))

-- a name with this path is among them
abbrev pub is_named : List ℕ → List Found → Bool
is_named path named = list_any (λ other. bytes_eq (string_bytes other.path) path) named

-- what is named, and the paths that are named again, with one more
abbrev pub with_one : List Found × List (List ℕ) → Found → List Found × List (List ℕ)
with_one named one = if is_named (string_bytes one.path) named.0
    then (named.0, named.1 ++ string_bytes one.path ∷ []) else (named.0 ++ one ∷ [], named.1)

-- the first of each path, and the paths that are named again, in order
abbrev pub first_ones : List Found → List Found × List (List ℕ)
first_ones found = fold with_one ([], []) found

-- what is named, and what is named again
abbrev pub parts_of : NamedFiles → List Found × List (List ℕ)
parts_of named = (named.named.items, map string_bytes named.repeated.items)

-- these are the files that the words name, in their order, each once
abbrev pub AreNamed : (List ℕ → PathKind → Type 0) → (List ℕ → List (List ℕ × Bool) → Type 0)
    → (List ℕ → Type 0) → List (List ℕ) → NamedFiles → Type 0
AreNamed stands lists may_hide words named = (all : List Found)
    × (FindsEach (NamesWord stands lists may_hide) words all × (parts_of named ≡ first_ones all))
