-- What stands in folders.
use Rattle.std.specs.Prelude.{◌==◌, ◌-◌, ◌||◌, ℕ, Bool, false, List, [], ◌∷◌, ◌++◌, Option, None, Some}
use Rattle.std.specs.Prelude.{if◌then◌else◌, is_some, length, map, nat_eq, nat_lt, option_map, slice_index}
use Rattle.std.specs.Prelude.{string_bytes}
use Rattle.std.specs.Option.{option_map_or}
use Rattle.std.specs.Borrow.{Bor}
use Rattle.std.specs.Cmp.Lexicographic.{pointwise}
use Rattle.std.specs.List.{before_first, list_any, position_or_len}
use Rattle.program_io.specs.Files.{bytes_at}
use Rattle.program_io.specs.declared.folders.Entry.{Entry}
use Rattle.program_io.specs.declared.folders.PathKind.{PathKind}
use Rattle.program_io.specs.declared.folders.PathKind.TheVariants as kinds

-- a name in a folder, and whether it is that of a folder
abbrev pub named_entry : Entry → List ℕ × Bool
named_entry entry = (string_bytes entry.name, entry.is_folder)

-- the names in a folder, and whether each is that of a folder
abbrev pub named : List Entry → List (List ℕ × Bool)
named entries = map named_entry entries

-- the byte is a slash
abbrev pub is_slash : ℕ → Bool
is_slash byte = byte == 47

-- what a text has behind this beginning, if it begins so
abbrev pub stripped : List ℕ → List ℕ → Option (List ℕ)
stripped [] text = Some text
stripped (byte ∷ bytes) [] = None
stripped (byte ∷ bytes) (first ∷ text) = if byte == first then stripped bytes text else None

-- the byte at the front of a text is a slash
abbrev pub begins_with_slash : List ℕ → Bool
begins_with_slash text = slice_index text 0 == 47

-- the byte at the end of a text is a slash
abbrev pub ends_with_slash : List ℕ → Bool
ends_with_slash text = slice_index text (length text - 1) == 47

-- a slash is between the two texts, at the end of the first or at the front of the second
abbrev pub slash_between : List ℕ → List ℕ → Bool
slash_between before behind = ends_with_slash before || begins_with_slash behind

-- the file is below the folder of this path, with a slash at its end or without one
abbrev pub is_below : List ℕ → List ℕ → Bool
is_below folder file = option_map_or (slash_between folder) (stripped folder file) false

-- what a path behind a prefix begins with: the name of a folder where a slash is in it, and else of a file
abbrev pub first_name : List ℕ → List ℕ × Bool
first_name path = (before_first is_slash path, nat_lt (position_or_len is_slash path) (length path))

-- what a file of this path says of the folder of a prefix: that this stands in it
unfoldable pub shown_by : List ℕ → List ℕ → Option (List ℕ × Bool)
shown_by prefix path = option_map first_name (stripped prefix path)

-- the names with one more, if it isn't among them
abbrev pub with_name : List (List ℕ × Bool) → Option (List ℕ × Bool) → List (List ℕ × Bool)
with_name names None = names
with_name names (Some name) = if list_any (λ other. pointwise nat_eq other.0 name.0) names then names
    else names ++ name ∷ []

-- the names with those that these files say of the folder of a prefix, each once, in the order of the files
abbrev pub with_names : List ℕ → List (Bor (List ℕ) × Bor (List ℕ)) → List (List ℕ × Bool)
    → List (List ℕ × Bool)
with_names prefix [] names = names
with_names prefix (file ∷ files) names =
    with_names prefix files (with_name names (shown_by prefix file.0.now))

-- what stands in the folder of a prefix, where these are all files
abbrev pub names_in : List (Bor (List ℕ) × Bor (List ℕ)) → List ℕ → List (List ℕ × Bool)
names_in files prefix = with_names prefix files []

-- what stands at a path, where these are all files: a file, or else a folder where one is below it
abbrev pub kind_in : List (Bor (List ℕ) × Bor (List ℕ)) → List ℕ → PathKind
kind_in files path = if is_some (bytes_at files path) then kinds.File else (
    if list_any (λ file. is_below path file.0.now) files then kinds.Folder else kinds.Nothing)
