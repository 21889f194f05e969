-- Whether a request names standard input.
use Rattle.std.specs.Prelude.{ℕ, Bool, List, ◌||◌}
use Rattle.std.specs.Borrow.{Bor}
use Rattle.std.specs.List.{list_any}
use Rattle.program_io.specs.Files.{is_input}
use Rattle.peglinden_words.specs.declared.request.Request.{Request}
use Rattle.peglinden_words.specs.declared.request.Request.TheVariants as requests
use Rattle.peglinden_words.specs.declared.request.Typing.{Typing}

-- one of these paths names standard input
abbrev pub any_input : List (Bor (List ℕ)) → Bool
any_input paths = list_any (λ path. is_input path.now) paths

-- these documents, or the files of their schema, name standard input
abbrev pub type_input : Typing → Bool
type_input typing = any_input typing.schema.items || any_input typing.documents.items

-- the request names standard input among its files
abbrev pub names_input : Request → Bool
names_input (requests.Schema adopt ignore_builtin reporting files) = any_input files.items
names_input (requests.Check typing) = type_input typing
names_input (requests.Typed typing) = type_input typing
names_input (requests.Fields typing) = type_input typing
names_input (requests.Lookup coordinate reporting files) = any_input files.items
names_input (requests.Format check reporting files) = any_input files.items
